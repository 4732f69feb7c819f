-- `load::steps_in` adds one row a turn: at i it holds the steps of the first i rows. A load counts at most 255 rows and
-- a row at most 255 steps, so the sum fits; past the 24 places nothing stands in the list, and the row of zeros has no
-- step.
use Prim.Native.Nat.{ℕ}
use mathlib.Core.Bool.{cond}
use mathlib.Core.Path.{◌≡◌, sym, ap, ◌∙◌}
use native.Mathlib.Decide.{dec_lt}
use native.Mathlib.Omega.{arith}
use lib.Dec.{ltb}
use lib.ListN.{length, get_or-eq_default}
use borrow.Author.Rules.{rules}
use borrow.Author.Tests.{lt-ltb, le-ltb}
use Rattle.counting.specs.Sums.{sum_to}
use Rattle.counting.proofs.sums.SumLaws.{sum_to-zero, sum_to-next}
use Rattle.load.specs.declared.Row.{Row}
use Rattle.load.specs.declared.Load.{Load}
use Rattle.load.specs.Load.{most_rows, no_row, row_at, zero_row}
use Rattle.load.specs.View.{view_of}
use Rattle.load.proofs.parts.steps_in.Goals as goal
use Rattle.load.proofs.parts.steps_in.Invariants.{steps_of}

pub loop-i-init : goal.loop-i-init
loop-i-init c = (search rules, sym (sum_to-zero _), search rules)

-- the row that is looked at has the steps of the row at its place
steps-there : (load : Load) (i : ℕ) → length load.row ≡ most_rows
    → (cond (ltb i most_rows) (row_at load i) zero_row).steps ≡ steps_of load i
unfolding zero_row
steps-there load i all =
    elim (dec_lt i most_rows) [
      | yes l ↦ rw (lt-ltb i most_rows l)
      | no l ↦
          rw (le-ltb i most_rows (omega arith))
          (sym (ap (λ (row : Row). row.steps) (get_or-eq_default load.row no_row (omega (arith, all)))))
    ]

pub loop-i-preserved : goal.loop-i-preserved
loop-i-preserved c =
    let load = c.args.load in
    let all : length load.row ≡ most_rows = c.well_formed.0.1.1.0.1.0.1 in
    let added : c.row_at-row.result.steps ≡ steps_of load c.loop-i.i =
    ap (λ (row : Row). row.steps) c.row_at-row.ensures ∙ steps-there load c.loop-i.i all in
    (search rules, omega (arith, sum_to-next (steps_of load) c.loop-i.i, added, c.loop-i.invariant.1), search rules)

pub returns : goal.returns
unfolding view_of
returns c =
    let load = c.args.load in
    let e : c.loop-i.i ≡ load.rows = omega arith in
    c.loop-i.invariant.1 ∙ ap (sum_to (steps_of load)) e
