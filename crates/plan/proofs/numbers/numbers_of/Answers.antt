-- `numbers_of` marks the lowest unfinished step, and then that of one open row a turn: what is marked stays so.
use Rattle.std.proofs.Common.{arith, ◌≡◌, sym, ◌∙◌, ap, set, length, length-set, replicate}
use mathlib.Core.Bool.{true, false}
use borrow.Author.Tests.{not-true}
use lib.Seq.{get_or-set_same}
use Rattle.counting.specs.Lists.{is_marked}
use Rattle.plan.proofs.NumberLaws.{numbers-first, numbers-all}
use Rattle.plan.proofs.numbers.numbers_of.Goals as goal
use Rattle.plan.proofs.numbers.numbers_of.Goals.{then-lowest, else-lowest}

pub returns-then-none_open : goal.returns-then-none_open
returns-then-none_open c =
    numbers-all _ _ _ _ _ (not-true _ (sym c.none_open.ensures ∙ c.if-none_open.true))
    (elim c.if-lowest.branch [
      | then-lowest w ↦
          let e : c.if-lowest.numbers ≡ set (replicate 8 false) c.args.lowest true = w.numbers-is
          ∙ w.mark_number.ensures in
          numbers-first _ _ _ _ (ap length e ∙ length-set (replicate 8 false) c.args.lowest true)
          (λ l. ap (λ m. is_marked m c.args.lowest) e
          ∙ get_or-set_same (replicate 8 false) c.args.lowest true false l)
      | else-lowest w ↦ numbers-first _ _ _ _ (ap length w.numbers-is) (λ l. absurd (omega (arith, w.if-lowest.false)))
    ])
