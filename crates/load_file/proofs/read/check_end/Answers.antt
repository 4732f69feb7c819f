-- `check_end` asks the count of steps, and whether bytes follow, behind the tests of its record.
use Prim.Native.Nat.{ℕ, ◌+◌}
use mathlib.Core.Bool.{Bool, not}
use mathlib.Core.List.{List, [], ◌∷◌}
use mathlib.Core.Path.{◌≡◌, refl, ◌∙◌}
use Rattle.refusals.proofs.PassedOn.{passed_on}
use lib.Dec.{eqb, ltb}
use lib.ListN.{length}
use borrow.Author.Tests.{lt-ltb, le-ltb, eq-eqb, ne_eqb}
use Rattle.words.specs.LittleEndian.{number_at}
use Rattle.refusals.specs.declared.Refusal.{Refusal}
use Rattle.refusals.specs.declared.Refusal.TheVariants.{EndDiffers}
use Rattle.refusals.specs.FirstMet.{first_met}
use Rattle.load.specs.View.{view_of, steps_in_all}
use Rattle.load_records.specs.Records.{end_kind}
use Rattle.load_file.specs.Places.{load_in}
use Rattle.load_file.specs.Reading.{due_tests, end_tests}
use Rattle.load_file.proofs.faults.ReadingLaws.{behind-refused, behind-good}
use Rattle.load_file.proofs.read.check_end.Goals as goal
use Rattle.load_file.proofs.read.check_end.Goals.{In_ok-check_due}

-- the end record's own tests
abbrev own : List ℕ → ℕ → List (Bool × Refusal)
own bs at =
    (not (eqb (number_at 2 bs (at + 2)) (steps_in_all (view_of (load_in bs)))), EndDiffers)
    ∷ (ltb (at + end_kind.size) (length bs), EndDiffers)
    ∷ []

pub returns-in_err-check_due : goal.returns-in_err-check_due
unfolding end_tests
returns-in_err-check_due c =
    let start = c.args in
    let bs = start.bytes.now in
    passed_on _ _ c.from_residual.ensures.1
    ∙ behind-refused (due_tests end_kind bs start.at) (own bs start.at) c.in_err-check_due.ensures refl

-- behind a record that is there and has its mark, its own tests are left
passed : (c : In_ok-check_due)
    → let start = c.args in
    let bs = start.bytes.now in
    first_met (own bs start.at) ≡ first_met (end_tests bs start.at)
unfolding end_tests
passed c =
    let start = c.args in
    let bs = start.bytes.now in
    behind-good (due_tests end_kind bs start.at) (own bs start.at) c.in_ok-check_due.ensures refl

pub returns-then-count-steps : goal.returns-then-count-steps
returns-then-count-steps c =
    simp (← c.number16_at-count.ensures, ← c.requires.steps_value, ne_eqb _ _ c.if-count-steps.true) at (passed
    (goal.at.returns-then-count-steps c).In_ok-check_due)

pub returns-then-at-bytes : goal.returns-then-at-bytes
returns-then-at-bytes c =
    simp (
      ← c.number16_at-count.ensures,
      ← c.requires.steps_value,
      eq-eqb _ _ c.if-count-steps.false,
      lt-ltb _ _ c.if-at-bytes.true,
    ) at
    (passed (goal.at.returns-then-at-bytes c).In_ok-check_due)

pub returns : goal.returns
returns c =
    simp (
      ← c.number16_at-count.ensures,
      ← c.requires.steps_value,
      eq-eqb _ _ c.if-count-steps.false,
      le-ltb _ _ c.if-at-bytes.false,
    ) at
    (passed (goal.at.returns c).In_ok-check_due)
