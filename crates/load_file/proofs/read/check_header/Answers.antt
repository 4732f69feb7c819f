-- `check_header` asks the version and the row count behind the tests of its record.
use Prim.Native.Nat.{ℕ}
use mathlib.Core.Bool.{Bool, not}
use mathlib.Core.List.{List, [], ◌∷◌}
use mathlib.Core.Path.{◌≡◌, refl, sym, ap, ◌∙◌}
use Rattle.refusals.proofs.PassedOn.{passed_on}
use lib.Dec.{ltb}
use borrow.Author.Tests.{lt-ltb, le-ltb}
use Rattle.refusals.specs.declared.Refusal.{Refusal}
use Rattle.refusals.specs.declared.Refusal.TheVariants.{MarkDiffers, OutOfRange}
use Rattle.refusals.specs.FirstMet.{first_met}
use Rattle.load.specs.Load.{most_rows}
use Rattle.load_records.specs.Records.{header_kind, is_version}
use Rattle.load_file.specs.Places.{version_said, rows_said}
use Rattle.load_file.specs.Reading.{due_tests, header_tests}
use Rattle.load_file.proofs.faults.ReadingLaws.{behind-refused, behind-good}
use Rattle.load_file.proofs.read.check_header.Goals as goal
use Rattle.load_file.proofs.read.check_header.Goals.{In_ok-check_due, After-is_version}

-- the header's own tests
abbrev own : List ℕ → List (Bool × Refusal)
own bs = (not (is_version (version_said bs)), MarkDiffers) ∷ (ltb most_rows (rows_said bs), OutOfRange) ∷ []

pub returns-in_err-check_due : goal.returns-in_err-check_due
unfolding header_tests
returns-in_err-check_due c =
    let bs = c.args.bytes.now in
    passed_on _ _ c.from_residual.ensures.1
    ∙ behind-refused (due_tests header_kind bs 0) (own bs) c.in_err-check_due.ensures refl

-- behind a record that is there and has its mark, the header's own tests are left
passed : (c : In_ok-check_due)
    → let bs = c.args.bytes.now in first_met (own bs) ≡ first_met (header_tests bs)
unfolding header_tests
passed c =
    let bs = c.args.bytes.now in
    behind-good (due_tests header_kind bs 0) (own bs) c.in_ok-check_due.ensures refl

-- whether there is such a version
named : (c : After-is_version) → let start = c.args in
    is_version (version_said start.bytes.now) ≡ c.is_version.result
named c = sym (c.is_version.ensures ∙ ap is_version c.byte_at.ensures)

pub returns-then-not-is_version : goal.returns-then-not-is_version
returns-then-not-is_version c =
    rw (named (goal.at.returns-then-not-is_version c).After-is_version ∙ c.if-not-is_version.true) at (passed
    (goal.at.returns-then-not-is_version c).In_ok-check_due)

pub returns-then-byte_at-gt-MOST_ROWS : goal.returns-then-byte_at-gt-MOST_ROWS
returns-then-byte_at-gt-MOST_ROWS c =
    rw (
      named (goal.at.returns-then-byte_at-gt-MOST_ROWS c).After-is_version ∙ c.if-not-is_version.false,
      ←
          c.byte_at-2.ensures,
      lt-ltb _ _ c.if-byte_at-gt-MOST_ROWS.true,
    )
    at (passed (goal.at.returns-then-byte_at-gt-MOST_ROWS c).In_ok-check_due)

pub returns : goal.returns
returns c =
    rw (
      named (goal.at.returns c).After-is_version ∙ c.if-not-is_version.false,
      ← c.byte_at-2.ensures,
      le-ltb _
          _ c.if-byte_at-gt-MOST_ROWS.false,
    )
    at (passed (goal.at.returns c).In_ok-check_due)
