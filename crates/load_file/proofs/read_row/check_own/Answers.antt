-- `check_own` asks the tests of the row's fields, then 4 and 5; the identifiers and boxes are those of the rows before.
use Rattle.std.proofs.Common.{ℕ, List, ◌≡◌, ◌∙◌, refl, sym}
use Rattle.refusals.specs.FirstMet.{first_met}
use Rattle.refusals.proofs.PassedOn.{passed_on}
use Rattle.load.specs.Faults.{row_tests, taken_tests, identifier_taken, box_taken}
use Rattle.load_file.specs.Places.{load_in}
use Rattle.load_file.specs.inner.ReadingSteps.{RowsBefore, fields_fault}
use Rattle.load_file.proofs.faults.ReadingLaws.{behind-refused, behind-good, identifier_taken-before, box_taken-before}
use Rattle.load_file.proofs.read_row.check_own.Goals as goal
use Rattle.load_file.proofs.read_row.check_own.Goals.{In_ok-check_fields, After-identifier_taken, After-box_taken}

pub returns-in_err-check_fields : goal.returns-in_err-check_fields
unfolding fields_fault
returns-in_err-check_fields c bs before =
    passed_on _ _ c.from_residual.ensures.1
    ∙ behind-refused (row_tests c.args.row) (taken_tests (load_in bs) c.args.i c.args.row) c.in_err-check_fields.ensures
    refl

-- behind its own fields, 4 and 5 are left
passed : (c : In_ok-check_fields) (bs : List ℕ)
    → first_met (taken_tests (load_in bs) c.args.i c.args.row) ≡ fields_fault bs c.args.i c.args.row
unfolding fields_fault
passed c bs =
    behind-good (row_tests c.args.row) (taken_tests (load_in bs) c.args.i c.args.row) c.in_ok-check_fields.ensures refl

-- the answers are those of the definition
identifier-asked : (c : After-identifier_taken) (bs : List ℕ)
    → RowsBefore bs c.args.i c.args.identifiers.now c.args.boxes.now
    → c.identifier_taken.result ≡ identifier_taken (load_in bs) c.args.i c.args.row.identifier
identifier-asked c bs before =
    c.identifier_taken.ensures
    ∙ identifier_taken-before bs c.args.i c.args.identifiers.now c.args.boxes.now before c.args.row.identifier

box-asked : (c : After-box_taken) (bs : List ℕ) → RowsBefore bs c.args.i c.args.identifiers.now c.args.boxes.now
    → c.box_taken.result ≡ box_taken (load_in bs) c.args.i c.args.row.box_number
box-asked c bs before =
    c.box_taken.ensures
    ∙ box_taken-before bs c.args.i c.args.identifiers.now c.args.boxes.now before c.args.row.box_number

pub returns-then-identifier_taken : goal.returns-then-identifier_taken
unfolding taken_tests
returns-then-identifier_taken c bs before =
    let met = goal.at.returns-then-identifier_taken c in
    simp (sym (identifier-asked met.After-identifier_taken bs before) ∙ c.if-identifier_taken.true) at (passed
    met.In_ok-check_fields bs)

pub returns-then-box_taken : goal.returns-then-box_taken
unfolding taken_tests
returns-then-box_taken c bs before =
    let met = goal.at.returns-then-box_taken c in
    simp (
      sym (identifier-asked met.After-identifier_taken bs before) ∙ c.if-identifier_taken.false,
      sym (box-asked met.After-box_taken bs before) ∙ c.if-box_taken.true,
    ) at
    (passed met.In_ok-check_fields bs)

pub returns : goal.returns
unfolding taken_tests
returns c bs before =
    let met = goal.at.returns c in
    simp (
      sym (identifier-asked met.After-identifier_taken bs before) ∙ c.if-identifier_taken.false,
      sym (box-asked met.After-box_taken bs before) ∙ c.if-box_taken.false,
    ) at
    (passed met.In_ok-check_fields bs)
