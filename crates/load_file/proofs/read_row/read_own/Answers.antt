-- `read_own` asks a row's fields behind the tests of its record, which ask no step and no window. A record that is
-- there has the bytes that every version has.
use Rattle.std.proofs.Common.{ℕ, ◌≤◌, ◌≡◌, ◌∙◌, [], ◌∷◌, ap, arith, refl, sym}
use Rattle.refusals.specs.FirstMet.{first_met}
use Rattle.refusals.proofs.PassedOn.{passed_on}
use Rattle.load_records.specs.Records.{newest, row_kind}
use Rattle.load_records.proofs.LengthLaws.{row_kind-least, row_kind-most}
use Rattle.load_file.specs.Places.{version_said}
use Rattle.load_file.specs.Reading.{due_tests}
use Rattle.load_file.specs.inner.ReadingSteps.{kind_of, fields_fault}
use Rattle.load_file.proofs.faults.ReadingLaws.{own_fault-refused, own_fault-fields}
use Rattle.load_file.proofs.layout.RecordLaws.{good-due}
use Rattle.load_file.proofs.read_row.read_own.Goals as goal
use Rattle.load_file.proofs.read_row.read_own.Goals.{Start}

-- the record's size is that of the version, and small
size-le : (c : Start) → c.args.size ≤ (row_kind newest).size
size-le c = rw c.requires.at_bound.1 (row_kind-most (version_said c.args.bytes.now))

-- a record that is due has the version's kind, where as many bytes are asked as the version says
due-is : (c : Start) (n : ℕ) → n ≡ c.args.size
    → first_met (due_tests (kind_of (0x52 ∷ 0x57 ∷ []) n) c.args.bytes.now c.args.at)
    ≡ first_met (due_tests (row_kind (version_said c.args.bytes.now)) c.args.bytes.now c.args.at)
due-is c n e =
    ap (λ n. first_met (due_tests (kind_of (0x52 ∷ 0x57 ∷ []) n) c.args.bytes.now c.args.at))
    (e ∙ c.requires.at_bound.1)

pub check_due-requires : goal.check_due-requires
check_due-requires c =
    let start = (goal.at.check_due-requires c).Start in
    let least = row_kind-least (version_said start.args.bytes.now) in
    (omega arith, omega (arith, least, start.requires.at_bound.1), omega (arith, size-le start))

pub own_fields-row-requires : goal.own_fields-row-requires
own_fields-row-requires c =
    let start = (goal.at.own_fields-row-requires c).Start in
    let bs = start.args.bytes.now in
    let least = row_kind-least (version_said bs) in
    let due = good-due (row_kind (version_said bs)) bs start.args.at
    (sym (c.in_ok-check_due.ensures ∙ due-is start _ (omega (arith, least, start.requires.at_bound.1)))) in
    omega (arith, least, due.inside)

pub returns-in_err-check_due : goal.returns-in_err-check_due
returns-in_err-check_due c =
    let start = (goal.at.returns-in_err-check_due c).Start in
    let least = row_kind-least (version_said start.args.bytes.now) in
    passed_on _ _ c.from_residual.ensures.1
    ∙ rw (own_fault-refused start.args.bytes.now start.args.at start.args.i
    (c.in_err-check_due.ensures ∙ due-is start _ (omega (arith, least, start.requires.at_bound.1))) refl)

-- what is found in the row's fields is what is found of its own record
pub returns-in_err-check_own : goal.returns-in_err-check_own
returns-in_err-check_own c =
    let start = (goal.at.returns-in_err-check_own c).Start in
    let bs = start.args.bytes.now in
    let least = row_kind-least (version_said bs) in
    let i = start.args.i in
    let found = c.in_err-check_own.ensures bs start.requires.rows_before
    ∙ ap (fields_fault bs i) c.own_fields-row.ensures
    ∙ own_fault-fields bs start.args.at i
    (c.in_ok-check_due.ensures ∙ due-is start _ (omega (arith, least, start.requires.at_bound.1)))
    refl in
    passed_on _ _ c.from_residual-in_err-check_own.ensures.1 ∙ rw (sym found)

pub returns : goal.returns
returns c =
    let start = (goal.at.returns c).Start in
    let bs = start.args.bytes.now in
    let least = row_kind-least (version_said bs) in
    let i = start.args.i in
    let found = c.in_ok-check_own.ensures bs start.requires.rows_before
    ∙ ap (fields_fault bs i) c.own_fields-row.ensures
    ∙ own_fault-fields bs start.args.at i
    (c.in_ok-check_due.ensures ∙ due-is start _ (omega (arith, least, start.requires.at_bound.1)))
    refl in
    rw (c.own_fields-row.ensures, sym found)
