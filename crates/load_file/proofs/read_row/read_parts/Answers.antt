-- `read_parts` finds the faults of a row's steps and then of its windows, and puts what it reads behind the own fields.
use Rattle.std.proofs.Common.{◌+◌, ◌*◌, ◌≤◌, ◌≡◌, ◌∙◌, ap, ap₂, arith, List}
use Rattle.load.specs.declared.Step.{Step}
use Rattle.std.specs.Prelude.{Ok}
use Rattle.refusals.proofs.GivenLaws.{given-good, given-is}
use Rattle.load.specs.Load.{most_steps, most_windows}
use Rattle.load_records.specs.Records.{newest, row_kind}
use Rattle.load_records.proofs.LengthLaws.{row_kind-most}
use Rattle.load_file.specs.Places.{version_said, steps_said, windows_said, row_with}
use Rattle.load_file.specs.Reading.{steps_fault, windows_fault}
use Rattle.load_file.specs.inner.ReadingSteps.{steps_from, windows_from}
use Rattle.load_file.proofs.faults.PartLaws.{steps-put, windows-put}
use Rattle.load_file.proofs.read_row.read_parts.Goals as goal
use Rattle.load_file.proofs.read_row.read_parts.Goals.{Start, In_ok-row}

-- what is known of the row's own record
module _ (c : Start) where
  steps-said : c.args.own.steps ≡ steps_said c.args.bytes.now c.args.at
  unfolding row_with
  steps-said = ap (λ row. row.steps) c.requires.own_value.0

  windows-said : c.args.own.windows ≡ windows_said c.args.bytes.now c.args.at
  unfolding row_with
  windows-said = ap (λ row. row.windows) c.requires.own_value.0

  few-steps : c.args.own.steps ≤ most_steps
  few-steps = rw steps-said c.requires.own_value.1

  few-windows : c.args.own.windows ≤ most_windows
  few-windows = rw windows-said c.requires.own_value.2

  size-le : c.args.size ≤ (row_kind newest).size
  size-le = rw c.requires.at_bound.1 (row_kind-most (version_said c.args.bytes.now))

  -- where its steps stand
  steps-from : c.args.at + c.args.size ≡ c.args.at + (row_kind (version_said c.args.bytes.now)).size
  steps-from = ap (c.args.at +◌) c.requires.at_bound.1

-- the steps that are read
module _ (c : In_ok-row) where
  abbrev read : List Step
  read = steps_from c.args.bytes.now (c.args.at + c.args.size) c.args.own.steps

  steps-good : steps_fault c.args.bytes.now c.args.at ≡ Ok tt
  steps-good = given-good (steps_fault c.args.bytes.now c.args.at) read _ c.in_ok-row.ensures

  steps-are : c.args.at + c.args.size ≡ c.args.at + (row_kind (version_said c.args.bytes.now)).size
      → c.args.own.steps ≡ steps_said c.args.bytes.now c.args.at
      → c.in_ok-row.field-0
      ≡ steps_from c.args.bytes.now (c.args.at + (row_kind (version_said c.args.bytes.now)).size)
      (steps_said c.args.bytes.now c.args.at)
  steps-are place said =
      given-is (steps_fault c.args.bytes.now c.args.at) read _ c.in_ok-row.ensures
      ∙ ap₂ (steps_from c.args.bytes.now) place said

pub read_steps-requires-clause-count_value : goal.read_steps-requires-clause-count_value
read_steps-requires-clause-count_value c =
    let start = (goal.at.read_steps-requires-clause-count_value c).Start in (steps-said start, few-steps start)

pub read_windows-requires-clause-count_value : goal.read_windows-requires-clause-count_value
read_windows-requires-clause-count_value c =
    let start = (goal.at.read_windows-requires-clause-count_value c).Start in (windows-said start, few-windows start)

pub read_windows-requires-clause-from_bound : goal.read_windows-requires-clause-from_bound
read_windows-requires-clause-from_bound c =
    let met = goal.at.read_windows-requires-clause-from_bound c in
    let start = met.Start in (
      omega (arith, size-le start, few-steps start, start.requires.at_bound.0),
      ap₂ (λ n s. n + 6 * s) (steps-from start) (steps-said start),
      steps-put _ start.args.at start.requires.own_value.0
          (steps-are met.In_ok-row (steps-from start) (steps-said start)),
    )

pub returns : goal.returns
returns c =
    let met = goal.at.returns c in
    let start = met.Start in
    let bs = start.args.bytes.now in
    let at = start.args.at in
    let read = windows_from bs (at + start.args.size + 6 * start.args.own.steps) start.args.own.windows in
    let good = given-good (windows_fault bs at) read _ c.in_ok-row-2.ensures in
    let are = given-is (windows_fault bs at) read _ c.in_ok-row-2.ensures
    ∙ ap₂ (windows_from bs) (ap₂ (λ n s. n + 6 * s) (steps-from start) (steps-said start)) (windows-said start) in
    let front = steps-are met.In_ok-row (steps-from start) (steps-said start) in
    ap Ok (windows-put bs at start.requires.own_value.0 front are)
    ∙ rw (steps-good met.In_ok-row, good)
