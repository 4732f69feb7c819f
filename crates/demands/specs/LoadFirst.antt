-- "Calls that take a load in memory check 3 to 7 in the same row order": whatever they are asked
-- for, they find what the check of the load finds, and where that is a refusal they give it before
-- any other. To be read after PublicCalls.
use Rattle.std.specs.Prelude.{ℕ, List, ◌≡◌, Err, Bool, ℤ, Result}
use Rattle.refusals.specs.declared.Refusal.{Refusal}
use Rattle.refusals.specs.Checked.{Checked}
use Rattle.refusals.specs.Given.{found_in}
use Rattle.load.specs.declared.Load.{Load}
use Rattle.load.specs.Calls.{CheckLoad, CheckPlain}
use Rattle.load_records.specs.Calls.{WriteVersion1, WriteVersion2}
use Rattle.sheet.specs.Calls.{WriteSheet}
use Rattle.rules.specs.declared.Slot.{Slot}
use Rattle.rules.specs.declared.LargestW.{LargestW}
use Rattle.rules.specs.declared.Outcome.TheVariants as outcome
use Rattle.bound.specs.declared.Answered.{Answered}
use Rattle.bound.specs.declared.Blamed.{Blamed}
use Rattle.bound.specs.Calls.{AnswersOf, BoundOf, MarginsOf, VerdictOf, BlamesOf, PlaceWaitsOf}
use Rattle.schedule.specs.Calls.{CheckSchedule, CheckArray}
use Rattle.bench.specs.declared.Bench.{Bench}
use Rattle.bench.specs.declared.Moved.{Moved}
use Rattle.bench.specs.declared.Ran.{Ran}
use Rattle.bench.specs.Calls.{NextMove, Runs}

-- the calls that refuse nothing but the load answer with its finding
pub record FindAlike (load : Load) (found : Checked) : Type 0 where
  pub place-waits-of : (r : Result (List LargestW) Refusal) → PlaceWaitsOf load r
      → found_in r ≡ found
  pub answers_of : (r : Result Answered Refusal) → AnswersOf load r → found_in r ≡ found
  pub bound_of : (r : Result ℕ Refusal) → BoundOf load r → found_in r ≡ found
  pub margins-of : (r : Result (List ℤ) Refusal) → MarginsOf load r → found_in r ≡ found
  pub verdict-of : (r : Result Bool Refusal) → VerdictOf load r → found_in r ≡ found
  pub blames-of : (r : Result Blamed Refusal) → BlamesOf load r → found_in r ≡ found
  pub run : (r : Result Ran Refusal) → Runs load r → found_in r ≡ found

-- the calls that can refuse something else too give the load's refusal first
pub record RefuseFirst (load : Load) (refusal : Refusal) : Type 0 where
  pub next-move : (bench : Bench) (r : Moved) → NextMove load bench r
      → r.outcome ≡ outcome.Refused refusal
  pub check-schedule : (slots : List Slot) (r : Checked) → CheckSchedule load slots r
      → r ≡ Err refusal
  pub check-array : (slots : List Slot) (n : ℕ) (r : Checked) → CheckArray load slots n r
      → r ≡ Err refusal
  pub check-plain : (r : Checked) → CheckPlain load r → r ≡ Err refusal
  pub write-version-1 : (out : List ℕ) (r : Checked) (after : List ℕ)
      → WriteVersion1 load out r after → r ≡ Err refusal
  pub write-version-2 : (out : List ℕ) (r : Checked) (after : List ℕ)
      → WriteVersion2 load out r after → r ≡ Err refusal
  pub write-sheet : (out : List ℕ) (r : Result ℕ Refusal) (after : List ℕ)
      → WriteSheet load out r after → r ≡ Err refusal

-- the load comes first
pub record LoadFirst : Type 0 where
  pub alike : (load : Load) (found : Checked) → CheckLoad load found → FindAlike load found
  pub first : (load : Load) (refusal : Refusal) → CheckLoad load (Err refusal)
      → RefuseFirst load refusal
