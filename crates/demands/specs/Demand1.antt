-- Demand 1: "Every input gets an answer and every call ends. No public call asks its caller to have
-- checked anything. A refusal carries one number from document 01's table and alters no byte or
-- slot lent to it." That a call ends is part of what is proved of its code, and what is lent to be
-- read, as slots are, is altered by no call. To be read after Numbers, ExactlyThen, LoadFirst and
-- ReturnedAlone. Rests on D49.
use Rattle.std.specs.Prelude.{ℕ, List, ◌≢◌, ◌≡◌, Err, Result}
use Rattle.refusals.specs.declared.Refusal.{Refusal}
use Rattle.refusals.specs.Calls.{NumberOf}
use Rattle.load.specs.declared.Load.{Load}
use Rattle.load_records.specs.Calls.{WriteVersion1, WriteVersion2}
use Rattle.sheet.specs.Calls.{WriteSheet}
use Rattle.rules.specs.declared.Slot.{Slot}
use Rattle.rules.specs.declared.Outcome.TheVariants as outcome
use Rattle.schedule_file.specs.Calls.{WriteSchedule, WriteArray}
use Rattle.bench.specs.declared.Bench.{Bench}
use Rattle.bench.specs.declared.Moved.{Moved}
use Rattle.bench.specs.Held.{refused_with}
use Rattle.bench.specs.Calls.{NextMove, WriteRun}
use Rattle.reading_bench.specs.Calls.{BenchBound, BenchVerdict, BenchMargins, BenchSchedule}
use Rattle.lines.specs.Calls.{PrintLines, PrintBlames}
use Rattle.demands.specs.PublicCalls.{EveryCall}
use Rattle.demands.specs.NumberLists.{InTable}
use Rattle.demands.specs.Numbers.{Numbers}
use Rattle.demands.specs.ExactlyThen.{ExactlyThen}
use Rattle.demands.specs.LoadFirst.{LoadFirst}
use Rattle.demands.specs.ReturnedAlone.{ReturnedAlone}

-- a result that meets a relation
pub record Answer (A : Type 0) (meets : A → Type 0) : Type 0 where
  pub result : A
  pub met : meets result

-- a call for C whose number is not 0 leaves the output as it was
abbrev pub Stays : (List ℕ → List ℕ → ℕ → List ℕ → Type 0) → Type 0
Stays call = (bs out : List ℕ) (r : ℕ) (after : List ℕ) → call bs out r after → r ≢ 0 → after ≡ out

-- a printing call that is refused leaves the output as it was
abbrev pub PrintingStays : (List ℕ → List ℕ → Result ℕ Refusal → List ℕ → Type 0) → Type 0
PrintingStays call =
    (bs out : List ℕ) (refusal : Refusal) (after : List ℕ) → call bs out (Err refusal) after
    → after ≡ out

-- demand 1
pub record Demand1 : Type 0 where
  -- every input of every call gets an answer; nothing is asked of it first
  pub answered : EveryCall Answer
  -- a refusal carries one number from the table
  pub numbered : (refusal : Refusal) (n : ℕ) → NumberOf refusal n → InTable n
  -- which is no other refusal's
  pub apart : (a b : Refusal) (n : ℕ) → NumberOf a n → NumberOf b n → a ≡ b
  -- and is one of those that the call can refuse with
  pub numbers : Numbers
  -- a load, a state and a schedule are refused exactly when a fact of them fails
  pub exactly : ExactlyThen
  -- and every call that takes a load asks the load first
  pub load-first : LoadFirst
  -- a refusal is returned alone
  pub alone : ReturnedAlone
  -- a refused call leaves the output as it was
  pub version-1-stays : (load : Load) (out : List ℕ) (refusal : Refusal) (after : List ℕ)
      → WriteVersion1 load out (Err refusal) after → after ≡ out
  pub version-2-stays : (load : Load) (out : List ℕ) (refusal : Refusal) (after : List ℕ)
      → WriteVersion2 load out (Err refusal) after → after ≡ out
  pub sheet-stays : (load : Load) (out : List ℕ) (refusal : Refusal) (after : List ℕ)
      → WriteSheet load out (Err refusal) after → after ≡ out
  pub schedule-stays : (slots : List Slot) (out : List ℕ) (refusal : Refusal) (after : List ℕ)
      → WriteSchedule slots out (Err refusal) after → after ≡ out
  pub run-stays : (bs out : List ℕ) (refusal : Refusal) (after : List ℕ)
      → WriteRun bs out (Err refusal) after → after ≡ out
  pub array-stays : (slots : List Slot) (n : ℕ) (out : List ℕ) (refusal : Refusal) (after : List ℕ)
      → WriteArray slots n out (Err refusal) after → after ≡ out
  pub bound-stays : Stays BenchBound
  pub verdict-stays : Stays BenchVerdict
  pub margins-stay : Stays BenchMargins
  pub c-schedule-stays : Stays BenchSchedule
  pub lines_stay : PrintingStays PrintLines
  pub blames-stay : PrintingStays PrintBlames
  -- and a refused move hands back the state it was given, with lamp word and count 0
  pub bench-stays : (load : Load) (bench : Bench) (refusal : Refusal) (r : Moved)
      → NextMove load bench r → r.outcome ≡ outcome.Refused refusal
      → r ≡ refused_with bench refusal
