-- "What the contracts have to say": every public call on the plan and on the bench, once.
-- To be read after the Calls of the crates that it names.
use Rattle.std.specs.Prelude.{ℕ, Bool, List, Result}
use Rattle.refusals.specs.declared.Refusal.{Refusal}
use Rattle.refusals.specs.Checked.{Checked}
use Rattle.load.specs.declared.Row.{Row}
use Rattle.load.specs.declared.Window.{Window}
use Rattle.load.specs.declared.Load.{Load}
use Rattle.plan.specs.declared.Look.{Look}
use Rattle.plan.specs.declared.Chosen.{Chosen}
use Rattle.plan.specs.declared.Board.{Board}
use Rattle.plan.specs.Calls.{
  OpenWindow,
  LookOf,
  LookAt,
  PutLook,
  OpeningAfter,
  ChosenRow,
  NextStart,
}
use Rattle.bench.specs.declared.Bench.{Bench}
use Rattle.bench.specs.declared.Moved.{Moved}
use Rattle.bench.specs.declared.Ran.{Ran}
use Rattle.bench.specs.Calls.{Fresh, NextMove, Runs, WriteRun}
use Rattle.demands.specs.FileCalls.{Wrote, Writes}

-- what is claimed of the relation of each call on plan and bench, for all that it is given
pub record EveryBenchCall {ℓ} (Claim : (A : Type 0) → (A → Type 0) → Type ℓ) : Type ℓ where
  -- plan
  pub open-window : (row : Row) (finished : ℕ) → Claim Window (OpenWindow row finished)
  pub look-of : (row : Row) (finished end opening : ℕ)
      → Claim Look (LookOf row finished end opening)
  pub look_at : (board : Board) (i : ℕ) → Claim Look (LookAt board i)
  pub put-look : (board : Board) (i : ℕ) (look : Look) → Claim Board (PutLook board i look)
  pub opening-after : (stays opened : Bool) (opening clock : ℕ)
      → Claim ℕ (OpeningAfter stays opened opening clock)
  pub chosen-row : (board : Board) (classes : List ℕ) (clock rows : ℕ)
      → Claim ℕ (ChosenRow board classes clock rows)
  pub next_start : (board : Board) (classes : List ℕ) (clock rows : ℕ)
      → Claim Chosen (NextStart board classes clock rows)
  -- bench
  pub fresh : Claim Bench Fresh
  pub next-move : (load : Load) (bench : Bench) → Claim Moved (NextMove load bench)
  pub run : (load : Load) → Claim (Result Ran Refusal) (Runs load)
  pub write-run : (bs out : List ℕ) → Claim (Wrote Checked) (Writes (WriteRun bs out))
