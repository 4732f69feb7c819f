-- "What the contracts have to say": every public call on what the host gets, once.
-- To be read after the Calls of the crates that it names.
use Rattle.std.specs.Prelude.{ℕ, List, Result}
use Rattle.refusals.specs.declared.Refusal.{Refusal}
use Rattle.reading_bench.specs.Calls.{BenchBound, BenchVerdict, BenchMargins, BenchSchedule}
use Rattle.lines.specs.declared.Text.{Text}
use Rattle.lines.specs.Calls.{TextOf, BlamedTextOf, PrintLines, PrintBlames}
use Rattle.demands.specs.FileCalls.{Wrote, Writes}

-- what is claimed of the relation of each call on what the host gets, for all that it is given
pub record EveryHostCall {ℓ} (Claim : (A : Type 0) → (A → Type 0) → Type ℓ) : Type ℓ where
  -- lines
  pub text_of : (bs : List ℕ) → Claim Text (TextOf bs)
  pub blamed-text-of : (bs : List ℕ) → Claim Text (BlamedTextOf bs)
  pub print-lines : (bs out : List ℕ)
      → Claim (Wrote (Result ℕ Refusal)) (Writes (PrintLines bs out))
  pub print-blames : (bs out : List ℕ)
      → Claim (Wrote (Result ℕ Refusal)) (Writes (PrintBlames bs out))
  -- reading_bench
  pub bench-bound : (bs out : List ℕ) → Claim (Wrote ℕ) (Writes (BenchBound bs out))
  pub bench-verdict : (bs out : List ℕ) → Claim (Wrote ℕ) (Writes (BenchVerdict bs out))
  pub bench-margins : (bs out : List ℕ) → Claim (Wrote ℕ) (Writes (BenchMargins bs out))
  pub bench-schedule : (bs out : List ℕ) → Claim (Wrote ℕ) (Writes (BenchSchedule bs out))
