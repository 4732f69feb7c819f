-- A run by the calls goes through the states of the run of the rules: each bench holds the state after as many moves,
-- and each move is the move of the rules from there.
use Prim.Native.Nat.{ℕ, zero, suc}
use mathlib.Core.Path.{◌≡◌, refl, ap, sym, ◌∙◌, subst}
use Rattle.std.specs.Prelude.{Ok}
use Rattle.load.specs.declared.Load.{Load}
use Rattle.load.specs.View.{view_of}
use Rattle.load.specs.Check.{check_load}
use Rattle.rules.specs.State.{fresh}
use Rattle.rules.specs.Move.{move}
use Rattle.rules.specs.Run.{state_after}
use Rattle.rules.proofs.run.RunLaws.{state_after-next, state_after-zero}
use Rattle.bench.specs.declared.Bench.{Bench}
use Rattle.bench.specs.declared.Moved.{Moved}
use Rattle.bench.specs.Held.{state_of, bench_of, HeldBench, next_move}
use Rattle.bench.proofs.shown.HeldLaws.{bench_of-held, fresh-state}
use Rattle.demands.specs.Demand2.{SameMove}
use Rattle.demands.specs.Demand3.{Run}
use Rattle.demands.proofs.moves.MovesHeld.{next-held, next-same}

-- every load has a run: each bench is what the move before it hands back
nth_bench : Load → ℕ → Bench
nth_bench load zero = bench_of fresh
nth_bench load (suc n) = (next_move load (nth_bench load n)).bench

pub run_of : (load : Load) → Run load
unfolding nth_bench
run_of load =
    record {
      bench = nth_bench load;
      moved = λ n. next_move load (nth_bench load n);
      begins = refl;
      moves = λ n. refl;
      goes_on = λ n. refl;
    }

module _ (load : Load) (accepted : check_load load ≡ Ok tt) (run : Run load) where
  -- the next bench, as the definition has it
  next-bench : (n : ℕ) → run.bench (suc n) ≡ (next_move load (run.bench n)).bench
  next-bench n = run.goes_on n ∙ ap (λ (m : Moved). m.bench) (run.moves n)

  run-held : (n : ℕ) → HeldBench (run.bench n)
  run-held zero = rw run.begins (bench_of-held fresh)
  run-held (suc n) = rw (next-bench n) (next-held load accepted (run.bench n) (run-held n))

  pub run-states : (n : ℕ) → state_of (run.bench n) ≡ state_after (view_of load) n fresh
  run-states zero =
      ap state_of run.begins ∙ fresh-state ∙ sym (state_after-zero (view_of load).cost (view_of load) fresh)
  run-states (suc n) =
      ap state_of (next-bench n)
      ∙ (next-same load accepted (run.bench n) (run-held n)).state-is
      ∙ ap (λ s. (move (view_of load) s).then) (run-states n)
      ∙ sym (state_after-next (view_of load).cost (view_of load) n fresh)

  pub run-moves : (n : ℕ) → SameMove (run.moved n) (move (view_of load) (state_after (view_of load) n fresh))
  run-moves n =
      rw (run.moves n)
      (subst (λ s. SameMove (next_move load (run.bench n)) (move (view_of load) s)) (run-states n)
      (next-same load accepted (run.bench n) (run-held n)))
