-- What next_move hands back is the move of the rules: its state, its answer, its lamp word and its count. A refused
-- move hands back the state it was given.
use mathlib.Core.Path.{◌≡◌, refl, ap, sym}
use Rattle.std.specs.Prelude.{Ok}
use Rattle.load.specs.declared.Load.{Load}
use Rattle.load.specs.View.{view_of}
use Rattle.load.specs.Check.{check_load}
use Rattle.load.proofs.AcceptableLaws.{check-acceptable}
use Rattle.rules.specs.declared.Outcome.{Outcome}
use Rattle.rules.specs.declared.Outcome.TheVariants.{Start, Idle, Done, Refused}
use Rattle.rules.specs.State.{State}
use Rattle.rules.specs.Move.{Moved as Move, move}
use Rattle.bench.specs.declared.Bench.{Bench}
use Rattle.bench.specs.Held.{state_of, HeldBench, bench_after, next_move}
use Rattle.bench.proofs.shown.HeldLaws.{Ends, held-ends, bench_of-held, state_of-bench_of}
use Rattle.bench.proofs.choice.NextLaws.{next_move-good}
use Rattle.demands.specs.Demand2.{SameMove}
use Rattle.demands.proofs.demand1.RefusedMoves.{move-alone}
use Rattle.demands.proofs.moves.StateHeld.{move-ends}

-- the bench after an answer holds the state after it
after_is : (bench : Bench) (answer : Outcome) (s : State) → Ends s
    → ((refusal : _) → answer ≡ Refused refusal → s ≡ state_of bench) → state_of (bench_after bench answer s) ≡ s
after_is bench (Start slot) s ends stays = state_of-bench_of s ends
after_is bench Idle s ends stays = state_of-bench_of s ends
after_is bench Done s ends stays = state_of-bench_of s ends
after_is bench (Refused refusal) s ends stays = sym (stays refusal refl)

-- and is held in memory as the one before it was
after-held : (bench : Bench) (answer : Outcome) (s : State) → HeldBench bench → HeldBench (bench_after bench answer s)
after-held bench (Start slot) s held = bench_of-held s
after-held bench Idle s held = bench_of-held s
after-held bench Done s held = bench_of-held s
after-held bench (Refused refusal) s held = held

module _ (load : Load) (accepted : check_load load ≡ Ok tt) (bench : Bench) (held : HeldBench bench) where
  -- the move of the rules
  abbrev mine : Move
  mine = move (view_of load) (state_of bench)

  pub next-held : HeldBench (next_move load bench).bench
  next-held =
      rw (next_move-good load bench accepted) (after-held bench mine.outcome mine.then held)

  pub next-same : SameMove (next_move load bench) mine
  next-same =
      rw (next_move-good load bench accepted)
      (record {
        state-is =
            after_is bench mine.outcome mine.then
            (move-ends (view_of load) (state_of bench) (check-acceptable load accepted).rows-most
            (held-ends bench held))
            (λ refusal e. ap (λ (m : Move). m.then) (move-alone (view_of load) (state_of bench) refusal e));
        outcome-is = refl;
        lamps-are = refl;
        count-is = refl;
      })
