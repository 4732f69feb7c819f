-- A refused move is refused alone: it hands back the state it was given, with lamp word and count 0, whichever of the
-- load's numbers, 10 and 11 it is refused with.
use Prim.Native.Nat.{ℕ}
use mathlib.Core.Path.{◌≡◌, refl, ap, sym, ◌∙◌}
use native.Mathlib.Omega.{arith}
use Rattle.counting.specs.Searches.{Found, at, none}
use Rattle.refusals.specs.declared.Refusal.{Refusal}
use Rattle.refusals.specs.declared.Refusal.TheVariants.{StateShape, ClockFull}
use Rattle.refusals.specs.Checked.{Checked}
use Rattle.std.specs.Prelude.{Ok, Err}
use Rattle.load.specs.declared.Load.{Load}
use Rattle.load.specs.View.{View, view_of}
use Rattle.load.specs.Check.{check_load}
use Rattle.rules.specs.declared.Outcome.{Outcome}
use Rattle.rules.specs.declared.Outcome.TheVariants.{Start, Idle, Done, Refused}
use Rattle.rules.specs.State.{State}
use Rattle.rules.specs.Move.{Moved as Move, refused_move, start_or_idle_by, chosen, move}
use Rattle.rules.proofs.moves.MoveLaws.{Way, unshaped, finished, full, goes, move-way}
use Rattle.bench.specs.declared.Bench.{Bench}
use Rattle.bench.specs.declared.Moved.{Moved}
use Rattle.bench.specs.Held.{state_of, handed_on, refused_with, next_move}
use Rattle.bench.proofs.choice.NextLaws.{next_move-good, next_move-refused}

-- the refusal that an answer holds
abbrev refusal_in : Outcome → Refusal
refusal_in (Start slot) = StateShape
refusal_in Idle = StateShape
refusal_in Done = StateShape
refusal_in (Refused refusal) = refusal

-- a move, if refused, is refused alone
abbrev pub Alone : State → Move → Type 0
Alone s m = (refusal : Refusal) → m.outcome ≡ Refused refusal → m ≡ refused_move s refusal

refused-alone : (s : State) (own : Refusal) → Alone s (refused_move s own)
refused-alone s own refusal e = ap (refused_move s) (ap refusal_in e)

choice-alone : (L : View) (s : State) (choice : Found) → Alone s (start_or_idle_by L.cost L s choice)
choice-alone L s (at i) refusal e = absurd (let z : ◌≡◌ {A = ℕ} 0 1 = cc in omega arith)
choice-alone L s none refusal e = absurd (let z : ◌≡◌ {A = ℕ} 0 1 = cc in omega arith)

pub move-alone : (L : View) (s : State) → Alone s (move L s)
move-alone L s = go (move-way L.cost L s)
  where
    go : Way L.cost L s → Alone s (move L s)
    go (unshaped e q) = rw q (refused-alone s StateShape)
    go (finished e q) = rw q (λ refusal r. absurd (let z : ◌≡◌ {A = ℕ} 0 1 = cc in omega arith))
    go (full e d l q) = rw q (refused-alone s ClockFull)
    go (goes e q) = rw q (choice-alone L s (chosen L s))

pub bench-kept : (load : Load) (bench : Bench) (refusal : Refusal) → (next_move load bench).outcome ≡ Refused refusal
    → next_move load bench ≡ refused_with bench refusal
bench-kept load bench refusal e = go (check_load load) refl
  where
    go : (found : Checked) → check_load load ≡ found → next_move load bench ≡ refused_with bench refusal
    go (Ok tt) q =
        let good = next_move-good load bench q in
        good
        ∙ ap (handed_on bench)
        (move-alone (view_of load) (state_of bench) refusal (ap (λ (m : Moved). m.outcome) (sym good) ∙ e))
    go (Err own) q =
        let bad = next_move-refused load bench own q in
        bad ∙ ap (refused_with bench) (ap refusal_in (ap (λ (m : Moved). m.outcome) (sym bad) ∙ e))
