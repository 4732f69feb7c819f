-- The run from fresh, in any setting: the invariant holds at every moment, no move is refused, all is finished after as
-- many moves as the bound has ticks, and the schedule is the starts of any number of moves from there on.
use Prim.Native.Nat.{ℕ, zero, suc, ◌+◌, ◌-◌, ◌≤◌}
use mathlib.Core.Bool.{Bool, true, false}
use mathlib.Core.List.{List, [], ◌∷◌, ◌++◌, append-nil}
use mathlib.Core.Path.{◌≡◌, refl, ap, ap₂, sym, ◌∙◌, subst}
use native.Mathlib.Nat.{add-zero, add-suc}
use native.Mathlib.Omega.{arith}
use Rattle.counting.specs.Lists.{join_to}
use Rattle.counting.proofs.tests.TestLaws.{true-false}
use Rattle.load.specs.View.{View}
use Rattle.rules.specs.declared.Slot.{Slot}
use Rattle.rules.specs.declared.Outcome.{Outcome}
use Rattle.rules.specs.declared.Outcome.TheVariants.{Start, Idle, Done}
use Rattle.rules.specs.State.{State, fresh}
use Rattle.rules.specs.Outcomes.{told_by}
use Rattle.rules.specs.Bound.{bound_by}
use Rattle.rules.specs.Move.{Moved, started, ticked, all_finished, next_slot, handed_back, move_by}
use Rattle.rules.specs.Run.{state_after_by, starts_from, starts_by, enough_moves, schedule_by}
use Rattle.rules.proofs.invariant.Setting.{Long, Gives, Charge, Setting}
use Rattle.rules.proofs.moves.MoveLaws.{Turn, starts as starting, idles}
use Rattle.rules.proofs.invariant.ClockBound.{bound_by-fits}
use Rattle.rules.proofs.invariant.MoveKeeps.{
  Accounted,
  fresh-accounted,
  accounted-clock,
  accounted-early,
  accounted-done,
  accounted-turn,
  move-accounted,
  move-later,
}

pub state_after-zero : (long : Long) (L : View) (s : State) → state_after_by long L 0 s ≡ s
unfolding state_after_by
state_after-zero long L s = refl

pub state_after-next : (long : Long) (L : View) (n : ℕ) (s : State)
    → state_after_by long L (suc n) s ≡ (move_by long L (state_after_by long L n s)).then
unfolding state_after_by
state_after-next long L zero s = refl
state_after-next long L (suc n) s = state_after-next long L n (move_by long L s).then

-- the starts by how a move goes
pub starts-zero : (long : Long) (L : View) (s : State) → starts_by long L 0 s ≡ []
unfolding starts_by
starts-zero long L s = refl

pub starts-move : (long : Long) (L : View) (n : ℕ) (s : State) (m : Moved) → move_by long L s ≡ m
    → starts_by long L (suc n) s ≡ starts_from m.outcome m.then (starts_by long L n)
unfolding starts_by
starts-move long L n s m e = ap (λ (w : Moved). starts_from w.outcome w.then (starts_by long L n)) e

module _ (L : View) {long : Long} {gives : Gives} {charged : Charge} (g : Setting L long gives charged) where
  pub state_after-accounted : (n : ℕ) (s : State) → Accounted gives charged L s
      → Accounted gives charged L (state_after_by long L n s)
  unfolding state_after_by
  state_after-accounted zero s v = v
  state_after-accounted (suc n) s v = state_after-accounted n (move_by long L s).then (move-accounted L s g v)

  pub run-accounted : (n : ℕ) → Accounted gives charged L (state_after_by long L n fresh)
  run-accounted n = state_after-accounted n fresh (fresh-accounted gives charged L g.runnable)

  -- Done changes nothing
  pub state_after-done : (n : ℕ) (s : State) → Accounted gives charged L s → all_finished L s ≡ true
      → state_after_by long L n s ≡ s
  unfolding state_after_by
  state_after-done zero s v d = refl
  state_after-done (suc n) s v d = rw (accounted-done L s g v d) (state_after-done n s v d)

  pub state_after-later : (n : ℕ) (s : State) → Accounted gives charged L s
      → all_finished L (state_after_by long L n s) ≡ false → s.clock + n ≤ (state_after_by long L n s).clock
  unfolding state_after_by
  state_after-later zero s v nd = omega arith
  state_after-later (suc n) s v nd =
      go (all_finished L s) refl (state_after-later n (move_by long L s).then (move-accounted L s g v) nd)
    where
      go : (b : Bool) → all_finished L s ≡ b
          → (move_by long L s).then.clock + n ≤ (state_after_by long L n (move_by long L s).then).clock
          → s.clock + suc n ≤ (state_after_by long L n (move_by long L s).then).clock
      go true d ih =
          absurd (true-false (all_finished L s) d (sym (ap (all_finished L) (state_after-done (suc n) s v d)) ∙ nd))
      go false d ih = omega (arith, ih, move-later L s g v d)

  -- all is finished after as many moves as the bound has ticks
  pub run-finished : (n : ℕ) → bound_by gives L ≤ n → all_finished L (state_after_by long L n fresh) ≡ true
  unfolding fresh
  run-finished n h = go (all_finished L (state_after_by long L n fresh)) refl
    where
      go : (b : Bool) → all_finished L (state_after_by long L n fresh) ≡ b → b ≡ true
      go true e = refl
      go false e =
          absurd (omega (
            arith,
            state_after-later n fresh (fresh-accounted gives charged L g.runnable) e,
            accounted-early L (state_after_by long L n fresh) g (run-accounted n) e,
          ))

  pub run-clock : (n : ℕ) → (state_after_by long L n fresh).clock ≤ bound_by gives L
  run-clock n = accounted-clock L (state_after_by long L n fresh) g (run-accounted n)

  pub run-done : (n : ℕ) → bound_by gives L ≤ n → (move_by long L (state_after_by long L n fresh)).outcome ≡ Done
  run-done n h =
      ap (λ (m : Moved). m.outcome)
      (accounted-done L (state_after_by long L n fresh) g (run-accounted n) (run-finished n h))

  -- a move that is not refused
  accounted-number : (s : State) → Accounted gives charged L s → (told_by (move_by long L s).outcome).number ≡ 0
  accounted-number s v = go (all_finished L s) refl
    where
      by : Turn long L s → (told_by (move_by long L s).outcome).number ≡ 0
      by (starting i c e) = ap (λ (m : Moved). (told_by m.outcome).number) e
      by (idles none e) = ap (λ (m : Moved). (told_by m.outcome).number) e

      go : (b : Bool) → all_finished L s ≡ b → (told_by (move_by long L s).outcome).number ≡ 0
      go true d = ap (λ (m : Moved). (told_by m.outcome).number) (accounted-done L s g v d)
      go false d = by (accounted-turn L s g v d)

  pub run-number : (n : ℕ) → (told_by (move_by long L (state_after_by long L n fresh)).outcome).number ≡ 0
  run-number n = accounted-number (state_after_by long L n fresh) (run-accounted n)

  -- what the move after n moves starts
  abbrev pub starts_after : ℕ → State → List Slot
  starts_after n s = (told_by (move_by long L (state_after_by long L n s)).outcome).starts

  done-starts : (n : ℕ) (s : State) → Accounted gives charged L s → all_finished L s ≡ true → starts_after n s ≡ []
  done-starts n s v d =
      ap (λ t. (told_by (move_by long L t).outcome).starts) (state_after-done n s v d)
      ∙ ap (λ (m : Moved). (told_by m.outcome).starts) (accounted-done L s g v d)

  starts_after-suc : (n : ℕ) (s : State) → starts_after (suc n) s ≡ starts_after n (move_by long L s).then
  unfolding state_after_by
  starts_after-suc n s = refl

  starts_first : (s : State) → Accounted gives charged L s → starts_by long L 1 s ≡ starts_after 0 s
  starts_first s v = go (all_finished L s) refl
    where
      now : (m : Moved) → move_by long L s ≡ m → starts_after 0 s ≡ (told_by m.outcome).starts
      now m e =
          ap (λ t. (told_by (move_by long L t).outcome).starts) (state_after-zero long L s)
          ∙ ap (λ (w : Moved). (told_by w.outcome).starts) e

      by : Turn long L s → starts_by long L 1 s ≡ starts_after 0 s
      by (starting i c e) =
          let m = handed_back L (started L s i (long i (s.finished i))) (Start (next_slot s i)) in
          starts-move long L 0 s m e
          ∙ (ap (λ l. next_slot s i ∷ l) (starts-zero long L (started L s i (long i (s.finished i)))) ∙ sym (now m e))
      by (idles none e) =
          let m = handed_back L (ticked s) Idle in
          starts-move long L 0 s m e ∙ (starts-zero long L (ticked s) ∙ sym (now m e))

      go : (b : Bool) → all_finished L s ≡ b → starts_by long L 1 s ≡ starts_after 0 s
      go true d =
          let m = handed_back L s Done in
          starts-move long L 0 s m (accounted-done L s g v d) ∙ sym (now m (accounted-done L s g v d))
      go false d = by (accounted-turn L s g v d)

  -- one move more, one start more or none
  abbrev Grows : ℕ → State → Type 0
  Grows n s = starts_by long L (suc n) s ≡ starts_by long L n s ++ starts_after n s

  pub starts-next : (n : ℕ) (s : State) → Accounted gives charged L s → Grows n s
  starts-next zero s v = starts_first s v ∙ sym (ap (λ l. l ++ starts_after 0 s) (starts-zero long L s))
  starts-next (suc n) s v =
      go (all_finished L s) refl (starts-next n (move_by long L s).then (move-accounted L s g v))
      ∙ ap (λ l. starts_by long L (suc n) s ++ l) (sym (starts_after-suc n s))
    where
      -- with the last start named by the move that comes first
      Wanted : Type 0
      Wanted = starts_by long L (suc (suc n)) s ≡ starts_by long L (suc n) s ++ starts_after n (move_by long L s).then

      -- both sides by what the move hands back
      right : (m : Moved) → move_by long L s ≡ m
          → starts_by long L (suc n) s ++ starts_after n (move_by long L s).then
          ≡ starts_from m.outcome m.then (starts_by long L n) ++ starts_after n m.then
      right m e = ap₂ ◌++◌ (starts-move long L n s m e) (ap (λ (w : Moved). starts_after n w.then) e)

      by : Turn long L s → Grows n (move_by long L s).then → Wanted
      by (starting i c e) ih =
          let m = handed_back L (started L s i (long i (s.finished i))) (Start (next_slot s i)) in
          starts-move long L (suc n) s m e
          ∙ (ap (λ l. next_slot s i ∷ l) (subst (λ (w : Moved). Grows n w.then) e ih) ∙ sym (right m e))
      by (idles none e) ih =
          let m = handed_back L (ticked s) Idle in
          starts-move long L (suc n) s m e ∙ (subst (λ (w : Moved). Grows n w.then) e ih ∙ sym (right m e))

      go : (b : Bool) → all_finished L s ≡ b → Grows n (move_by long L s).then → Wanted
      go true d ih =
          let e = accounted-done L s g v d in
          starts-move long L (suc n) s (handed_back L s Done) e
          ∙ sym (right (handed_back L s Done) e ∙ done-starts n s v d)
      go false d ih = by (accounted-turn L s g v d) ih

  -- the starts of so many moves are those of each, one behind the other
  pub starts-joined : (n : ℕ) → starts_by long L n fresh ≡ join_to (λ k. starts_after k fresh) n
  unfolding join_to
  starts-joined zero = starts-zero long L fresh
  starts-joined (suc n) =
      starts-next n fresh (fresh-accounted gives charged L g.runnable)
      ∙ ap (λ l. l ++ starts_after n fresh) (starts-joined n)

  -- from the bound on no move starts anything
  starts-enough : (d n : ℕ) → bound_by gives L ≤ n → starts_by long L (n + d) fresh ≡ starts_by long L n fresh
  starts-enough zero n h = ap (λ m. starts_by long L m fresh) (add-zero n)
  starts-enough (suc d) n h =
      ap (λ m. starts_by long L m fresh) (add-suc n d)
      ∙ (starts-next (n + d) fresh (fresh-accounted gives charged L g.runnable)
      ∙ (ap (λ l. starts_by long L (n + d) fresh ++ l)
      (ap (λ (o : Outcome). (told_by o).starts) (run-done (n + d) (omega arith)))
      ∙ (append-nil (starts_by long L (n + d) fresh) ∙ starts-enough d n h)))

  starts-from-bound : (n : ℕ) → bound_by gives L ≤ n → starts_by long L n fresh
      ≡ starts_by long L (bound_by gives L) fresh
  starts-from-bound n h =
      let e : bound_by gives L + (n - bound_by gives L) ≡ n = omega arith in
      ap (λ m. starts_by long L m fresh) (sym e) ∙ starts-enough (n - bound_by gives L) (bound_by gives L) (omega arith)

  -- the schedule is the whole run
  pub schedule-whole : (n : ℕ) → bound_by gives L ≤ n → schedule_by long L ≡ starts_by long L n fresh
  unfolding schedule_by
  schedule-whole n h =
      starts-from-bound enough_moves (omega (arith, bound_by-fits gives L g.runnable)) ∙ sym (starts-from-bound n h)
