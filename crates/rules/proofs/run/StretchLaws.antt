-- The starts from a state on, by the move that comes next; and a stretch of ticks at which nothing is chosen: it is
-- that many Idle moves, so the starts go on from the later clock, and the invariant holds there.
use Prim.Native.Nat.{ℕ, zero, suc, ◌+◌, ◌<◌}
use mathlib.Core.Bool.{true, false}
use mathlib.Core.List.{[], ◌∷◌}
use mathlib.Core.Path.{◌≡◌, refl, ap, sym, ◌∙◌, subst}
use native.Mathlib.Omega.{arith}
use Rattle.counting.specs.Searches.{at, none}
use Rattle.load.specs.View.{View}
use Rattle.rules.specs.declared.Outcome.TheVariants.{Start, Idle, Done}
use Rattle.rules.specs.State.{State}
use Rattle.rules.specs.Move.{
  Moved,
  started,
  ticked,
  all_finished,
  chosen,
  next_slot,
  handed_back,
  start_or_idle_by,
  move_by,
}
use Rattle.rules.specs.Run.{starts_by}
use Rattle.rules.proofs.invariant.Setting.{Long, Gives, Charge, Setting}
use Rattle.rules.proofs.invariant.MoveKeeps.{Accounted, accounted-done, move-accounted, accounted-goes}
use Rattle.rules.proofs.run.RunLaws.{starts-move, starts-zero}

-- a state so many ticks later
abbrev pub later : State → ℕ → State
later s k =
    record { clock = s.clock + k; finished = s.finished; end = s.end; opening = s.opening }

-- at none of so many ticks is anything chosen
abbrev pub Quiet : View → State → ℕ → Type 0
Quiet L s k = (d : ℕ) → d < k → chosen L (later s d) ≡ none

ticked-later : (s : State) (k : ℕ) → ticked (later s k) ≡ later s (suc k)
unfolding ticked
ticked-later s k =
    let e : s.clock + k + 1 ≡ s.clock + suc k = omega arith in
    ap (λ t. record { clock = t; finished = s.finished; end = s.end; opening = s.opening }) e

pub later-none : (s : State) → later s 0 ≡ s
later-none s =
    let e : s.clock + 0 ≡ s.clock = omega arith in
    ap (λ t. record { clock = t; finished = s.finished; end = s.end; opening = s.opening }) e

finished-later : (L : View) (s : State) (k : ℕ) → all_finished L (later s k) ≡ all_finished L s
unfolding all_finished
finished-later L s k = refl

module _ (L : View) {long : Long} {gives : Gives} {charged : Charge} (g : Setting L long gives charged) where
  -- after Done there are no more
  pub starts-done : (n : ℕ) (s : State) → Accounted gives charged L s → all_finished L s ≡ true
      → starts_by long L n s ≡ []
  starts-done zero s v d = starts-zero long L s
  starts-done (suc n) s v d = starts-move long L n s (handed_back L s Done) (accounted-done L s g v d)

  module _ (s : State) (v : Accounted gives charged L s) (nd : all_finished L s ≡ false) where
    -- the row that is chosen starts
    module _ (i : ℕ) (e : chosen L s ≡ at i) where
      abbrev going : State
      going = started L s i (long i (s.finished i))

      start_move : move_by long L s ≡ handed_back L going (Start (next_slot s i))
      start_move = accounted-goes L s g v nd ∙ ap (start_or_idle_by long L s) e

      pub starts-start : (n : ℕ) → starts_by long L (suc n) s ≡ next_slot s i ∷ starts_by long L n going
      starts-start n = starts-move long L n s (handed_back L going (Start (next_slot s i))) start_move

      pub chosen-accounted : Accounted gives charged L going
      chosen-accounted =
          subst (λ (m : Moved). Accounted gives charged L m.then) start_move (move-accounted L s g v)

    -- where nothing is chosen, the clock moves one tick
    module _ (e : chosen L s ≡ none) where
      idle-move : move_by long L s ≡ handed_back L (ticked s) Idle
      idle-move = accounted-goes L s g v nd ∙ ap (start_or_idle_by long L s) e

      starts-idle : (n : ℕ) → starts_by long L (suc n) s ≡ starts_by long L n (ticked s)
      starts-idle n = starts-move long L n s (handed_back L (ticked s) Idle) idle-move

      ticked-accounted : Accounted gives charged L (ticked s)
      ticked-accounted = subst (λ (m : Moved). Accounted gives charged L m.then) idle-move (move-accounted L s g v)

  module _ (s : State) (v : Accounted gives charged L s) (nd : all_finished L s ≡ false) where
    still : (k : ℕ) → all_finished L (later s k) ≡ false
    still k = finished-later L s k ∙ nd

    pub quiet-accounted : (k : ℕ) → Quiet L s k → Accounted gives charged L (later s k)
    quiet-accounted zero q = subst (Accounted gives charged L) (sym (later-none s)) v
    quiet-accounted (suc k) q =
        subst (Accounted gives charged L) (ticked-later s k)
        (ticked-accounted (later s k) (quiet-accounted k (λ d l. q d (omega arith))) (still k) (q k (omega arith)))

    -- a stretch of ticks at which nothing is chosen is that many Idle moves
    pub quiet-starts : (k n : ℕ) → Quiet L s k → starts_by long L (n + k) s ≡ starts_by long L n (later s k)
    quiet-starts zero n q =
        let e : n + 0 ≡ n = omega arith in
        ap (λ m. starts_by long L m s) e ∙ ap (starts_by long L n) (sym (later-none s))
    quiet-starts (suc k) n q =
        let e : n + suc k ≡ suc n + k = omega arith in
        let before : Quiet L s k = λ d l. q d (omega arith) in
        ap (λ m. starts_by long L m s) e
        ∙ (quiet-starts k (suc n) before
        ∙ (starts-idle (later s k) (quiet-accounted k before) (still k) (q k (omega arith)) n
        ∙ ap (starts_by long L n) (ticked-later s k)))
