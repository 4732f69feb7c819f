-- What a start and a tick change, and the ways of a move, whatever lengths its steps have: two refusals, Done, Start of
-- a candidate that passes, Idle where none passes. The order of the candidates is not used.
use Prim.Native.Nat.{ℕ, suc, ◌+◌, ◌≤◌, ◌<◌, max}
use mathlib.Core.Bool.{Bool, true, false, ◌&&◌}
use mathlib.Core.Logic.{◌≢◌}
use mathlib.Core.Path.{◌≡◌, refl, ap, ◌∙◌}
use native.Mathlib.Decide.{ℕ_discrete, dec_lt}
use native.Mathlib.Omega.{arith}
use lib.Dec.{leb, ltb}
use borrow.Author.Tests.{ltb-true, leb-true, lt-ltb, le-leb, lt-leb}
use Rattle.counting.specs.Lists.{numbers_where}
use Rattle.counting.specs.Searches.{Found, at, none}
use Rattle.counting.specs.Sorting.{by_keys}
use Rattle.counting.proofs.tests.TestLaws.{and_left, and_right, true-false}
use Rattle.counting.proofs.sorting.SortLaws.{Every-sorted}
use Rattle.counting.proofs.lists.EveryLaws.{every-numbers_where, numbers_where-every, sorted-every, found_at}
use Rattle.counting.proofs.lists.EveryLaws.{found_none}
use Rattle.counting.proofs.sums.ChangeLaws.{changed-same, changed-other}
use Rattle.refusals.specs.declared.Refusal.TheVariants.{StateShape, ClockFull}
use Rattle.load.specs.Load.{last_moment}
use Rattle.load.specs.View.{View, opens_at}
use Rattle.rules.specs.declared.Outcome.TheVariants.{Start, Idle, Done}
use Rattle.rules.specs.State.{State, is_open, shaped}
use Rattle.rules.specs.Ready.{released, is_ready, is_allowed, would_end, is_candidate, classes_above, candidates}
use Rattle.rules.specs.Move.{
  opening_after,
  started,
  ticked,
  passes,
  chosen,
  all_finished,
  next_slot,
  handed_back,
  refused_move,
  start_or_idle_by,
  shaped_move_with,
  move_with,
  move_by,
}

-- a state has changed by row k's next step, started at a moment and so long: it is over as well, and the clock moves on
-- where it ends later. A start of two heads lies before the clock of such a state (2026-13)
pub record StepOver (L : View) (s s' : State) (k start long : ℕ) : Type 0 where
  pub clock-is : s'.clock ≡ max s.clock (start + long)
  pub finished-same : s'.finished k ≡ suc (s.finished k)
  pub finished-other : (i : ℕ) → i ≢ k → s'.finished i ≡ s.finished i
  pub end_same : s'.end k ≡ start + long
  pub end-other : (i : ℕ) → i ≢ k → s'.end i ≡ s.end i
  pub opening-same : s'.opening k ≡ opening_after L s k start
  pub opening-other : (i : ℕ) → i ≢ k → s'.opening i ≡ s.opening i

module _ (L : View) (s : State) (k long : ℕ) where
  pub started-clock : (started L s k long).clock ≡ s.clock + long
  unfolding started
  started-clock = refl

  pub started-finished-same : (started L s k long).finished k ≡ suc (s.finished k)
  unfolding started
  started-finished-same = changed-same s.finished k (suc (s.finished k))

  pub started-finished-other : (i : ℕ) → i ≢ k → (started L s k long).finished i ≡ s.finished i
  unfolding started
  started-finished-other i ne = changed-other s.finished k (suc (s.finished k)) i ne

  pub started-end-same : (started L s k long).end k ≡ s.clock + long
  unfolding started
  started-end-same = changed-same s.end k (s.clock + long)

  pub started-end-other : (i : ℕ) → i ≢ k → (started L s k long).end i ≡ s.end i
  unfolding started
  started-end-other i ne = changed-other s.end k (s.clock + long) i ne

  pub started-opening-same : (started L s k long).opening k ≡ opening_after L s k s.clock
  unfolding started
  started-opening-same = changed-same s.opening k (opening_after L s k s.clock)

  pub started-opening-other : (i : ℕ) → i ≢ k → (started L s k long).opening i ≡ s.opening i
  unfolding started
  started-opening-other i ne = changed-other s.opening k (opening_after L s k s.clock) i ne

  -- the step is over, and it started now
  pub started-over : StepOver L s (started L s k long) k s.clock long
  started-over =
      record {
        clock-is = omega (arith, started-clock);
        finished-same = started-finished-same;
        finished-other = started-finished-other;
        end_same = started-end-same;
        end-other = started-end-other;
        opening-same = started-opening-same;
        opening-other = started-opening-other;
      }

  pub started-finished-le : (i : ℕ) → s.finished i ≤ (started L s k long).finished i
  started-finished-le i =
      elim (ℕ_discrete i k) [
        | yes e ↦ rw e (omega (arith, started-finished-same))
        | no e ↦ omega (arith, started-finished-other i e)
      ]

-- the opening after a start: kept, new, or none
module _ (L : View) (s : State) (k start : ℕ) where
  pub opening_after-kept : is_open L s k ≡ true → opens_at L k (suc (s.finished k)) ≡ true
      → opening_after L s k start ≡ s.opening k
  opening_after-kept a b = rw (b, a)

  pub opening_after-new : is_open L s k ≡ false → opens_at L k (suc (s.finished k)) ≡ true
      → opening_after L s k start ≡ start
  opening_after-new a b = rw (b, a)

  pub opening_after-none : opens_at L k (suc (s.finished k)) ≡ false → opening_after L s k start ≡ 0
  opening_after-none b = rw b

-- a candidate that passes
pub record CanStart (L : View) (s : State) (i : ℕ) : Type 0 where
  pub there : i < L.rows
  pub more : s.finished i < L.steps i
  pub ready : released L s i ≤ s.clock
  pub allowed : is_allowed L s i ≡ true
  pub in-time : would_end L s i ≤ last_moment
  pub plan : passes L s i ≡ true

pub is_candidate-true : (L : View) (s : State) (i : ℕ) → i < L.rows → is_candidate L s i ≡ true → passes L s i ≡ true
    → CanStart L s i
unfolding is_candidate
is_candidate-true L s i l h p =
    record {
      there = l;
      more = ltb-true (s.finished i) (L.steps i) (and_left a b (and_left (a && b) c (and_left (a && b && c) d h)));
      ready = leb-true (released L s i) s.clock (and_right a b (and_left (a && b) c (and_left (a && b && c) d h)));
      allowed = and_right (a && b) c (and_left (a && b && c) d h);
      in-time = leb-true (would_end L s i) last_moment (and_right (a && b && c) d h);
      plan = p;
    }
  where
    a : Bool
    a = ltb (s.finished i) (L.steps i)

    b : Bool
    b = is_ready L s i

    c : Bool
    c = is_allowed L s i

    d : Bool
    d = leb (would_end L s i) last_moment

pub can_start-is_candidate : (L : View) (s : State) (i : ℕ) → CanStart L s i → is_candidate L s i ≡ true
unfolding is_candidate
can_start-is_candidate L s i c =
    rw (
      lt-ltb (s.finished i) (L.steps i) c.more,
      le-leb (released L s i) s.clock c.ready,
      c.allowed,
      le-leb (would_end L s i) last_moment c.in-time,
    )

-- how a move goes, by its three tests
module _ (long : ℕ → ℕ → ℕ) (L : View) (s : State) where
  pub move-unshaped : shaped L s ≡ false → move_by long L s ≡ refused_move s StateShape
  unfolding move_with move_by
  move-unshaped h = rw (h, move_with)

  move-shaped : shaped L s ≡ true → move_by long L s ≡ shaped_move_with long L s (chosen L s)
  unfolding move_with move_by
  move-shaped h = rw (h, move_with)

  pub move-done : shaped L s ≡ true → all_finished L s ≡ true → move_by long L s ≡ handed_back L s Done
  unfolding shaped_move_with
  move-done h d = move-shaped h ∙ rw (d, shaped_move_with)

  pub move-full : shaped L s ≡ true → all_finished L s ≡ false → last_moment ≤ s.clock
      → move_by long L s ≡ refused_move s ClockFull
  unfolding shaped_move_with
  move-full h d l = move-shaped h ∙ rw (d, shaped_move_with) (rw (le-leb last_moment s.clock l))

  pub move-goes : shaped L s ≡ true → all_finished L s ≡ false → s.clock < last_moment
      → move_by long L s ≡ start_or_idle_by long L s (chosen L s)
  unfolding shaped_move_with
  move-goes h d l = move-shaped h ∙ rw (d, shaped_move_with) (rw (lt-leb last_moment s.clock l))

-- the four ways of a move
pub data Way (long : ℕ → ℕ → ℕ) (L : View) (s : State) : Type 0 where
  unshaped : shaped L s ≡ false → move_by long L s ≡ refused_move s StateShape → Way long L s
  finished : shaped L s ≡ true → move_by long L s ≡ handed_back L s Done → Way long L s
  full : shaped L s ≡ true → all_finished L s ≡ false → last_moment ≤ s.clock
      → move_by long L s ≡ refused_move s ClockFull → Way long L s
  goes : shaped L s ≡ true → move_by long L s ≡ start_or_idle_by long L s (chosen L s) → Way long L s

pub move-way : (long : ℕ → ℕ → ℕ) (L : View) (s : State) → Way long L s
move-way long L s = go (shaped L s) refl (all_finished L s) refl
  where
    go : (b : Bool) → shaped L s ≡ b → (d : Bool) → all_finished L s ≡ d → Way long L s
    go false h d e = unshaped h (move-unshaped long L s h)
    go true h true e = finished h (move-done long L s h e)
    go true h false e =
        elim (dec_lt s.clock last_moment) [
          | yes l ↦ goes h (move-goes long L s h e l)
          | no l ↦ full h e (omega arith) (move-full long L s h e (omega arith))
        ]

pub chosen_at : (L : View) (s : State) (i : ℕ) → chosen L s ≡ at i → CanStart L s i
unfolding chosen candidates
chosen_at L s i e =
    let f = found_at Right (passes L s) (candidates L s) i
    (Every-sorted (by_keys s.finished (classes_above L)) Right (numbers_where (is_candidate L s) L.rows)
    (every-numbers_where Right (is_candidate L s) L.rows (λ k l q. (l, q)))) e in
    is_candidate-true L s i f.0.0 f.0.1 f.1
  where
    Right : ℕ → Type 0
    Right k = (k < L.rows) × (is_candidate L s k ≡ true)

chosen_none : (L : View) (s : State) → chosen L s ≡ none → (i : ℕ) → CanStart L s i → ⊥
unfolding chosen candidates
chosen_none L s e i c =
    true-false (passes L s i) c.plan
    (numbers_where-every (λ k. passes L s k ≡ false) (is_candidate L s) L.rows
    (sorted-every (λ k. passes L s k ≡ false) (by_keys s.finished (classes_above L))
    (numbers_where (is_candidate L s) L.rows)
    (found_none (passes L s) (candidates L s) e)) i c.there (can_start-is_candidate L s i c))

-- the two ways of a move with work left and time for it
pub data Turn (long : ℕ → ℕ → ℕ) (L : View) (s : State) : Type 0 where
  starts : (i : ℕ) → CanStart L s i
      → move_by long L s ≡ handed_back L (started L s i (long i (s.finished i))) (Start (next_slot s i))
      → Turn long L s
  idles : ((i : ℕ) → CanStart L s i → ⊥) → move_by long L s ≡ handed_back L (ticked s) Idle → Turn long L s

pub move-turn : (long : ℕ → ℕ → ℕ) (L : View) (s : State) → shaped L s ≡ true → all_finished L s ≡ false
    → s.clock < last_moment → Turn long L s
move-turn long L s h d l = go (chosen L s) refl
  where
    turned : move_by long L s ≡ start_or_idle_by long L s (chosen L s)
    turned = move-goes long L s h d l

    go : (f : Found) → chosen L s ≡ f → Turn long L s
    go (at i) e = starts i (chosen_at L s i e) (turned ∙ ap (start_or_idle_by long L s) e)
    go none e = idles (chosen_none L s e) (turned ∙ ap (start_or_idle_by long L s) e)
