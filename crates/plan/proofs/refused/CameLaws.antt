-- What a walk has come to, over a list of rows: those that it went over stand before the row that is tried, they are in
-- time or one is late, and the row behind them, where none is late, does not stand before it.
use Prim.Native.Nat.{ℕ, suc, ◌+◌, ◌≤◌, ◌<◌}
use mathlib.Core.Bool.{Bool, true, false, not, ◌&&◌, ◌||◌}
use mathlib.Core.List.{List, [], ◌∷◌}
use mathlib.Core.Logic.{◌≢◌}
use mathlib.Core.Path.{◌≡◌, refl, ap, sym, ◌∙◌}
use native.Mathlib.Decide.{ℕ_discrete, dec_lt}
use native.Mathlib.Omega.{arith}
use borrow.Author.Tests.{ltb-true, ltb-false, eqb-true, eqb-false, leb-true, leb-false, le-leb, lt-leb}
use lib.Dec.{eqb, leb, ltb}
use lib.ListN.{take, drop}
use Rattle.counting.specs.Lists.{keep_in}
use Rattle.counting.proofs.tests.TestLaws.{true-false}
use Rattle.counting.proofs.sorting.SortLaws.{total_in, Every}
use Rattle.rules.specs.Plan.{Jobs, finish, in_time_by}
use Rattle.rules.proofs.plan.PlanLaws.{in_time_by-next, in_time_by-none}
use Rattle.rules.proofs.plan.EndLaws.{end_by, end_by-none, end_by-next}
use Rattle.plan.specs.inner.Walks.{Walk, others_in, stands_before, walked_to, walk_in}
use Rattle.plan.proofs.refused.WalkLaws.{
  others_in-own,
  others_in-other,
  walk_in-own,
  walk_in-stands,
  walk_in-late,
  walk_in-next,
}

-- what `stands_before` says of row i, due at own, and row k, due at due
stands : (own i due k : ℕ) → stands_before own i due k ≡ true → (own ≤ due) × (own ≡ due → i ≤ k)
stands own i due k e = go (ltb own due) refl (eqb own due) refl e
  where
    go : (s : Bool) → ltb own due ≡ s → (t : Bool) → eqb own due ≡ t → (s || t && leb i k) ≡ true
        → (own ≤ due) × (own ≡ due → i ≤ k)
    go true p t q h = (omega (arith, ltb-true own due p), λ w. absurd (omega (arith, ltb-true own due p)))
    go false p true q h = (omega (arith, eqb-true own due q), λ w. leb-true i k h)
    go false p false q h = absurd (true-false false h refl)

stands-not : (own i due k : ℕ) → stands_before own i due k ≡ false → (due ≤ own) × (due ≡ own → k < i)
stands-not own i due k e = go (ltb own due) refl (eqb own due) refl e
  where
    go : (s : Bool) → ltb own due ≡ s → (t : Bool) → eqb own due ≡ t → (s || t && leb i k) ≡ false
        → (due ≤ own) × (due ≡ own → k < i)
    go true p t q h = absurd (true-false true refl h)
    go false p true q h = (ltb-false own due p, λ w. omega (arith, leb-false i k h))
    go false p false q h = (ltb-false own due p, λ w. absurd (eqb-false own due q (sym w)))

-- the first row of a list is another than row i, and row i, due at own, stands before it
abbrev pub StandsFirst : (ℕ → ℕ) → ℕ → ℕ → List ℕ → Type 0
StandsFirst due i own [] = Unit {0}
StandsFirst due i own (k ∷ rest) = (k ≢ i) × ((own ≤ due k) × (own ≡ due k → i ≤ k))

-- row k is due before row i is, at own, or with it as a row before it
abbrev pub DueAhead : (ℕ → ℕ) → ℕ → ℕ → ℕ → Type 0
DueAhead due i own k = (due k ≤ own) × (due k ≡ own → k < i)

-- what a walk over a list came to
pub record Came (a : Jobs) (i own : ℕ) (l : List ℕ) (place t work : ℕ) (w : Walk) : Type 0 where
  pub gone : ℕ
  pub place_is : w.place ≡ place + gone
  pub ahead : Every (DueAhead a.due i own) (others_in i (take gone l))
  pub in-time : in_time_by a t (others_in i (take gone l)) ≡ not w.late
  pub time-is : w.late ≡ false → w.time ≡ end_by a t (others_in i (take gone l))
  pub work-is : w.work ≡ work + total_in a.left (others_in i (take gone l))
  pub behind : w.late ≡ false → StandsFirst a.due i own (drop gone l)

total_in-none : (f : ℕ → ℕ) → total_in f [] ≡ 0
unfolding total_in
total_in-none f = refl

total_in-next : (f : ℕ → ℕ) (k : ℕ) (l : List ℕ) → total_in f (k ∷ l) ≡ f k + total_in f l
unfolding total_in
total_in-next f k l = refl

module _ (a : Jobs) (i own : ℕ) where
  -- no row was gone over
  came-none : (l : List ℕ) (place t work : ℕ) → StandsFirst a.due i own l
      → Came a i own l place t work (walked_to place t work false)
  unfolding keep_in
  came-none l place t work first =
      record {
        gone = 0;
        place_is = omega arith;
        ahead = tt;
        in-time = in_time_by-none a t;
        time-is = λ _. sym (end_by-none a t);
        work-is = omega (arith, total_in-none a.left);
        behind = λ _. first;
      }

  module _ (k : ℕ) (rest : List ℕ) (place t work : ℕ) where
    came-own : k ≡ i → (w : Walk) → Came a i own rest (place + 1) t work w
        → Came a i own (k ∷ rest) place t work w
    came-own e w came =
        let f = others_in-own i k (take came.gone rest) e in
        record {
          gone = suc came.gone;
          place_is = omega (arith, came.place_is);
          ahead = rw f came.ahead;
          in-time = rw f came.in-time;
          time-is = λ h. rw f (came.time-is h);
          work-is = rw f came.work-is;
          behind = came.behind;
        }

    module _ (ne : k ≢ i) (h : DueAhead a.due i own k) where
      came-late : a.due k < finish a t k
          → Came a i own (k ∷ rest) place t work (walked_to (place + 1) (finish a t k) (work + a.left k) true)
      unfolding keep_in
      came-late late =
          let f : others_in i (k ∷ []) ≡ k ∷ [] = others_in-other i k [] ne in
          record {
            gone = 1;
            place_is = refl;
            ahead = rw f (h, tt);
            in-time =
                rw f
                (in_time_by-next a t k []
                ∙ ap (λ b. b && in_time_by a (finish a t k) []) (lt-leb (finish a t k) (a.due k) late));
            time-is = λ e. absurd (true-false true refl e);
            work-is = rw f (omega (arith, total_in-next a.left k [], total_in-none a.left));
            behind = λ e. absurd (true-false true refl e);
          }

      came-next : finish a t k ≤ a.due k → (w : Walk)
          → Came a i own rest (place + 1) (finish a t k) (work + a.left k) w
          → Came a i own (k ∷ rest) place t work w
      came-next in-time w came =
          let front = take came.gone rest in
          let f = others_in-other i k front ne in
          record {
            gone = suc came.gone;
            place_is = omega (arith, came.place_is);
            ahead = rw f (h, came.ahead);
            in-time =
                rw f
                (in_time_by-next a t k (others_in i front)
                ∙ ap (λ b. b && in_time_by a (finish a t k) (others_in i front))
                (le-leb (finish a t k) (a.due k) in-time)
                ∙ came.in-time);
            time-is = λ e. rw f (came.time-is e ∙ sym (end_by-next a t k (others_in i front)));
            work-is = rw f (omega (arith, came.work-is, total_in-next a.left k (others_in i front)));
            behind = came.behind;
          }

  -- the first row is another
  came-other : (k : ℕ) (rest : List ℕ) (place t work : ℕ) → k ≢ i
      → ((place t work : ℕ) → Came a i own rest place t work (walk_in a i own rest place t work))
      → (b : Bool) → stands_before own i (a.due k) k ≡ b
      → Came a i own (k ∷ rest) place t work (walk_in a i own (k ∷ rest) place t work)
  came-other k rest place t work ne on true e =
      rw (walk_in-stands a i own k rest place t work ne e)
      (came-none (k ∷ rest) place t work (ne, stands own i (a.due k) k e))
  came-other k rest place t work ne on false e =
      let end : ℕ = finish a t k in
      let sum : ℕ = work + a.left k in
      let h = stands-not own i (a.due k) k e in
      elim (dec_lt (a.due k) end) [
        | yes late ↦
            rw (walk_in-late a i own k rest place t work ne e end sum refl refl late)
            (came-late k rest place t work ne h late)
        | no in-time ↦
            rw (walk_in-next a i own k rest place t work ne e end sum refl refl (omega arith))
            (came-next k rest place t work ne h (omega arith) (walk_in a i own rest (place + 1) end sum)
            (on (place + 1) end sum))
      ]

  pub walk-came : (l : List ℕ) (place t work : ℕ) → Came a i own l place t work (walk_in a i own l place t work)
  unfolding walk_in
  walk-came [] place t work = came-none [] place t work tt
  walk-came (k ∷ rest) place t work =
      elim (ℕ_discrete k i) [
        | yes e ↦
            rw (walk_in-own a i own k rest place t work e)
            (came-own k rest place t work e (walk_in a i own rest (place + 1) t work)
            (walk-came rest (place + 1) t work))
        | no ne ↦
            came-other k rest place t work ne (walk-came rest) (stands_before own i (a.due k) k) refl
      ]
