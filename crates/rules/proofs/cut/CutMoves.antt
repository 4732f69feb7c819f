-- While a row that the cut keeps whole is unfinished, the cut load and the load have the same candidates in the same
-- order, of which the same pass, so that the same row is chosen.
use Prim.Native.Nat.{ℕ, ◌≤◌, ◌<◌}
use mathlib.Core.Bool.{Bool, true, false, cond, ◌&&◌}
use mathlib.Core.List.{[], ◌∷◌}
use mathlib.Core.Path.{◌≡◌, refl, ap, sym, ◌∙◌}
use native.Mathlib.Decide.{ℕ_discrete, dec_lt}
use native.Mathlib.Omega.{arith}
use lib.Dec.{leb, ltb}
use borrow.Author.Tests.{ltb-true, lt-ltb}
use Rattle.counting.specs.Lists.{numbers_where}
use Rattle.counting.specs.Searches.{found}
use Rattle.counting.specs.Sorting.{sorted, by_keys}
use Rattle.counting.proofs.tests.TestLaws.{and_left, and_right}
use Rattle.counting.proofs.lists.ListLaws.{join_to-ext}
use Rattle.counting.proofs.sorting.SortLaws.{Every-sorted}
use Rattle.counting.proofs.lists.EveryLaws.{every-numbers_where, found-ext}
use Rattle.load.specs.Load.{last_moment}
use Rattle.load.specs.View.{View, embedded}
use Rattle.rules.specs.Cut.{kept, cut}
use Rattle.rules.specs.State.{State}
use Rattle.rules.specs.Ready.{is_ready, is_allowed, would_end, is_candidate, classes_above, candidates}
use Rattle.rules.specs.Plan.{plan_passes}
use Rattle.rules.specs.Move.{started, started_full, passes, chosen}
use Rattle.rules.proofs.cut.CutLaws.{first_kept-le, kept-le, steps-of-cut}
use Rattle.rules.proofs.invariant.Runnable.{Runnable}
use Rattle.rules.proofs.moves.MoveLaws.{started-finished-same, started-finished-other}
use Rattle.rules.proofs.invariant.TickLaws.{allowed-free}
use Rattle.rules.proofs.cut.CutWindows.{kept-shut}
use Rattle.rules.proofs.cut.CutPlan.{cost-of-cut, release-of-cut, plan-same, started-same, allowed_same}

and-ext : (a b c d a' b' c' d' : Bool) → a ≡ a' → b ≡ b' → c ≡ c' → d ≡ d'
    → (a && b && c && d) ≡ (a' && b' && c' && d')
and-ext a b c d a' b' c' d' p q r t = rw (p, q, r, t)

-- a candidate is there, and allowed
is_candidate-there : (L : View) (s : State) (i : ℕ) → is_candidate L s i ≡ true
    → (s.finished i < L.steps i) × (is_allowed L s i ≡ true)
unfolding is_candidate
is_candidate-there L s i h = (
  ltb-true (s.finished i) (L.steps i) (and_left a b (and_left (a && b) c (and_left (a && b && c) d h))),
  and_right (a && b) c (and_left (a && b && c) d h),
)
  where
    a : Bool
    a = ltb (s.finished i) (L.steps i)

    b : Bool
    b = is_ready L s i

    c : Bool
    c = is_allowed L s i

    d : Bool
    d = leb (would_end L s i) last_moment

module _ (L : View) (m : ℕ) (g : Runnable L) (s : State)
    (inside : (i : ℕ) → i < L.rows → s.finished i ≤ kept L m i) where
  abbrev K : View
  K = cut L m

  inside-started : (k : ℕ) → k < L.rows → s.finished k < kept L m k → (i : ℕ) → i < L.rows
      → (started_full L s k).finished i ≤ kept L m i
  inside-started k lk h i l =
      elim (ℕ_discrete i k) [
        | yes e ↦ rw e (omega (arith, started-finished-same L s k (L.cost k (s.finished k))))
        | no e ↦ omega (arith, started-finished-other L s k (L.cost k (s.finished k)) i e, inside i l)
      ]

  candidate-kept : (k : ℕ) → k < L.rows → s.finished k < kept L m k → is_candidate K s k ≡ is_candidate L s k
  unfolding is_candidate cut
  candidate-kept k l h =
      and-ext (ltb (s.finished k) (kept L m k)) (is_ready K s k) (is_allowed K s k)
      (leb (would_end K s k) last_moment) (ltb (s.finished k) (L.steps k)) (is_ready L s k) (is_allowed L s k)
      (leb (would_end L s k) last_moment)
      (lt-ltb (s.finished k) (kept L m k) h
      ∙ sym (lt-ltb (s.finished k) (L.steps k) (omega (arith, kept-le L m k))))
      (ap (λ r. leb r s.clock) (release-of-cut L m k (s.finished k) (s.end k) h))
      (allowed_same L m g s inside k l h) refl

  -- row z is kept whole, and unfinished
  module _ (z : ℕ) (lz : z < L.rows) (all : L.steps z ≤ m) (late : s.finished z < L.steps z) where
    -- a candidate stands within the cut
    candidate-in : (k : ℕ) → k < L.rows → is_candidate L s k ≡ true → s.finished k < kept L m k
    candidate-in k l e =
        elim (dec_lt (s.finished k) (kept L m k)) [
          | yes q ↦ q
          | no q ↦
              (let c = is_candidate-there L s k e in
              let more = c.0 in
              let at-end : s.finished k ≡ kept L m k = omega (arith, inside k l) in
              let shut : embedded L k (s.finished k) ≡ false = ap (embedded L k) at-end ∙ kept-shut L m g k l in
              absurd (omega (arith, allowed-free L s k c.1 shut z lz, first_kept-le L m k)))
        ]

    candidate-same : (k : ℕ) → k < L.rows → is_candidate K s k ≡ is_candidate L s k
    candidate-same k l =
        elim (dec_lt (s.finished k) (kept L m k)) [
          | yes h ↦ candidate-kept k l h
          | no h ↦ past h (is_candidate K s k) refl (is_candidate L s k) refl
        ]
      where
        past : (s.finished k < kept L m k → ⊥) → (b : Bool) → is_candidate K s k ≡ b → (c : Bool)
            → is_candidate L s k ≡ c → b ≡ c
        past h b e true q = absurd (h (candidate-in k l q))
        past h false e false q = refl
        past h true e false q =
            absurd (h (omega (arith, (is_candidate-there K s k e).0, steps-of-cut L m k)))

    candidates-same : candidates K s ≡ candidates L s
    unfolding candidates cut
    candidates-same =
        ap (sorted (by_keys s.finished (classes_above L)))
        (join_to-ext (λ i. cond (is_candidate K s i) (i ∷ []) []) (λ i. cond (is_candidate L s i) (i ∷ []) []) L.rows
        (λ i l. ap (λ b. cond b (i ∷ []) []) (candidate-same i l)))

    -- its start leaves both alike, whatever length its step has
    pub candidate-alike : (k long : ℕ) → k < L.rows → is_candidate L s k ≡ true
        → started K s k long ≡ started L s k long
    candidate-alike k long l e = started-same L m g s inside k long l (candidate-in k l e)

    started_full-same : (k : ℕ) → k < L.rows → is_candidate L s k ≡ true → started_full K s k ≡ started_full L s k
    started_full-same k l e =
        ap (started K s k) (cost-of-cut L m k (s.finished k))
        ∙ candidate-alike k (L.cost k (s.finished k)) l e

    passes_same : (k : ℕ) → k < L.rows → is_candidate L s k ≡ true → passes K s k ≡ passes L s k
    unfolding passes
    passes_same k l e =
        ap (λ t. plan_passes K t t.clock) (started_full-same k l e)
        ∙ plan-same L m g (started_full L s k) (inside-started k l (candidate-in k l e)) (started_full L s k).clock

    pub chosen-same : chosen K s ≡ chosen L s
    unfolding chosen candidates
    chosen-same =
        ap (found (passes K s)) candidates-same
        ∙ found-ext (passes K s) (passes L s) (candidates L s)
        (Every-sorted (by_keys s.finished (classes_above L)) (λ k. passes K s k ≡ passes L s k)
        (numbers_where (is_candidate L s) L.rows)
        (every-numbers_where (λ k. passes K s k ≡ passes L s k) (is_candidate L s) L.rows passes_same))
