-- What other rows have worked since a row ended a step: the charge of a full run. Of each other row whose next step is
-- free it counts the step that was worked at since, so once all have worked it is at least what the bound takes off.
use Prim.Native.Nat.{ℕ, suc, ◌≤◌, ◌<◌, min}
use mathlib.Core.Bool.{Bool, true, false, cond, ◌&&◌, not}
use mathlib.Core.Logic.{◌≢◌}
use mathlib.Core.Path.{◌≡◌, refl}
use native.Mathlib.Omega.{arith}
use lib.Dec.{eqb, leb, ltb}
use borrow.Author.Tests.{eqb-false, not-true, lt-ltb, le-ltb, le-leb, lt-leb, eq-eqb, ne_eqb}
use Rattle.counting.specs.Sums.{sum_to}
use Rattle.counting.proofs.tests.TestLaws.{and_left, and_right}
use Rattle.counting.proofs.sums.SumLaws.{sum_to-mono, sum_to-none}
use Rattle.counting.proofs.sums.ChangeLaws.{cond-mono}
use Rattle.load.specs.View.{View, is_free}
use Rattle.rules.specs.State.{State}
use Rattle.rules.specs.Move.{ticked}
use Rattle.rules.proofs.bound.TightBound.{minima}

-- of two steps p and p + 1 with their costs, the one that a row with so many steps finished has worked at since an
-- end, its own last step having ended at another
unfoldable pub worked_by : ℕ → ℕ → ℕ → ℕ → ℕ → ℕ → ℕ
worked_by p here next finished since end =
    elim (ltb (suc p) finished) [
      | true ↦ next
      | false ↦ elim (eqb finished (suc p) && leb since end) [ true ↦ here | false ↦ 0 ]
    ]

-- what row k has worked at its steps p and p + 1 since row i ended its step p
abbrev pub worked : View → State → ℕ → ℕ → ℕ → ℕ
worked L s p i k = worked_by p (L.cost k p) (L.cost k (suc p)) (s.finished k) (s.end i) (s.end k)

-- another row that the bound takes into account
abbrev pub is_other : View → ℕ → ℕ → ℕ → Bool
is_other L p i k = not (eqb k i) && is_free L k (suc p)

unfoldable pub worked_since : View → State → ℕ → ℕ → ℕ
worked_since L s p i = sum_to (λ k. cond (is_other L p i k) (worked L s p i k) 0) L.rows

pub is_other-other : (L : View) (p i k : ℕ) → is_other L p i k ≡ true → k ≢ i
is_other-other L p i k h = eqb-false k i (not-true (eqb k i) (and_left (not (eqb k i)) (is_free L k (suc p)) h))

pub is_other-free : (L : View) (p i k : ℕ) → is_other L p i k ≡ true → is_free L k (suc p) ≡ true
is_other-free L p i k h = and_right (not (eqb k i)) (is_free L k (suc p)) h

-- the values of `worked`
module _ (L : View) (s : State) (p i k : ℕ) where
  pub worked-next : suc p < s.finished k → worked L s p i k ≡ L.cost k (suc p)
  unfolding worked_by
  worked-next h = rw (lt-ltb (suc p) (s.finished k) h, worked_by)

  pub worked-here : s.finished k ≡ suc p → s.end i ≤ s.end k → worked L s p i k ≡ L.cost k p
  unfolding worked_by
  worked-here h e =
      rw (
        le-ltb (suc p) (s.finished k) (omega arith),
        eq-eqb (s.finished k) (suc p) h,
        le-leb (s.end i) (s.end k) e,
        worked_by,
      )

  pub worked-before : s.finished k ≤ suc p → s.end k < s.end i → worked L s p i k ≡ 0
  unfolding worked_by
  worked-before h e = go (eqb (s.finished k) (suc p)) refl
    where
      go : (b : Bool) → eqb (s.finished k) (suc p) ≡ b → worked L s p i k ≡ 0
      go true q = rw (le-ltb (suc p) (s.finished k) h, q, lt-leb (s.end i) (s.end k) e, worked_by)
      go false q = rw (le-ltb (suc p) (s.finished k) h, q, worked_by)

  pub worked-none : s.finished k ≤ p → worked L s p i k ≡ 0
  unfolding worked_by
  worked-none h =
      rw (
        le-ltb (suc p) (s.finished k) (omega arith),
        ne_eqb (s.finished k) (suc p) (λ e. omega arith),
        worked_by,
      )

  -- at most the cost of the last step
  pub worked-le : s.finished k ≡ suc p → worked L s p i k ≤ L.cost k p
  unfolding worked_by
  worked-le h =
      rw (le-ltb (suc p) (s.finished k) (omega arith), eq-eqb (s.finished k) (suc p) h, worked_by)
      (go (leb (s.end i) (s.end k)))
    where
      go : (b : Bool) → elim b [ true ↦ L.cost k p | false ↦ 0 ] ≤ L.cost k p
      go true = omega arith
      go false = omega arith

-- it looks at three numbers
pub worked-ext : (L : View) (s s' : State) (p i k : ℕ) → s.finished k ≡ s'.finished k → s.end i ≡ s'.end i
    → s.end k ≡ s'.end k → worked L s p i k ≡ worked L s' p i k
worked-ext L s s' p i k a b c = rw (a, b, c)

pub worked_since-none : (L : View) (s : State) (p i : ℕ)
    → ((k : ℕ) → k < L.rows → k ≢ i → is_free L k (suc p) ≡ true → worked L s p i k ≡ 0) → worked_since L s p i ≡ 0
unfolding worked_since
worked_since-none L s p i h =
    sum_to-none (λ k. cond (is_other L p i k) (worked L s p i k) 0) L.rows (λ k l. at k l (is_other L p i k) refl)
  where
    at : (k : ℕ) → k < L.rows → (b : Bool) → is_other L p i k ≡ b → cond b (worked L s p i k) 0 ≡ 0
    at k l false e = refl
    at k l true e = h k l (is_other-other L p i k e) (is_other-free L p i k e)

-- a tick leaves it
pub tick-worked : (L : View) (s : State) (p i : ℕ) → worked_since L (ticked s) p i ≡ worked_since L s p i
unfolding worked_since ticked
tick-worked L s p i = refl

-- the charge is at least what the bound takes off, term by term
pub minima-le : (L : View) (s : State) (p i : ℕ)
    → ((k : ℕ) → k < L.rows → k ≢ i → is_free L k (suc p) ≡ true
    → min (L.cost k p) (L.cost k (suc p)) ≤ worked L s p i k)
    → minima L p i ≤ worked_since L s p i
unfolding minima worked_since
minima-le L s p i h =
    sum_to-mono (λ k. cond (is_other L p i k) (min (L.cost k p) (L.cost k (suc p))) 0)
    (λ k. cond (is_other L p i k) (worked L s p i k) 0) L.rows
    (λ k l. cond-mono (is_other L p i k) (min (L.cost k p) (L.cost k (suc p))) (worked L s p i k)
    (λ e. h k l (is_other-other L p i k e) (is_other-free L p i k e)))
