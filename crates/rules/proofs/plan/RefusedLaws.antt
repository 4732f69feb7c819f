-- Until when a step that the plan refuses stays refused. Begun later, every row is finished no sooner, and the rows
-- that stand before a window that would open now stand before it when it opens later. So its step stays refused while
-- one of them or itself would be late; and, until it would stand behind the first row behind it, while one of those is.
use Prim.Native.Nat.{ℕ, ◌+◌, ◌≤◌, ◌<◌}
use mathlib.Core.Bool.{true, false, cond, ◌&&◌}
use mathlib.Core.List.{List, [], ◌∷◌, ◌++◌}
use mathlib.Core.Logic.{◌≢◌}
use mathlib.Core.Path.{◌≡◌, refl, ap, ap₂, sym, ◌∙◌}
use native.Mathlib.Omega.{arith}
use lib.Dec.{leb}
use Rattle.counting.specs.Sorting.{inserted, by_key}
use Rattle.counting.proofs.tests.TestLaws.{and_left, and_right, true-false, never_true}
use Rattle.counting.proofs.sorting.SortLaws.{total_in, Every, Every-map, by_key-true, precedes-by_key}
use Rattle.counting.proofs.sorting.OrderLaws.{inserted-past}
use Rattle.rules.specs.Plan.{Jobs, finish, in_time_by}
use Rattle.rules.proofs.plan.PlanLaws.{SameJob, EasierJob, in_time_by-ext, in_time_by-sooner, in_time_by-next}
use Rattle.rules.proofs.plan.EndLaws.{
  end_by,
  window_end,
  in_time_by-append,
  window_end-mono,
  total_in-le,
  in_time_by-begun,
  inserted-in-time,
  end_by-ext,
}

-- what the plan b asks once row i's next step, started at t, has opened its window; a is what it asks of the others
pub record Opens (a b : Jobs) (i t cost wait rest near far : ℕ) : Type 0 where
  pub others : (k : ℕ) → k ≢ i → SameJob b a k
  pub key-is : b.key i ≡ t + far
  pub release-is : b.release i ≡ t + cost + wait
  pub left_is : b.left i ≡ rest
  pub due-is : b.due i ≡ t + near

-- row k stands before row i, whose key is own
abbrev pub Ahead : Jobs → ℕ → ℕ → ℕ → Type 0
Ahead a i own k = (a.key k ≤ own) × (a.key k ≡ own → k < i)

-- row i, whose key is own, stands before row k
abbrev pub Behind : Jobs → ℕ → ℕ → ℕ → Type 0
Behind a i own k = (own ≤ a.key k) × (own ≡ a.key k → i ≤ k)

-- row i, whose key is own, stands before the first row of a list
abbrev pub FirstBehind : Jobs → ℕ → ℕ → List ℕ → Type 0
FirstBehind a i own [] = Unit {0}
FirstBehind a i own (k ∷ rest) = Behind a i own k

-- a step that opens no window, or whose window is open: asked for no less and begun no sooner, it stays refused
pub refused-still : (b b' : Jobs) (c t cost : ℕ) (l : List ℕ) → Every (EasierJob b' b) l → c ≤ t
    → in_time_by b (c + cost) l ≡ false → in_time_by b' (t + cost) l ≡ false
refused-still b b' c t cost l e since late =
    never_true _
    (λ p. true-false (in_time_by b (c + cost) l)
    (in_time_by-sooner b' b (t + cost) (c + cost) l e (omega arith) p) late)

-- row i's window opens at t
module _ (a b : Jobs) (i t cost wait rest near far : ℕ) (opens : Opens a b i t cost wait rest near far) where
  not-before : (k : ℕ) → k ≢ i → Ahead a i (t + far) k → by_key b.key i k ≡ false
  not-before k ne h =
      never_true _
      (λ e.
      let p = by_key-true b.key i k e in
      let same = (opens.others k ne).key-same in
      let tie : b.key i ≡ b.key k = omega (arith, p.keys, opens.key-is, h.0) in
      omega (arith, opens.key-is, h.1 (omega (arith, opens.key-is)), p.ties tie))

  past : (pre : List ℕ) → Every (λ k. k ≢ i) pre → Every (Ahead a i (t + far)) pre
      → Every (λ k. by_key b.key i k ≡ false) pre
  past [] apart ahead = tt
  past (k ∷ pre) apart ahead = (not-before k apart.0 ahead.0, past pre apart.1 ahead.1)

  asked-same : (l : List ℕ) → Every (λ k. k ≢ i) l → Every (SameJob b a) l
  asked-same l = Every-map (λ k. k ≢ i) (SameJob b a) l opens.others

  first_of : (post : List ℕ) → Every (λ k. k ≢ i) post → FirstBehind a i (t + far) post
      → inserted (by_key b.key) i post ≡ i ∷ post
  unfolding inserted
  first_of [] apart first = refl
  first_of (k ∷ more) apart first =
      let same = (opens.others k apart.0).key-same in
      ap (λ p. cond p (i ∷ k ∷ more) (k ∷ inserted (by_key b.key) i more))
      (precedes-by_key b.key i k
      (record {
        keys = omega (arith, opens.key-is, first.0);
        ties = λ e. first.1 (omega (arith, opens.key-is));
      }))

  -- where the rows of pre stand before it
  module _ (pre post : List ℕ) (apart : Every (λ k. k ≢ i) pre) (ahead : Every (Ahead a i (t + far)) pre) where
    -- the rows of pre are finished first, as without row i
    passes-by : in_time_by b (t + cost) (inserted (by_key b.key) i (pre ++ post))
        ≡ (in_time_by a (t + cost) pre && in_time_by b (end_by a (t + cost) pre) (inserted (by_key b.key) i post))
    passes-by =
        ap (in_time_by b (t + cost)) (inserted-past (by_key b.key) i pre post (past pre apart ahead))
        ∙ in_time_by-append b (t + cost) pre (inserted (by_key b.key) i post)
        ∙ ap₂ (λ p u. p && in_time_by b u (inserted (by_key b.key) i post))
        (in_time_by-ext b a (t + cost) pre (asked-same pre apart))
        (end_by-ext b a (t + cost) pre (asked-same pre apart))

    -- where it passes, row i is in time behind them
    own-in-time : in_time_by b (t + cost) (inserted (by_key b.key) i (pre ++ post)) ≡ true
        → window_end a (t + cost) pre wait rest ≤ t + near
    own-in-time p =
        omega (
          arith,
          opens.release-is,
          opens.left_is,
          opens.due-is,
          inserted-in-time b (by_key b.key) i (end_by a (t + cost) pre) post
              (and_right (in_time_by a (t + cost) pre)
              (in_time_by b (end_by a (t + cost) pre) (inserted (by_key b.key) i post)) (sym passes-by ∙ p)),
        )

    -- with the rows of post behind row i: those before it are in time, then row i, then those behind it
    pub opens-passes : Every (λ k. k ≢ i) post → FirstBehind a i (t + far) post
        → in_time_by b (t + cost) (inserted (by_key b.key) i (pre ++ post))
        ≡ (in_time_by a (t + cost) pre
        && (leb (window_end a (t + cost) pre wait rest) (t + near)
        && in_time_by a (window_end a (t + cost) pre wait rest) post))
    opens-passes apart' first =
        passes-by
        ∙ ap (λ p. in_time_by a (t + cost) pre && p)
        (ap (in_time_by b (end_by a (t + cost) pre)) (first_of post apart' first)
        ∙ in_time_by-next b (end_by a (t + cost) pre) i post
        ∙ rw (own, opens.due-is)
        (ap (λ p. leb (window_end a (t + cost) pre wait rest) (t + near) && p)
        (in_time_by-ext b a (window_end a (t + cost) pre wait rest) post (asked-same post apart'))))
      where
        own : finish b (end_by a (t + cost) pre) i ≡ window_end a (t + cost) pre wait rest
        own = omega (arith, opens.release-is, opens.left_is)

-- row i's window opens at t, and the rows of pre stood before it when it would have opened at c
module _ (a b : Jobs) (i c t cost wait rest near far : ℕ) (opens : Opens a b i t cost wait rest near far)
    (since : c ≤ t) (pre post : List ℕ) (apart : Every (λ k. k ≢ i) pre) (ahead : Every (Ahead a i (c + far)) pre) where
  -- they stand before it still
  ahead-still : Every (Ahead a i (t + far)) pre
  ahead-still =
      Every-map (Ahead a i (c + far)) (Ahead a i (t + far)) pre
      (λ k h. (omega (arith, h.0), λ e. h.1 (omega (arith, h.0)))) ahead

  -- a row before it is late
  pub refused-before : in_time_by a (c + cost) pre ≡ false
      → in_time_by b (t + cost) (inserted (by_key b.key) i (pre ++ post)) ≡ false
  refused-before late =
      never_true _
      (λ p. true-false (in_time_by a (c + cost) pre)
      (in_time_by-begun a (t + cost) (c + cost) pre (omega arith)
      (and_left (in_time_by a (t + cost) pre)
      (in_time_by b (end_by a (t + cost) pre) (inserted (by_key b.key) i post))
      (sym (passes-by a b i t cost wait rest near far opens pre post apart ahead-still) ∙ p))) late)

  -- its step, what is left of the rows before it and what is left of its own window take longer than it may
  pub refused-crowded : near < cost + rest + total_in a.left pre
      → in_time_by b (t + cost) (inserted (by_key b.key) i (pre ++ post)) ≡ false
  refused-crowded crowded =
      never_true _
      (λ p. omega (
        arith,
        own-in-time a b i t cost wait rest near far opens pre post apart ahead-still p,
        total_in-le a (t + cost) pre,
      ))

  -- its own window is late
  pub refused-own : t + near < window_end a (c + cost) pre wait rest
      → in_time_by b (t + cost) (inserted (by_key b.key) i (pre ++ post)) ≡ false
  refused-own late =
      never_true _
      (λ p. omega (
        arith,
        own-in-time a b i t cost wait rest near far opens pre post apart ahead-still p,
        window_end-mono a (c + cost) (t + cost) pre wait rest (omega arith),
      ))

  -- a row behind it is late, and it would still stand before the first of those
  pub refused-behind : Every (λ k. k ≢ i) post → FirstBehind a i (t + far) post
      → in_time_by a (window_end a (c + cost) pre wait rest) post ≡ false
      → in_time_by b (t + cost) (inserted (by_key b.key) i (pre ++ post)) ≡ false
  refused-behind apart' first late =
      never_true _
      (λ p. true-false (in_time_by a (window_end a (c + cost) pre wait rest) post)
      (in_time_by-begun a own (window_end a (c + cost) pre wait rest) post
      (window_end-mono a (c + cost) (t + cost) pre wait rest (omega arith))
      (and_right (leb own (t + near)) (in_time_by a own post)
      (and_right (in_time_by a (t + cost) pre) (leb own (t + near) && in_time_by a own post)
      (sym (opens-passes a b i t cost wait rest near far opens pre post apart ahead-still apart' first) ∙ p)))) late)
    where
      own : ℕ
      own = window_end a (t + cost) pre wait rest
