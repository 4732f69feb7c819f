-- The walk over the open rows, a row at a time: the row that is tried is passed over, and each other row is finished in
-- time or is the last that is looked at.
use Prim.Native.Nat.{ℕ, suc, ◌+◌, ◌*◌, ◌≤◌, ◌<◌}
use mathlib.Core.Bool.{Bool, true, false, ◌&&◌}
use mathlib.Core.List.{List, [], ◌∷◌}
use mathlib.Core.Logic.{◌≢◌}
use mathlib.Core.Path.{◌≡◌, refl, ap, sym, ◌∙◌}
use native.Mathlib.Omega.{arith}
use borrow.Author.Tests.{eq-eqb, ne_eqb, le-leb, lt-leb, lt-ltb, le-ltb}
use lib.Dec.{leb}
use lib.ListN.{length, drop, drop_of_length-le}
use lib.Seq.{drop-cons}
use Rattle.counting.specs.Lists.{member_at, keep_in}
use Rattle.load.specs.Load.{most_rows}
use Rattle.rules.specs.Plan.{Jobs, finish, in_time_by}
use Rattle.rules.proofs.plan.PlanLaws.{in_time_by-next, in_time_by-none}
use Rattle.std.specs.Prelude.{Some, None}
use Rattle.plan.specs.declared.Walked.{Walked}
use Rattle.plan.specs.inner.Walks.{Walk, walked_of, others_in, stands_before, walked_to, walk_in, WalkFits}

module _ (stack : List ℕ) where
  drop-next : (place : ℕ) → place < length stack
      → drop place stack ≡ member_at stack place ∷ drop (place + 1) stack
  drop-next place l =
      let e : suc place ≡ place + 1 = omega arith in
      drop-cons stack place 0 l ∙ ap (λ k. member_at stack place ∷ drop k stack) e

  drop-none : (place : ℕ) → length stack ≤ place → drop place stack ≡ []
  drop-none place l = drop_of_length-le stack {i = place} l

module _ (i : ℕ) where
  pub others_in-none : others_in i [] ≡ []
  unfolding keep_in
  others_in-none = refl

  pub others_in-own : (k : ℕ) (rest : List ℕ) → k ≡ i → others_in i (k ∷ rest) ≡ others_in i rest
  unfolding keep_in
  others_in-own k rest e = rw (eq-eqb k i e)

  pub others_in-other : (k : ℕ) (rest : List ℕ) → k ≢ i → others_in i (k ∷ rest) ≡ k ∷ others_in i rest
  unfolding keep_in
  others_in-other k rest ne = rw (ne_eqb k i ne)

-- whether the rows from a place on are in time, begun at a moment
abbrev pub in_time_from : Jobs → List ℕ → ℕ → ℕ → ℕ → Bool
in_time_from a stack i place t = in_time_by a t (others_in i (drop place stack))

-- what the walk from a place on comes to, begun at a moment and with a sum
abbrev pub walk_from : Jobs → List ℕ → ℕ → ℕ → ℕ → ℕ → ℕ → Walk
walk_from a stack i own place t work = walk_in a i own (drop place stack) place t work

module _ (a : Jobs) (stack : List ℕ) (i : ℕ) where
  pub in_time_from-none : (place t : ℕ) → length stack ≤ place → in_time_from a stack i place t ≡ true
  in_time_from-none place t l =
      ap (λ rows. in_time_by a t (others_in i rows)) (drop-none stack place l)
      ∙ ap (in_time_by a t) (others_in-none i)
      ∙ in_time_by-none a t

  module _ (place t : ℕ) (l : place < length stack) where
    -- the row at the place is the one that is tried
    pub in_time_from-own : member_at stack place ≡ i
        → in_time_from a stack i place t ≡ in_time_from a stack i (place + 1) t
    in_time_from-own e =
        ap (λ rows. in_time_by a t (others_in i rows)) (drop-next stack place l)
        ∙ ap (in_time_by a t) (others_in-own i (member_at stack place) (drop (place + 1) stack) e)

    module _ (ne : member_at stack place ≢ i) (end : ℕ) (is : end ≡ finish a t (member_at stack place)) where
      next : in_time_from a stack i place t
          ≡ (leb end (a.due (member_at stack place)) && in_time_from a stack i (place + 1) end)
      next =
          ap (λ rows. in_time_by a t (others_in i rows)) (drop-next stack place l)
          ∙ ap (in_time_by a t) (others_in-other i (member_at stack place) (drop (place + 1) stack) ne)
          ∙ in_time_by-next a t (member_at stack place) (others_in i (drop (place + 1) stack))
          ∙ rw is

      pub in_time_from-next : end ≤ a.due (member_at stack place)
          → in_time_from a stack i place t ≡ in_time_from a stack i (place + 1) end
      in_time_from-next h =
          next
          ∙ ap (λ b. b && in_time_from a stack i (place + 1) end)
          (le-leb end (a.due (member_at stack place)) h)

      pub in_time_from-late : a.due (member_at stack place) < end → in_time_from a stack i place t ≡ false
      in_time_from-late h =
          next
          ∙ ap (λ b. b && in_time_from a stack i (place + 1) end)
          (lt-leb end (a.due (member_at stack place)) h)

-- the walk over a list, by what its first row is
module _ (a : Jobs) (i own k : ℕ) (rest : List ℕ) (place t work : ℕ) where
  pub walk_in-own : k ≡ i → walk_in a i own (k ∷ rest) place t work ≡ walk_in a i own rest (place + 1) t work
  unfolding walk_in
  walk_in-own e = rw (eq-eqb k i e)

  module _ (ne : k ≢ i) where
    pub walk_in-stands : stands_before own i (a.due k) k ≡ true
        → walk_in a i own (k ∷ rest) place t work ≡ walked_to place t work false
    unfolding walk_in
    walk_in-stands e = rw (ne_eqb k i ne, e)

    module _ (e : stands_before own i (a.due k) k ≡ false) (end sum : ℕ) (end_is : end ≡ finish a t k)
        (sum_is_lem : sum ≡ work + a.left k) where
      pub walk_in-late : a.due k < end → walk_in a i own (k ∷ rest) place t work ≡ walked_to (place + 1) end sum true
      unfolding walk_in
      walk_in-late h = rw (ne_eqb k i ne, e, ← end_is, ← sum_is_lem, lt-ltb (a.due k) end h)

      pub walk_in-next : end ≤ a.due k
          → walk_in a i own (k ∷ rest) place t work ≡ walk_in a i own rest (place + 1) end sum
      unfolding walk_in
      walk_in-next h = rw (ne_eqb k i ne, e, ← end_is, ← sum_is_lem, le-ltb (a.due k) end h)

module _ (a : Jobs) (stack : List ℕ) (i own : ℕ) where
  pub walk_from-none : (place t work : ℕ) → length stack ≤ place
      → walk_from a stack i own place t work ≡ walked_to place t work false
  unfolding walk_in
  walk_from-none place t work l =
      ap (λ rows. walk_in a i own rows place t work) (drop-none stack place l)

  -- the walk from a place on, by the row that stands there
  module _ (place t work : ℕ) (l : place < length stack) where
    first : walk_from a stack i own place t work
        ≡ walk_in a i own (member_at stack place ∷ drop (place + 1) stack) place t work
    first = ap (λ rows. walk_in a i own rows place t work) (drop-next stack place l)

    pub walk_from-own : member_at stack place ≡ i
        → walk_from a stack i own place t work ≡ walk_from a stack i own (place + 1) t work
    walk_from-own e = first ∙ walk_in-own a i own _ _ place t work e

    module _ (ne : member_at stack place ≢ i) where
      pub walk_from-stands : stands_before own i (a.due (member_at stack place)) (member_at stack place) ≡ true
          → walk_from a stack i own place t work ≡ walked_to place t work false
      walk_from-stands e = first ∙ walk_in-stands a i own _ _ place t work ne e

      module _ (e : stands_before own i (a.due (member_at stack place)) (member_at stack place) ≡ false)
          (end sum : ℕ) (end_is : end ≡ finish a t (member_at stack place))
          (sum_is_lem : sum ≡ work + a.left (member_at stack place)) where
        pub walk_from-late : a.due (member_at stack place) < end
            → walk_from a stack i own place t work ≡ walked_to (place + 1) end sum true
        walk_from-late h = first ∙ walk_in-late a i own _ _ place t work ne e end sum end_is sum_is_lem h

        pub walk_from-next : end ≤ a.due (member_at stack place)
            → walk_from a stack i own place t work ≡ walk_from a stack i own (place + 1) end sum
        walk_from-next h = first ∙ walk_in-next a i own _ _ place t work ne e end sum end_is sum_is_lem h

-- what is given of a walk in which no row was late, and it fits
pub walked_some : (count place t work : ℕ) (whole : Walk) → whole ≡ walked_to place t work false
    → count ≤ most_rows → place ≤ count → t ≤ 4294967295 → work ≤ place * 4294967295
    → (Some (record { place = place; time = t; work = work }) ≡ walked_of whole)
    × WalkFits count (record { place = place; time = t; work = work })
walked_some count place t work whole e most hp ht hw = (
  sym (ap walked_of e),
  record { place-most = hp; time-most = ht; work-most = omega arith },
)

-- and of one in which a row was late
pub walked_none : (place t work : ℕ) (whole : Walk) → whole ≡ walked_to place t work true → None ≡ walked_of whole
walked_none place t work whole e = sym (ap walked_of e)

pub walked_late : (whole : Walk) → None ≡ walked_of whole → whole.late ≡ true
walked_late whole e = go whole.late refl
  where
    go : (late : Bool) → whole.late ≡ late → whole.late ≡ true
    go true f = f
    go false f =
        let walked : Walked = record { place = whole.place; time = whole.time; work = whole.work } in
        absurd (let g : None ≡ Some walked = e ∙ rw f in cc)

-- what was given is what the walk has come to
pub walked_given : (walked : Walked) (whole : Walk) → Some walked ≡ walked_of whole
    → walked_to walked.place walked.time walked.work false ≡ whole
walked_given walked whole e = go whole.late refl
  where
    go : (late : Bool) → whole.late ≡ late → walked_to walked.place walked.time walked.work false ≡ whole
    go true f = absurd (let g : Some walked ≡ None = e ∙ rw f in cc)
    go false f =
        let g : Some walked ≡ Some (record { place = whole.place; time = whole.time; work = whole.work }) = e ∙ rw f in
        let h : walked ≡ record { place = whole.place; time = whole.time; work = whole.work } = cc in
        rw (h, sym f)
