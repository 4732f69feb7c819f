-- Laws of bytes written over a list from a place on: past the end nothing is written, and what is written in two
-- pieces, or in many, one behind the other, is written as one.
use Prim.Native.Nat.{ℕ, zero, suc, min, ◌+◌, ◌-◌, ◌≤◌}
use mathlib.Core.List.{List, [], ◌∷◌, ◌++◌}
use Rattle.std.proofs.lemmas.List.{append_assoc}
use mathlib.Core.Path.{◌≡◌, refl, ap, sym, ◌∙◌}
use native.Mathlib.Nat.{sub-zero, zero-sub, suc-sub-suc}
use native.Mathlib.Omega.{arith}
use native.Mathlib.Decide.{dec_lt}
use lib.ListN.{length, take, drop, set, replicate, length-take, length-replicate, drop_of_length-le, take-append-drop}
use lib.Seq.{sets, length-sets, sets-eq, set_out, set_comm, drop-drop}
use Rattle.counting.specs.Lists.{join_to}
use Rattle.counting.proofs.lists.ListLaws.{join_to-zero, join_to-next}

module _ {A : Type 0} where
  -- from the end on nothing is written
  pub sets-past : (out : List A) (at : ℕ) (xs : List A) → length out ≤ at → sets out at xs ≡ out
  sets-past out at [] h = refl
  sets-past out at (x ∷ xs) h =
      let e : set out at x ≡ out = set_out out at x h in
      ap (λ l. sets l (suc at) xs) e ∙ sets-past out (suc at) xs (omega arith)

  -- one piece behind the other
  pub sets-append : (out : List A) (at : ℕ) (xs ys : List A)
      → sets (sets out at xs) (at + length xs) ys ≡ sets out at (xs ++ ys)
  sets-append out at [] ys = let e : at + 0 ≡ at = omega arith in rw e
  sets-append out at (x ∷ xs) ys =
      let e : at + suc (length xs) ≡ suc at + length xs = omega arith in
      rw e (sets-append (set out at x) (suc at) xs ys)

  -- what does not fit is not written: that much of it is, from the place or the end on
  sets-fitting : (out xs : List A) (at start count : ℕ) → start ≡ min at (length out)
      → count ≡ min (length xs) (length out - start) → sets out at xs ≡ sets out start (take count xs)
  sets-fitting out xs at start count s n =
      elim (dec_lt (length out) at) [
        | yes l ↦ sets-past out at xs (omega arith) ∙ sym (sets-past out start (take count xs) (omega arith))
        | no l ↦
            let here : start ≡ at = omega arith in
            let front : List A = take count xs in
            let fits : length front ≡ count = omega (arith, length-take count xs) in
            let so_far : List A = sets out at front in
            let all : sets so_far (at + length front) (drop count xs) ≡ so_far =
            elim (dec_lt count (length xs)) [
              | yes g ↦ sets-past so_far (at + length front) (drop count xs) (omega (arith, length-sets out at front))
              | no g ↦ ap (sets so_far (at + length front)) (drop_of_length-le xs {i = count} (omega arith))
            ] in
            rw here
            (ap (sets out at) (sym (take-append-drop count xs)) ∙ sym (sets-append out at front (drop count xs)) ∙ all)
      ]

  -- and what stands before and behind it stays
  pub copied-fitting : (out xs part : List A) (at start count size : ℕ) → start ≡ min at (length out)
      → count ≡ min (length xs) (length out - start) → size ≡ count → part ≡ take count xs
      → take start out ++ (part ++ drop size (drop start out)) ≡ sets out at xs
  copied-fitting out xs part at start count size s n e p =
      let front : List A = take count xs in
      let long : length front ≡ count = omega (arith, length-take count xs) in
      let behind : drop size (drop start out) ≡ drop (start + length front) out =
      drop-drop size start out ∙ ap (λ k. drop (start + k) out) (e ∙ sym long) in
      rw (p, behind)
      (sym (rw append_assoc at (sets-eq front out start (omega arith)))
      ∙ sym (sets-fitting out xs at start count s n))

  -- what is written behind a piece may be written before it
  pub sets-set : (out : List A) (at place : ℕ) (xs : List A) (x : A) → at + length xs ≤ place
      → sets (set out place x) at xs ≡ set (sets out at xs) place x
  sets-set out at place [] x h = refl
  sets-set out at place (y ∷ ys) x h =
      ap (λ l. sets l (suc at) ys) (set_comm out place at x y (λ e. absurd (omega arith)))
      ∙ sets-set (set out at y) (suc at) place ys x (omega arith)

  -- the same, at a place that is known to be the next one
  pub sets_behind : (out : List A) (at next : ℕ) (xs ys : List A) → next ≡ at + length xs
      → sets (sets out at xs) next ys ≡ sets out at (xs ++ ys)
  sets_behind out at next xs ys e = ap (λ n. sets (sets out at xs) n ys) e ∙ sets-append out at xs ys

  -- the same, of the outputs as they are after each piece
  pub sets_more : (out so_far after : List A) (at next : ℕ) (xs ys : List A)
      → next ≡ at + length xs → so_far ≡ sets out at xs → after ≡ sets so_far next ys
      → after ≡ sets out at (xs ++ ys)
  sets_more out so_far after at next xs ys e p q =
      q ∙ ap (λ l. sets l next ys) p ∙ sets_behind out at next xs ys e

  -- from the front on
  pub sets-front : (out xs : List A) → length xs ≤ length out → sets out 0 xs ≡ xs ++ drop (length xs) out
  sets-front out xs h = let e : 0 + length xs ≡ length xs = omega arith in rw e at (sets-eq xs out 0 (omega arith))

  -- the same, over one element alone
  pub sets-alone : (n : ℕ) (a : A) (xs : List A) → length xs ≤ n
      → sets (replicate n a) 0 xs ≡ xs ++ replicate (n - length xs) a
  sets-alone n a xs h =
      sets-front (replicate n a) xs (omega (arith, length-replicate n a)) ∙ ap (λ l. xs ++ l) (alone (length xs) n a)
    where
      alone : (k n : ℕ) (a : A) → drop k (replicate n a) ≡ replicate (n - k) a
      alone zero n a = rw (sub-zero n)
      alone (suc k) zero a = rw (zero-sub (suc k))
      alone (suc k) (suc n) a = rw (suc-sub-suc n k) (alone k n a)

  -- of a run of pieces, one behind the other, none is written yet
  pub sets-joined-zero : (f : ℕ → List A) (out : List A) (at : ℕ) → out ≡ sets out at (join_to f 0)
  sets-joined-zero f out at = rw join_to-zero

  -- so many are written, and then the next, behind them
  pub sets-joined-next : (f : ℕ → List A) (out so_far after : List A) (at next n : ℕ)
      → next ≡ at + length (join_to f n) → so_far ≡ sets out at (join_to f n) → after ≡ sets so_far next (f n)
      → after ≡ sets out at (join_to f (n + 1))
  sets-joined-next f out so_far after at next n e p q =
      sets_more out so_far after at next (join_to f n) (f n) e p q ∙ ap (sets out at) (sym (join_to-next f n))
