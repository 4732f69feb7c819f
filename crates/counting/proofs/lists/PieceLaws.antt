-- Laws of pieces: one list stands in another at a place where the other goes on with it from there. Pieces one behind
-- the other stand as one, and what stands as one stands piece by piece; and a filled array is the list that it is
-- filled from.
use Prim.Native.Nat.{ℕ, zero, suc, ◌+◌, ◌-◌, ◌≤◌, ◌<◌}
use mathlib.Core.List.{List, [], ◌∷◌, ◌++◌, append_assoc, append-nil}
use mathlib.Core.Path.{◌≡◌, refl, ap, ap₂, sym, ◌∙◌}
use native.Mathlib.Decide.{ℕ_discrete, dec_lt}
use native.Mathlib.Nat.{zero-add}
use native.Mathlib.Omega.{arith}
use lib.ListN.{length, get_or, drop, length-append, length-drop, drop_of_length-le}
use lib.Seq.{drop-drop, drop-append_seam, drop-length, drop-cons, get_or-drop, ext_get_or}
use Rattle.counting.specs.Lists.{join_to, filled}
use Rattle.counting.proofs.lists.ListLaws.{filled-length, get_or-filled, get_or-unfilled}

module _ {A : Type 0} where
  -- from the place on, the list begins with the piece
  pub record Stands (piece list : List A) (at : ℕ) : Type 0 where
    pub cut : drop at list ≡ piece ++ drop (at + length piece) list

  pub nothing-stands : (list : List A) (at : ℕ) → Stands [] list at
  nothing-stands list at = let e : at ≡ at + 0 = omega arith in record { cut = ap (λ k. drop k list) e }

  -- a piece, and behind it another
  module _ (piece next list : List A) (at there : ℕ) (e : there ≡ at + length piece) where
    pub append-stands : Stands piece list at → Stands next list there → Stands (piece ++ next) list at
    append-stands h g =
        let k : there + length next ≡ at + length (piece ++ next) = rw length-append (omega arith) in
        record {
          cut =
              h.cut
              ∙ ap (λ l. piece ++ l) (ap (λ k. drop k list) (sym e) ∙ g.cut)
              ∙ sym (append_assoc piece next (drop (there + length next) list))
              ∙ ap (λ k. piece ++ next ++ drop k list) k;
        }

    rest-cut : Stands (piece ++ next) list at → drop there list ≡ next ++ drop (there + length next) list
    rest-cut h =
        let k : at + length (piece ++ next) ≡ there + length next = rw length-append (omega arith) in
        ap (λ k. drop k list) e
        ∙ sym (drop-drop (length piece) at list)
        ∙ ap (drop (length piece)) (h.cut ∙ append_assoc piece next (drop (at + length (piece ++ next)) list))
        ∙ drop-append_seam piece (next ++ drop (at + length (piece ++ next)) list)
        ∙ ap (λ k. next ++ drop k list) k

    pub stands-second : Stands (piece ++ next) list at → Stands next list there
    stands-second h = record { cut = rest-cut h }

  pub stands-first : (piece next list : List A) (at : ℕ) → Stands (piece ++ next) list at → Stands piece list at
  stands-first piece next list at h =
      let there : ℕ = at + length piece in
      let k : at + length (piece ++ next) ≡ there + length next = rw length-append (omega arith) in
      record {
        cut =
            h.cut
            ∙ append_assoc piece next (drop (at + length (piece ++ next)) list)
            ∙ ap (λ k. piece ++ (next ++ drop k list)) k
            ∙ ap (λ l. piece ++ l) (sym (rest-cut piece next list at there refl h));
      }

  -- one member, and behind it a piece
  module _ (a : A) (piece list : List A) (at there : ℕ) (e : there ≡ at + 1) where
    pub cons-stands : (d : A) → at < length list → get_or list at d ≡ a → Stands piece list there
        → Stands (a ∷ piece) list at
    cons-stands d l h g =
        let k : suc at ≡ at + 1 = omega arith in
        append-stands (a ∷ []) piece list at there e
        (record { cut = drop-cons list at d l ∙ ap₂ ◌∷◌ h (ap (λ k. drop k list) k) }) g

    pub stands-tail : Stands (a ∷ piece) list at → Stands piece list there
    stands-tail h = stands-second (a ∷ []) piece list at there e h

  pub stands-head : (a : A) (piece list : List A) (at : ℕ) (d : A) → Stands (a ∷ piece) list at → get_or list at d ≡ a
  stands-head a piece list at d h =
      let e : at ≡ at + 0 = omega arith in
      ap (λ k. get_or list k d) e ∙ sym (get_or-drop at list 0 d) ∙ ap (λ l. get_or l 0 d) h.cut

  -- a piece that has a member lies inside the list
  pub stands-inside : (piece list : List A) (at : ℕ) → 0 < length piece → Stands piece list at
      → at + length piece ≤ length list
  stands-inside piece list at l h =
      let e : length list - at ≡ length piece + (length list - (at + length piece)) =
      sym (length-drop at list)
      ∙ ap length h.cut
      ∙ simp (length-append, length-drop) in
      omega arith

  -- the whole list
  pub whole-stands : (piece list : List A) → list ≡ piece → Stands piece list 0
  whole-stands piece list e =
      record {
        cut =
            e
            ∙ sym (append-nil piece)
            ∙ ap (λ l. piece ++ l)
            (sym (ap (λ k. drop k list) (zero-add (length piece)) ∙ ap (drop (length piece)) e ∙ drop-length piece));
      }

  pub stands-whole : (piece list : List A) → length list ≤ length piece → Stands piece list 0 → list ≡ piece
  stands-whole piece list l h =
      h.cut
      ∙ ap (λ r. piece ++ r) (drop_of_length-le list {i = 0 + length piece} (omega arith))
      ∙ append-nil piece

  -- pieces one behind the other: a place for each, and each place behind the piece before it
  pub joined-place : (f : ℕ → List A) (place : ℕ → ℕ) (n : ℕ)
      → ((i : ℕ) → i < n → place (suc i) ≡ place i + length (f i))
      → place n ≡ place 0 + length (join_to f n)
  unfolding join_to
  joined-place f place zero behind = omega arith
  joined-place f place (suc n) behind =
      let before : place n ≡ place 0 + length (join_to f n) = joined-place f place n (λ i l. behind i (omega arith)) in
      rw length-append (omega (arith, behind n (omega arith)))

  -- that a place is behind may rest on what stands there
  module _ (f : ℕ → List A) (place : ℕ → ℕ) (list : List A) where
    pub record Joined (n : ℕ) : Type 0 where
      pub place_is : place n ≡ place 0 + length (join_to f n)
      pub each : (i : ℕ) → i < n → Stands (f i) list (place i)

    pub stands-joined : (n : ℕ)
        → ((i : ℕ) → i < n → Stands (f i) list (place i) → place (suc i) ≡ place i + length (f i))
        → Stands (join_to f n) list (place 0) → Joined n
    unfolding join_to
    stands-joined zero behind h = record { place_is = omega arith; each = λ i l. absurd (omega arith) }
    stands-joined (suc n) behind h =
        let before : Joined n =
        stands-joined n (λ i l. behind i (omega arith)) (stands-first (join_to f n) (f n) list (place 0) h) in
        let last : Stands (f n) list (place n) =
        stands-second (join_to f n) (f n) list (place 0) (place n) before.place_is h in
        record {
          place_is = rw length-append (omega (arith, before.place_is, behind n (omega arith) last));
          each =
              λ i l. elim (ℕ_discrete i n) [ yes e ↦ rw e last | no e ↦ before.each i (omega arith) ];
        }

    pub joined-stands : (n : ℕ) → ((i : ℕ) → i < n → place (suc i) ≡ place i + length (f i))
        → ((i : ℕ) → i < n → Stands (f i) list (place i)) → Stands (join_to f n) list (place 0)
    unfolding join_to
    joined-stands zero behind each = nothing-stands list (place 0)
    joined-stands (suc n) behind each =
        append-stands (join_to f n) (f n) list (place 0) (place n)
        (joined-place f place n (λ i l. behind i (omega arith)))
        (joined-stands n (λ i l. behind i (omega arith)) (λ i l. each i (omega arith)))
        (each n (omega arith))

  -- a filled array is a list that has its used places, and z in its others
  pub filled_is : (f : ℕ → A) (n last : ℕ) (z d : A) (list : List A) → n ≤ last → length list ≡ last
      → ((i : ℕ) → i < n → f i ≡ get_or list i d) → ((i : ℕ) → n ≤ i → i < last → get_or list i d ≡ z)
      → filled f n last z ≡ list
  filled_is f n last z d list h e used unused =
      ext_get_or d (filled f n last z) list (filled-length f n last z h ∙ sym e) at_place
    where
      at_place : (i : ℕ) → i < length (filled f n last z) → get_or (filled f n last z) i d ≡ get_or list i d
      at_place i l =
          let k : length (filled f n last z) ≡ last = filled-length f n last z h in
          elim (dec_lt i n) [
            | yes l ↦ get_or-filled f n last i z d l ∙ used i l
            | no g ↦
                get_or-unfilled f n last i z d (omega arith) (omega arith)
                ∙ sym (unused i (omega arith) (omega arith))
          ]
