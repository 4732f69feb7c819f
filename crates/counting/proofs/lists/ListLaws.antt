-- Laws of lists made from the numbers below n, or of the members of a list: their equations at n + 1, their lengths,
-- what stands at a place, and how a filled array grows by one place.
use Prim.Native.Nat.{ℕ, zero, suc, ◌+◌, ◌-◌, ◌*◌, ◌≤◌, ◌<◌}
use mathlib.Core.Bool.{cond}
use mathlib.Core.List.{List, [], ◌∷◌, ◌++◌, append_assoc, append-nil}
use mathlib.Core.Path.{◌≡◌, refl, ap, ap₂, sym, ◌∙◌}
use native.Mathlib.Decide.{ℕ_discrete, dec_lt}
use native.Mathlib.Numerals.{add-one}
use native.Mathlib.Omega.{arith}
use borrow.Author.Tests.{lt-ltb, le-ltb}
use lib.Dec.{ltb}
use lib.ListN.{length, get_or, set, take, replicate, length-append, length-replicate, get_or-replicate, get_or-append}
use Rattle.std.proofs.lemmas.List.{take_more}
use lib.Seq.{ext_get_or, get_or-append-add, get_or_at, set_at}
use Rattle.counting.specs.Sums.{sum_to}
use Rattle.counting.specs.Lists.{join_to, join_in, list_to, filled}

module _ {A : Type 0} where
  pub join_to-zero : (f : ℕ → List A) → join_to f 0 ≡ []
  unfolding join_to
  join_to-zero f = refl

  pub join_to-next : (f : ℕ → List A) (n : ℕ) → join_to f (n + 1) ≡ join_to f n ++ f n
  unfolding join_to
  join_to-next f n = rw add-one

  pub join_to-ext : (f g : ℕ → List A) (n : ℕ) → ((i : ℕ) → i < n → f i ≡ g i) → join_to f n ≡ join_to g n
  unfolding join_to
  join_to-ext f g zero h = refl
  join_to-ext f g (suc n) h = ap₂ ◌++◌ (join_to-ext f g n (λ i l. h i (omega arith))) (h n (omega arith))

  pub join_to-length : (f : ℕ → List A) (n : ℕ) → length (join_to f n) ≡ sum_to (λ i. length (f i)) n
  unfolding join_to sum_to
  join_to-length f zero = refl
  join_to-length f (suc n) = simp (length-append, join_to-length f n)

  -- pieces of one length
  pub join_to-length-same : (f : ℕ → List A) (k n : ℕ) → ((i : ℕ) → length (f i) ≡ k) → length (join_to f n) ≡ n * k
  unfolding join_to
  join_to-length-same f k zero h = omega arith
  join_to-length-same f k (suc n) h = simp (length-append, join_to-length-same f k n h, h n) (omega arith)

  pub list_to-length : (f : ℕ → A) (n : ℕ) → length (list_to f n) ≡ n
  list_to-length f n = join_to-length-same (λ i. f i ∷ []) 1 n (λ i. refl) ∙ omega arith

  pub list_to-next : (f : ℕ → A) (n : ℕ) → list_to f (n + 1) ≡ list_to f n ++ (f n ∷ [])
  list_to-next f n = join_to-next (λ i. f i ∷ []) n

  pub list_to-ext : (f g : ℕ → A) (n : ℕ) → ((i : ℕ) → i < n → f i ≡ g i) → list_to f n ≡ list_to g n
  list_to-ext f g n h = join_to-ext (λ i. f i ∷ []) (λ i. g i ∷ []) n (λ i l. ap (λ a. a ∷ []) (h i l))

  pub get_or-list_to : (f : ℕ → A) (n i : ℕ) (z : A) → i < n → get_or (list_to f n) i z ≡ f i
  unfolding join_to
  get_or-list_to f zero i z l = absurd (omega arith)
  get_or-list_to f (suc n) i z l =
      elim (ℕ_discrete i n) [
        | yes e ↦ rw e (get_or_at (list_to f n) (f n) [] z n (list_to-length f n))
        | no e ↦
            get_or-append (list_to f n) (f n ∷ []) z i (rw list_to-length (omega arith))
            ∙ get_or-list_to f n i z (omega arith)
      ]

  pub filled-length : (f : ℕ → A) (n last : ℕ) (z : A) → n ≤ last → length (filled f n last z) ≡ last
  filled-length f n last z h = simp (length-append, list_to-length, length-replicate) (omega arith)

  pub filled_none : (f : ℕ → A) (last : ℕ) (z : A) → filled f 0 last z ≡ replicate last z
  unfolding join_to
  filled_none f last z = let e : last - 0 ≡ last = omega arith in rw e

  pub filled-ext : (f g : ℕ → A) (n last : ℕ) (z : A) → ((i : ℕ) → i < n → f i ≡ g i)
      → filled f n last z ≡ filled g n last z
  filled-ext f g n last z h = ap (λ l. l ++ replicate (last - n) z) (list_to-ext f g n h)

  pub get_or-filled : (f : ℕ → A) (n last i : ℕ) (z d : A) → i < n → get_or (filled f n last z) i d ≡ f i
  get_or-filled f n last i z d l =
      get_or-append (list_to f n) (replicate (last - n) z) d i (rw list_to-length l) ∙ get_or-list_to f n i d l

  -- from n on the places hold z
  pub get_or-unfilled : (f : ℕ → A) (n last i : ℕ) (z d : A) → n ≤ i → i < last → get_or (filled f n last z) i d ≡ z
  get_or-unfilled f n last i z d h l =
      let e : length (list_to f n) + (i - n) ≡ i = rw list_to-length (omega arith) in
      ap (λ k. get_or (filled f n last z) k d) (sym e)
      ∙ get_or-append-add (list_to f n) (replicate (last - n) z) (i - n) d
      ∙ get_or-replicate (last - n) (i - n) z d (omega arith)

  -- a store at place n fills one place more
  pub set-filled : (f : ℕ → A) (n last : ℕ) (z : A) → n < last
      → set (filled f n last z) n (f n) ≡ filled f (n + 1) last z
  set-filled f n last z h =
      let e : last - n ≡ suc (last - (n + 1)) = omega arith in
      ap (λ k. set (list_to f n ++ replicate k z) n (f n)) e
      ∙ set_at (list_to f n) z (replicate (last - (n + 1)) z) (f n) n (list_to-length f n)
      ∙ sym (append_assoc (list_to f n) (f n ∷ []) (replicate (last - (n + 1)) z))
      ∙ ap (λ l. l ++ replicate (last - (n + 1)) z) (sym (list_to-next f n))

  -- such a store, of a value that is known to be the one
  pub filled-stored : (f : ℕ → A) (n last : ℕ) (z v : A) (l : List A) → l ≡ filled f n last z → v ≡ f n → n < last
      → set l n v ≡ filled f (n + 1) last z
  filled-stored f n last z v l e q h = ap₂ (λ l v. set l n v) e q ∙ set-filled f n last z h

  -- a place that is to hold z is filled as it stands
  pub filled-skipped : (f : ℕ → A) (n last : ℕ) (z : A) → z ≡ f n → n < last
      → filled f n last z ≡ filled f (n + 1) last z
  filled-skipped f n last z q h =
      let e : last - n ≡ suc (last - (n + 1)) = omega arith in
      ap (λ k. list_to f n ++ replicate k z) e
      ∙ ap (λ a. list_to f n ++ (a ∷ replicate (last - (n + 1)) z)) q
      ∙ sym (append_assoc (list_to f n) (f n ∷ []) (replicate (last - (n + 1)) z))
      ∙ ap (λ l. l ++ replicate (last - (n + 1)) z) (sym (list_to-next f n))

  -- an array that is filled to the last place
  pub filled-all : (f : ℕ → A) (n : ℕ) (z : A) → filled f n n z ≡ list_to f n
  filled-all f n z =
      let e : n - n ≡ 0 = omega arith in
      ap (λ k. list_to f n ++ replicate k z) e ∙ append-nil (list_to f n)

  -- a filled array, place by place
  pub filled-list_to : (f : ℕ → A) (n last : ℕ) (z : A) → n ≤ last
      → filled f n last z ≡ list_to (λ i. cond (ltb i n) (f i) z) last
  filled-list_to f n last z h =
      ext_get_or z (filled f n last z) (list_to at last)
      (filled-length f n last z h ∙ sym (list_to-length at last))
      (λ i l. each i (rw (filled-length f n last z h) at l) (dec_lt i n))
    where
      at : ℕ → A
      at i = cond (ltb i n) (f i) z

      each : (i : ℕ) → i < last → Dec (i < n) → get_or (filled f n last z) i z ≡ get_or (list_to at last) i z
      each i l (yes b) =
          get_or-filled f n last i z z b ∙ sym (get_or-list_to at last i z l ∙ ap (λ t. cond t (f i) z) (lt-ltb i n b))
      each i l (no b) =
          get_or-unfilled f n last i z z (omega arith) l
          ∙ sym (get_or-list_to at last i z l ∙ ap (λ t. cond t (f i) z) (le-ltb i n (omega arith)))

pub join_in-append : {A B : Type 0} → (f : B → List A) (s t : List B) → join_in f (s ++ t) ≡ join_in f s ++ join_in f t
unfolding join_in
join_in-append f [] t = refl
join_in-append f (a ∷ s) t =
    ap (λ l. f a ++ l) (join_in-append f s t) ∙ sym (append_assoc (f a) (join_in f s) (join_in f t))

-- one member more
pub join_in-next : {A B : Type 0} → (f : B → List A) (s : List B) (i : ℕ) (z : B) → i < length s
    → join_in f (take (i + 1) s) ≡ join_in f (take i s) ++ f (get_or s i z)
unfolding join_in
join_in-next f s i z h =
    ap (join_in f) (take_more s i z h)
    ∙ join_in-append f (take i s) (get_or s i z ∷ [])
    ∙ ap (λ l. join_in f (take i s) ++ l) (append-nil (f (get_or s i z)))

-- of the first members, place by place
pub join_in-take : {A B : Type 0} → (f : B → List A) (s : List B) (z : B) (n : ℕ) → n ≤ length s
    → join_in f (take n s) ≡ join_to (λ i. f (get_or s i z)) n
unfolding join_in join_to
join_in-take f s z zero h = refl
join_in-take f s z (suc n) h =
    ap (λ k. join_in f (take k s)) (sym (add-one n))
    ∙ join_in-next f s n z (omega arith)
    ∙ ap (λ l. l ++ f (get_or s n z)) (join_in-take f s z n (omega arith))
