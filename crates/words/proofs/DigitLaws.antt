-- Laws of the digits that stand from a place on: how many there are, and what they spell, digit by digit; it is below
-- the power of ten of their count. Only the bytes from the place on matter.
use Prim.Native.Nat.{ℕ, zero, suc, min, ◌+◌, ◌-◌, ◌*◌, ◌^◌, ◌≤◌, ◌<◌}
use mathlib.Core.Bool.{true, false, not}
use mathlib.Core.List.{List}
use mathlib.Core.Path.{◌≡◌, refl, ap, ap₂, sym, ◌∙◌}
use native.Mathlib.Decide.{dec_lt, ℕ_discrete}
use native.Mathlib.Nat.{pow-suc, zero-add}
use native.Mathlib.Numerals.{add-one}
use native.Mathlib.Omega.{arith}
use borrow.Author.Tests.{le-leb, leb-true, not-false}
use lib.Dec.{leb}
use lib.ListN.{length, take, drop, length-take, get_or-eq_default}
use Rattle.std.specs.List.{prefix_len}
use Rattle.std.proofs.lemmas.List.{get_or-take}
use Rattle.std.proofs.lemmas.List.Sums.{prefix_len-le-length, prefix_len_passes, prefix_len_stops}
use lib.Seq.{get_or-drop}
use Rattle.counting.proofs.searches.FirstToLaws.{IsFirst, first_to-first, first_to-unique}
use Rattle.counting.proofs.tests.TestLaws.{and_left, and_right, and_both}
use Rattle.words.specs.LittleEndian.{byte_at}
use Rattle.words.specs.PlainDecimal.{is_digit, most_digits, digits_at, value_at}

-- the signs of the digits stand one behind the other
pub record IsSign (b : ℕ) : Type 0 where
  pub least : 48 ≤ b
  pub most : b ≤ 57

pub is_digit-true : (b : ℕ) → is_digit b ≡ true → IsSign b
is_digit-true b e =
    record {
      least = leb-true 48 b (and_left (leb 48 b) (leb b 57) e);
      most = leb-true b 57 (and_right (leb 48 b) (leb b 57) e);
    }

pub sign-is_digit : (b : ℕ) → 48 ≤ b → b ≤ 57 → is_digit b ≡ true
sign-is_digit b l m = and_both (leb 48 b) (leb b 57) (le-leb 48 b l) (le-leb b 57 m)

-- a digit at each of the first n places from a place on
abbrev pub Run : List ℕ → ℕ → ℕ → Type 0
Run bs at n = (d : ℕ) → d < n → is_digit (byte_at bs (at + d)) ≡ true

-- past the end stands 0
pub byte_inside : (bs : List ℕ) (k : ℕ) → 0 < byte_at bs k → k < length bs
byte_inside bs k h =
    elim (dec_lt k (length bs)) [
      | yes l ↦ l
      | no l ↦
          let past : byte_at bs k ≡ 0 = get_or-eq_default bs 0 (omega arith) in
          absurd (omega arith)
    ]

pub digit-inside : (bs : List ℕ) (k : ℕ) → is_digit (byte_at bs k) ≡ true → k < length bs
digit-inside bs k e = byte_inside bs k (omega (arith, (is_digit-true (byte_at bs k) e).least))

module _ (bs : List ℕ) (at : ℕ) where
  is-first : IsFirst (λ d. not (is_digit (byte_at bs (at + d)))) (suc most_digits) (digits_at bs at)
  unfolding digits_at
  is-first = first_to-first (λ d. not (is_digit (byte_at bs (at + d)))) (suc most_digits)

  pub digits_at-run : Run bs at (digits_at bs at)
  digits_at-run d l = not-false (is_digit (byte_at bs (at + d))) (is-first.before d l)

  pub digits_at-is : (n : ℕ) → n ≤ 11 → Run bs at n → (n < 11 → is_digit (byte_at bs (at + n)) ≡ false)
      → n ≡ digits_at bs at
  digits_at-is n few run behind =
      first_to-unique (λ d. not (is_digit (byte_at bs (at + d)))) (suc most_digits) n (digits_at bs at)
      (record { most = few; before = λ d l. ap not (run d l); has = λ l. ap not (behind l) })
      is-first

  pub run-next : (n : ℕ) → Run bs at n → is_digit (byte_at bs (at + n)) ≡ true → Run bs at (n + 1)
  run-next n run next d l =
      elim (ℕ_discrete d n) [ yes e ↦ rw e next | no e ↦ run d (omega arith) ]

  pub value_at-next : (n : ℕ) → value_at bs at (n + 1) ≡ 10 * value_at bs at n + (byte_at bs (at + n) - 48)
  unfolding value_at
  value_at-next n = rw add-one

  pub value_at-lt : (n : ℕ) → Run bs at n → value_at bs at n < 10 ^ n
  unfolding value_at
  value_at-lt zero run = omega arith
  value_at-lt (suc n) run =
      let sign = is_digit-true (byte_at bs (at + n)) (run n (omega arith)) in
      rw (pow-suc 10 n) (omega (arith, sign.most, value_at-lt n (λ d l. run d (omega arith))))

-- so many of the first eleven bytes are digits in front of any other
pub digits_at-prefix : (bs : List ℕ) → prefix_len is_digit (take 11 bs) ≡ digits_at bs 0
digits_at-prefix bs =
    let n : ℕ = prefix_len is_digit (take 11 bs) in
    let long : length (take 11 bs) ≡ min 11 (length bs) = length-take 11 bs in
    let few = prefix_len-le-length is_digit (take 11 bs) in
    digits_at-is bs 0 n (omega arith)
    (λ d l.
    rw zero-add
    (ap is_digit (sym (get_or-take 11 bs d 0 (omega arith))) ∙ prefix_len_passes is_digit (take 11 bs) d 0 l))
    (λ l.
    rw zero-add
    (elim (dec_lt n (length (take 11 bs))) [
      | yes g ↦
          ap is_digit (sym (get_or-take 11 bs n 0 l)) ∙ prefix_len_stops is_digit (take 11 bs) 0 g
      | no g ↦ ap is_digit (get_or-eq_default bs 0 (omega arith))
    ]))

-- nor do those behind the digits that are taken
pub value_at-take : (bs : List ℕ) (most n : ℕ) → n ≤ most → value_at (take most bs) 0 n ≡ value_at bs 0 n
unfolding value_at
value_at-take bs most zero l = refl
value_at-take bs most (suc n) l =
    ap₂ (λ v b. 10 * v + (b - 48)) (value_at-take bs most n (omega arith))
    (rw zero-add (get_or-take most bs n 0 l))

-- the bytes before the place do not matter
pub digits_at-drop : (bs : List ℕ) (at : ℕ) → digits_at (drop at bs) 0 ≡ digits_at bs at
unfolding digits_at
digits_at-drop bs at = simp (get_or-drop, zero-add)

pub value_at-drop : (bs : List ℕ) (at n : ℕ) → value_at (drop at bs) 0 n ≡ value_at bs at n
unfolding value_at
value_at-drop bs at zero = refl
value_at-drop bs at (suc n) =
    ap₂ (λ v b. 10 * v + (b - 48)) (value_at-drop bs at n) (simp (get_or-drop, zero-add))
