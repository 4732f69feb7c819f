-- Laws of plain decimal as it is read. Where a number's decimal stands, and no digit behind it, that number is read;
-- and where a number is read, its decimal stands.
use Prim.Native.Nat.{ℕ, zero, suc, ◌+◌, ◌-◌, ◌^◌, ◌≤◌, ◌<◌}
use mathlib.Core.Bool.{Bool, true, false, not, cond, ◌&&◌, ◌||◌}
use mathlib.Core.List.{List}
use mathlib.Core.Path.{◌≡◌, refl, ap, sym, subst, ◌∙◌}
use native.Mathlib.Decide.{dec_lt, ℕ_discrete}
use native.Mathlib.Nat.{pow-le-pow_right}
use native.Mathlib.Omega.{arith}
use borrow.Author.Tests.{le-leb, leb-true, eqb-false, ne_eqb, not-true}
use lib.Dec.{leb, eqb}
use lib.ListN.{length}
use Rattle.counting.proofs.lists.PieceLaws.{Stands}
use Rattle.counting.proofs.tests.TestLaws.{and_left, and_right, and_both, never_true}
use Rattle.words.specs.LittleEndian.{byte_at}
use Rattle.words.specs.Decimal.{decimal}
use Rattle.words.specs.PlainDecimal.{is_digit, digits_at, value_at, is_plain, plain_at, plain_value}
use Rattle.words.proofs.DecimalLaws.{decimal-small, decimal-length-le, decimal-length-lt}
use Rattle.words.proofs.SpellLaws.{DecimalStands, decimal-spells, run-stands}
use Rattle.words.proofs.DigitLaws.{IsSign, is_digit-true, Run, digit-inside, digits_at-run, digits_at-is, value_at-lt}

-- so many digits are a plain decimal whose first byte is b
pub record IsPlain (d b : ℕ) : Type 0 where
  pub some : 1 ≤ d
  pub few : d ≤ 10
  pub alone : 1 < d → b ≡ 48 → ⊥

-- a 0 at the front, unless it is the one digit
front-alone : (one zeros : Bool) → (one || not zeros) ≡ true → one ≡ false → zeros ≡ false
front-alone true zeros e h = cc
front-alone false zeros e h = not-true zeros e

front-other : (one zeros : Bool) → (one ≡ false → zeros ≡ false) → (one || not zeros) ≡ true
front-other true zeros h = refl
front-other false zeros h = rw (h refl)

module _ (bs : List ℕ) (at : ℕ) where
  pub is_plain-true : (d : ℕ) → is_plain bs at d ≡ true → IsPlain d (byte_at bs at)
  is_plain-true d e =
      let counted = and_left (leb 1 d && leb d 10) (eqb d 1 || not (eqb (byte_at bs at) 48)) e in
      let fronted = and_right (leb 1 d && leb d 10) (eqb d 1 || not (eqb (byte_at bs at) 48)) e in
      record {
        some = leb-true 1 d (and_left (leb 1 d) (leb d 10) counted);
        few = leb-true d 10 (and_right (leb 1 d) (leb d 10) counted);
        alone =
            λ l. eqb-false (byte_at bs at) 48
            (front-alone (eqb d 1) (eqb (byte_at bs at) 48) fronted (ne_eqb d 1 (λ e. absurd (omega arith))));
      }

  pub plain-is_plain : (d : ℕ) → IsPlain d (byte_at bs at) → is_plain bs at d ≡ true
  plain-is_plain d h =
      and_both (leb 1 d && leb d 10) (eqb d 1 || not (eqb (byte_at bs at) 48))
      (and_both (leb 1 d) (leb d 10) (le-leb 1 d h.some) (le-leb d 10 h.few))
      (front-other (eqb d 1) (eqb (byte_at bs at) 48)
      (λ e. ne_eqb (byte_at bs at) 48 (h.alone (omega (arith, h.some, eqb-false d 1 e)))))

  pub plain_at-run : IsPlain (digits_at bs at) (byte_at bs at) → plain_at bs at ≡ digits_at bs at
  unfolding plain_at
  plain_at-run h = ap (λ t. cond t (digits_at bs at) 0) (plain-is_plain (digits_at bs at) h)

  pub plain_at-none : (IsPlain (digits_at bs at) (byte_at bs at) → ⊥) → plain_at bs at ≡ 0
  unfolding plain_at
  plain_at-none h =
      ap (λ t. cond t (digits_at bs at) 0)
      (never_true (is_plain bs at (digits_at bs at)) (λ e. h (is_plain-true (digits_at bs at) e)))

  -- one digit, or none, is what it is
  pub plain_at-few : digits_at bs at ≤ 1 → plain_at bs at ≡ digits_at bs at
  plain_at-few l =
      elim (ℕ_discrete (digits_at bs at) 0) [
        | yes e ↦ plain_at-none (λ h. absurd (omega (arith, h.some))) ∙ sym e
        | no e ↦
            plain_at-run (record { some = omega arith; few = omega arith; alone = λ g. absurd (omega arith) })
      ]

  -- where no digit stands, no plain decimal does
  pub plain_at-other : is_digit (byte_at bs at) ≡ false → plain_at bs at ≡ 0
  plain_at-other e =
      let k : at + 0 ≡ at = omega arith in
      let none : 0 ≡ digits_at bs at =
      digits_at-is bs at 0 (omega arith) (λ d l. absurd (omega arith)) (λ _. ap (λ i. is_digit (byte_at bs i)) k ∙ e) in
      plain_at-few (omega arith) ∙ sym none

  -- where a plain decimal stands, it is all the digits there
  pub plain_at-plain : 0 < plain_at bs at → IsPlain (digits_at bs at) (byte_at bs at)
  unfolding plain_at
  plain_at-plain l = go (is_plain bs at (digits_at bs at)) refl l
    where
      go : (t : Bool) → is_plain bs at (digits_at bs at) ≡ t → 0 < cond t (digits_at bs at) 0
          → IsPlain (digits_at bs at) (byte_at bs at)
      go true e l = is_plain-true (digits_at bs at) e
      go false e l = absurd (omega arith)

  pub plain_at-digits : 0 < plain_at bs at → plain_at bs at ≡ digits_at bs at
  plain_at-digits l = plain_at-run (plain_at-plain l)

  pub plain_at-le : plain_at bs at ≤ 10
  plain_at-le =
      elim (dec_lt 0 (plain_at bs at)) [
        | yes l ↦ omega (arith, plain_at-digits l, (plain_at-plain l).few)
        | no l ↦ omega arith
      ]

  plain_at-run-of : Run bs at (plain_at bs at)
  plain_at-run-of d l =
      let all = plain_at-digits (omega arith) in
      digits_at-run bs at d (omega arith)

  -- the digits of a plain decimal
  pub plain-sign : (n : ℕ) → n < plain_at bs at → IsSign (byte_at bs (at + n))
  plain-sign n l = is_digit-true (byte_at bs (at + n)) (plain_at-run-of n l)

  -- what the first n of them spell
  pub plain-front-lt : (n : ℕ) → n < plain_at bs at → value_at bs at n < 10 ^ 9
  plain-front-lt n l =
      let few = plain_at-le in
      omega (
        arith,
        value_at-lt bs at n (λ d g. plain_at-run-of d (omega arith)),
        pow-le-pow_right {n = 10} (omega arith) {i = n} {j = 9} (omega arith),
      )

  -- and all of them, one digit behind those in front of it
  pub plain_value-lt : plain_value bs at < 10 ^ 10
  unfolding value_at
  plain_value-lt = go (plain_at bs at) refl
    where
      go : (n : ℕ) → plain_at bs at ≡ n → value_at bs at n < 10 ^ 10
      go zero e = omega arith
      go (suc n) e =
          let l : n < plain_at bs at = omega arith in
          omega (arith, plain-front-lt n l, (plain-sign n l).most)

  pub plain_at-inside : 0 < plain_at bs at → at + plain_at bs at ≤ length bs
  plain_at-inside l =
      let last = digit-inside bs (at + (plain_at bs at - 1)) (plain_at-run-of (plain_at bs at - 1) (omega arith)) in
      omega arith

module _ (bs : List ℕ) (at : ℕ) where
  -- what is read where the decimal of n stands
  pub record ReadsAs (n : ℕ) : Type 0 where
    pub digits_are : plain_at bs at ≡ length (decimal n)
    pub value-is : plain_value bs at ≡ n

  pub decimal-read : (n : ℕ) → n < 10 ^ 10 → Stands (decimal n) bs at
      → is_digit (byte_at bs (at + length (decimal n))) ≡ false → ReadsAs n
  decimal-read n l h behind =
      let whole = decimal-spells bs at n l h in
      let few = decimal-length-le 9 n l in
      let all : length (decimal n) ≡ digits_at bs at =
      digits_at-is bs at (length (decimal n)) (omega arith) whole.spells.run (λ _. behind) in
      let plain : IsPlain (digits_at bs at) (byte_at bs at) =
      record {
        some = omega (arith, decimal-length-lt n);
        few = omega arith;
        alone = λ g. whole.front (above (omega arith));
      } in
      let digits : plain_at bs at ≡ length (decimal n) = plain_at-run bs at plain ∙ sym all in
      record { digits_are = digits; value-is = ap (value_at bs at) digits ∙ whole.spells.value }
    where
      above : 1 < length (decimal n) → 0 < n
      above g =
          elim (dec_lt 0 n) [
            | yes p ↦ p
            | no p ↦ absurd (omega (arith, ap length (decimal-small n (omega arith))))
          ]

  -- where a number is read, its decimal stands
  pub decimal-stands : 0 < plain_at bs at → DecimalStands bs at (plain_at bs at)
  decimal-stands l =
      let digits = plain_at-digits bs at l in
      let plain = plain_at-plain bs at l in
      let e : suc (plain_at bs at - 1) ≡ plain_at bs at = omega arith in
      subst (DecimalStands bs at) e
      (run-stands bs at (plain_at bs at - 1) (omega (arith, plain_at-le bs at))
      (λ d g. plain_at-run-of bs at d (omega arith))
      (λ g. plain.alone (omega arith)))
