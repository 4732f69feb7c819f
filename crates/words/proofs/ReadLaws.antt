-- What the call that reads a plain decimal gives: of the digits that it takes from a place on, and to its callers.
use Prim.Native.Nat.{ℕ, zero, suc, ◌+◌, ◌≤◌, ◌<◌}
use mathlib.Core.Bool.{Bool, true, false, cond}
use mathlib.Core.List.{List}
use mathlib.Core.Path.{◌≡◌, refl, ap, ap₂, sym, ◌∙◌}
use native.Mathlib.Omega.{arith}
use borrow.Author.Tests.{lt-ltb, ltb-true, ltb-false}
use lib.Dec.{ltb}
use lib.ListN.{length, take, drop, length-take}
use lib.Seq.{get_or-drop}
use Rattle.std.specs.Prelude.{Option, Some, None}
use Rattle.std.specs.List.{prefix_len}
use Rattle.std.proofs.lemmas.Option.{cond_some}
use Rattle.std.proofs.lemmas.List.{get_or-take}
use Rattle.std.proofs.lemmas.List.Sums.{prefix_len-le-length}
use Rattle.words.specs.declared.Digits.{Digits}
use Rattle.words.specs.LittleEndian.{byte_at}
use Rattle.words.specs.PlainDecimal.{is_digit, digits_at, value_at, is_plain, plain_at, plain_value}
use Rattle.words.specs.Calls.{DecimalAt}
use Rattle.words.proofs.DigitLaws.{digits_at-run, digits_at-prefix, digits_at-drop, value_at-take, value_at-drop}
use Rattle.words.proofs.PlainLaws.{is_plain-true, plain-is_plain, plain_at-run, plain_at-none, plain_at-inside}

-- where nothing is given, the test does not hold that something is given by (std's cond_some says the other half)
pub cond_none : {A : Type 0} (b : Bool) (x : A) → ◌≡◌ {A = Option A} (cond b (Some x) None) None → b ≡ false
cond_none true x e = cc
cond_none false x e = refl

-- the digits that are taken from a place on are plain where those that stand there are
is_plain-taken : (bs : List ℕ) (at n : ℕ) → is_plain (take n (drop at bs)) 0 n ≡ is_plain bs at n
is_plain-taken bs at zero = refl
is_plain-taken bs at (suc n) =
    let e : at + 0 ≡ at = omega arith in
    let front : byte_at (take (suc n) (drop at bs)) 0 ≡ byte_at bs at =
    get_or-take (suc n) (drop at bs) 0 0 (omega arith) ∙ get_or-drop at bs 0 0 ∙ ap (byte_at bs) e in
    rw front

false-not-true : ◌≡◌ {A = Bool} false true → ⊥
false-not-true e = cc

-- so many digits that were taken of the bytes from a place on are all that stand there
module _ (bs rest : List ℕ) (at n : ℕ) (from : rest ≡ drop at bs) (many : n ≡ prefix_len is_digit (take 11 rest)) where
  taken_are : n ≡ digits_at bs at
  taken_are = many ∙ digits_at-prefix rest ∙ ap (λ l. digits_at l 0) from ∙ digits_at-drop bs at

  taken-fit : n ≤ length rest
  taken-fit =
      let fit = prefix_len-le-length is_digit (take 11 rest) in
      omega (arith, many, length-take 11 rest)

  pub taken-long : length (take n rest) ≡ n
  taken-long = omega (arith, length-take n rest, taken-fit)

  pub taken-digits : (d : ℕ) → d < length (take n rest) → is_digit (byte_at (take n rest) d) ≡ true
  taken-digits d l =
      let g : d < n = omega (arith, taken-long) in
      let there : byte_at (take n rest) d ≡ byte_at bs (at + d) =
      get_or-take n rest d 0 g ∙ ap (λ l. byte_at l d) from ∙ get_or-drop at bs d 0 in
      ap is_digit there ∙ digits_at-run bs at d (omega (arith, taken_are))

  taken-plain : is_plain (take n rest) 0 (length (take n rest)) ≡ is_plain bs at (digits_at bs at)
  taken-plain =
      ap (is_plain (take n rest) 0) taken-long
      ∙ ap (λ l. is_plain (take n l) 0 n) from
      ∙ is_plain-taken bs at n
      ∙ ap (is_plain bs at) taken_are

  -- where they are no plain decimal, none is read
  pub taken-none : is_plain (take n rest) 0 (length (take n rest)) ≡ false → DecimalAt bs at None
  taken-none e =
      let none : plain_at bs at ≡ 0 =
      plain_at-none bs at
      (λ h. false-not-true (sym (sym taken-plain ∙ e) ∙ plain-is_plain bs at (digits_at bs at) h)) in
      rw none

  -- where they are one, it is read
  pub taken-some : (value : ℕ) → is_plain (take n rest) 0 (length (take n rest)) ≡ true
      → value ≡ value_at (take n rest) 0 (length (take n rest))
      → DecimalAt bs at (Some (record { count = length (take n rest); value = value }))
  taken-some value e spelled =
      let plain = is_plain-true bs at (digits_at bs at) (sym taken-plain ∙ e) in
      let all : plain_at bs at ≡ n = plain_at-run bs at plain ∙ sym taken_are in
      let worth : value ≡ value_at bs at n =
      spelled ∙ ap (value_at (take n rest) 0) taken-long
      ∙ value_at-take rest n n (omega arith)
      ∙ ap (λ l. value_at l 0 n) from
      ∙ value_at-drop bs at n in
      let some : ltb 0 n ≡ true = lt-ltb 0 n (omega (arith, plain.some, taken_are)) in
      rw (all, some) (ap₂ (λ m v. Some (record { count = m; value = v })) taken-long worth)

-- what the call gives of a place: where it gives digits, all of them lie inside the bytes
module _ (bs : List ℕ) (at : ℕ) where
  pub record Read (digits : Digits) : Type 0 where
    pub some : 0 < plain_at bs at
    pub count-is : digits.count ≡ plain_at bs at
    pub value-is : digits.value ≡ plain_value bs at
    pub inside : at + digits.count ≤ length bs

  abbrev all : Digits
  all = record { count = plain_at bs at; value = plain_value bs at }

  pub given-some : (digits : Digits) → DecimalAt bs at (Some digits) → Read digits
  given-some digits r =
      let given = cond_some (ltb 0 (plain_at bs at)) all digits (sym r) in
      let some = ltb-true 0 (plain_at bs at) given.0 in
      let count : plain_at bs at ≡ digits.count = ap (λ (d : Digits). d.count) given.1 in
      record {
        some = some;
        count-is = sym count;
        value-is = sym (ap (λ (d : Digits). d.value) given.1);
        inside = omega (arith, plain_at-inside bs at some);
      }

  pub given_none : DecimalAt bs at None → plain_at bs at ≡ 0
  given_none r = omega (arith, ltb-false 0 (plain_at bs at) (cond_none (ltb 0 (plain_at bs at)) all (sym r)))
