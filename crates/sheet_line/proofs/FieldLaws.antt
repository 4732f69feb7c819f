-- Laws of one field of a line: a number and its comma, and the mark. Where the text of one stands, it is read, and the
-- next place is behind it; and where one is read, its text stands.
use Prim.Native.Nat.{ℕ, ◌+◌, ◌^◌, ◌<◌}
use mathlib.Core.Bool.{Bool, true, false, cond}
use mathlib.Core.List.{List, [], ◌∷◌}
use mathlib.Core.Path.{◌≡◌, refl, ap, sym, ◌∙◌}
use native.Mathlib.Omega.{arith}
use borrow.Author.Tests.{lt-ltb, le-ltb, ltb-true, ltb-false, eq-eqb, ne_eqb, eqb-true}
use lib.Dec.{eqb, ltb}
use lib.ListN.{length, length-append}
use Rattle.counting.proofs.lists.PieceLaws.{
  Stands,
  nothing-stands,
  append-stands,
  cons-stands,
  stands-first,
  stands-second,
  stands-head,
}
use Rattle.counting.proofs.tests.TestLaws.{and_left, and_right, and_both}
use Rattle.words.specs.Decimal.{decimal}
use Rattle.words.specs.LittleEndian.{byte_at}
use Rattle.words.specs.PlainDecimal.{is_digit, plain_at, plain_value}
use Rattle.words.proofs.DecimalLaws.{decimal-length-lt}
use Rattle.words.proofs.DigitLaws.{byte_inside}
use Rattle.words.proofs.PlainLaws.{plain_at-other, plain-sign, plain_value-lt, decimal-read, decimal-stands}
use Rattle.sheet_line.specs.declared.Mark.{Mark}
use Rattle.sheet_line.specs.declared.Mark.TheVariants.{Nothing, Dash, Limit}
use Rattle.sheet_line.specs.LineText.{comma, dash, return, mark_bytes, field_bytes}
use Rattle.sheet_line.specs.Line.{behind_digits, is_field_at, mark_at, behind_mark}

-- a byte that is not 0, and a piece behind it
pub byte-stands : (bs : List ℕ) (place b : ℕ) (piece : List ℕ) → 0 < b → byte_at bs place ≡ b
    → Stands piece bs (place + 1) → Stands (b ∷ piece) bs place
byte-stands bs place b piece l e h =
    cons-stands b piece bs place (place + 1) refl 0 (byte_inside bs place (omega arith)) e h

module _ (bs : List ℕ) (place : ℕ) where
  -- a number, and its comma behind it
  pub record FieldReads (n : ℕ) : Type 0 where
    pub is_field : is_field_at bs place ≡ true
    pub value-is : plain_value bs place ≡ n
    pub behind-is : behind_digits bs place + 1 ≡ place + length (field_bytes n)

  pub field-read : (n : ℕ) → n < 10 ^ 10 → Stands (field_bytes n) bs place → FieldReads n
  field-read n l h =
      let there : ℕ = place + length (decimal n) in
      let behind : byte_at bs there ≡ comma =
      stands-head comma [] bs there 0 (stands-second (decimal n) (comma ∷ []) bs place there refl h) in
      let reads = decimal-read bs place n l (stands-first (decimal n) (comma ∷ []) bs place h) (ap is_digit behind) in
      let e : behind_digits bs place ≡ there = ap (λ k. place + k) reads.digits_are in
      record {
        is_field =
            and_both (ltb 0 (plain_at bs place)) (eqb (byte_at bs (behind_digits bs place)) comma)
            (lt-ltb 0 (plain_at bs place) (omega (arith, reads.digits_are, decimal-length-lt n)))
            (eq-eqb (byte_at bs (behind_digits bs place)) comma (ap (byte_at bs) e ∙ behind));
        value-is = reads.value-is;
        behind-is = simp length-append (omega arith);
      }

  pub record FieldStands : Type 0 where
    pub stands : Stands (field_bytes (plain_value bs place)) bs place
    pub behind-is : behind_digits bs place + 1 ≡ place + length (field_bytes (plain_value bs place))

  pub field-stands : is_field_at bs place ≡ true → FieldStands
  field-stands e =
      let number-test : Bool = ltb 0 (plain_at bs place) in
      let comma-test : Bool = eqb (byte_at bs (behind_digits bs place)) comma in
      let some = ltb-true 0 (plain_at bs place) (and_left number-test comma-test e) in
      let behind = eqb-true (byte_at bs (behind_digits bs place)) comma (and_right number-test comma-test e) in
      let number = decimal-stands bs place some in
      let there : behind_digits bs place ≡ place + length (decimal (plain_value bs place)) =
      ap (λ k. place + k) (sym number.so-long) in
      record {
        stands =
            append-stands (decimal (plain_value bs place)) (comma ∷ []) bs place (behind_digits bs place) there
            number.stands
            (byte-stands bs (behind_digits bs place) comma [] (omega arith) behind
            (nothing-stands bs (behind_digits bs place + 1)));
        behind-is = simp length-append (omega arith);
      }

  -- a mark, and a CR behind it
  pub record MarkReads (mark : Mark) : Type 0 where
    pub mark-is : mark_at bs place ≡ mark
    pub behind-is : behind_mark bs place ≡ place + length (mark_bytes mark)

  pub mark-read : (mark : Mark) → ((limit : ℕ) → mark ≡ Limit limit → limit < 10 ^ 10)
      → Stands (mark_bytes mark) bs place → byte_at bs (place + length (mark_bytes mark)) ≡ return → MarkReads mark
  unfolding mark_at behind_mark mark_bytes
  mark-read Nothing short h e =
      let k : place + 0 ≡ place = omega arith in
      let b : byte_at bs place ≡ return = ap (byte_at bs) (sym k) ∙ e in
      let none : plain_at bs place ≡ 0 = plain_at-other bs place (ap is_digit b) in
      let no-dash : eqb (byte_at bs place) dash ≡ false = ne_eqb (byte_at bs place) dash (λ d. absurd (omega arith)) in
      record {
        mark-is = rw (no-dash, le-ltb 0 (plain_at bs place) (omega arith));
        behind-is = rw (no-dash, none);
      }
  mark-read Dash short h e =
      let is-dash : eqb (byte_at bs place) dash ≡ true =
      eq-eqb (byte_at bs place) dash (stands-head dash [] bs place 0 h) in
      record { mark-is = rw is-dash; behind-is = rw is-dash }
  mark-read (Limit limit) short h e =
      let reads = decimal-read bs place limit (short limit refl) h (ap is_digit e) in
      let some : 0 < plain_at bs place = omega (arith, reads.digits_are, decimal-length-lt limit) in
      let k : place + 0 ≡ place = omega arith in
      let sign = plain-sign bs place 0 some in
      let no-dash : eqb (byte_at bs place) dash ≡ false =
      ne_eqb (byte_at bs place) dash (λ d. absurd (omega (arith, sign.least, ap (byte_at bs) k))) in
      record {
        mark-is = rw (no-dash, lt-ltb 0 (plain_at bs place) some) (ap Limit reads.value-is);
        behind-is = rw no-dash (ap (λ n. place + n) reads.digits_are);
      }

  -- the text of what is read as a mark, and the place behind it
  pub record MarkStands (mark : Mark) (behind : ℕ) : Type 0 where
    pub stands : Stands (mark_bytes mark) bs place
    pub behind-is : behind ≡ place + length (mark_bytes mark)

  stands_by : (t u : Bool) → eqb (byte_at bs place) dash ≡ t → ltb 0 (plain_at bs place) ≡ u
      → MarkStands (cond t Dash (cond u (Limit (plain_value bs place)) Nothing))
      (cond t (place + 1) (behind_digits bs place))
  unfolding mark_bytes
  stands_by true u p q =
      record {
        stands =
            byte-stands bs place dash [] (omega arith) (eqb-true (byte_at bs place) dash p)
            (nothing-stands bs (place + 1));
        behind-is = refl;
      }
  stands_by false true p q =
      let number = decimal-stands bs place (ltb-true 0 (plain_at bs place) q) in
      record { stands = number.stands; behind-is = ap (λ n. place + n) (sym number.so-long) }
  stands_by false false p q =
      record { stands = nothing-stands bs place; behind-is = omega (arith, ltb-false 0 (plain_at bs place) q) }

  pub mark-stands : MarkStands (mark_at bs place) (behind_mark bs place)
  unfolding mark_at behind_mark
  mark-stands = stands_by (eqb (byte_at bs place) dash) (ltb 0 (plain_at bs place)) refl refl

  short-by : (t u : Bool) (limit : ℕ)
      → ◌≡◌ {A = Mark} (cond t Dash (cond u (Limit (plain_value bs place)) Nothing)) (Limit limit)
      → limit < 10 ^ 10
  short-by true u limit e = let z : ◌≡◌ {A = ℕ} 0 1 = cc in absurd (omega arith)
  short-by false true limit e =
      let z : plain_value bs place ≡ limit = cc in
      rw (← z) (plain_value-lt bs place)
  short-by false false limit e = let z : ◌≡◌ {A = ℕ} 0 1 = cc in absurd (omega arith)

  pub mark-short : (limit : ℕ) → mark_at bs place ≡ Limit limit → limit < 10 ^ 10
  unfolding mark_at
  mark-short limit e = short-by (eqb (byte_at bs place) dash) (ltb 0 (plain_at bs place)) limit e
