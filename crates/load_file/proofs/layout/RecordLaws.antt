-- Each record kind, both ways: where a record stands its kind is due there and its fields are read from there; and
-- where a kind is due, the record of the fields read there stands there.
use Prim.Native.Nat.{ℕ, ◌+◌, ◌^◌, ◌≤◌, ◌<◌}
use mathlib.Core.Bool.{false, not}
use mathlib.Core.List.{List, [], ◌∷◌, ◌++◌}
use mathlib.Core.Path.{◌≡◌, refl, ap, ap₂, sym, ◌∙◌}
use native.Mathlib.Omega.{arith}
use lib.Dec.{eqb}
use lib.ListN.{length, drop, take-append-drop}
use lib.Seq.{drop-drop}
use borrow.Author.Tests.{ltb-false, le-ltb, eqb-true, eq-eqb, not-false}
use Rattle.counting.proofs.lists.PieceLaws.{
  Stands,
  append-stands,
  stands-first,
  stands-second,
  cons-stands,
  stands-head,
  stands-tail,
  stands-inside,
}
use Rattle.words.specs.LittleEndian.{little_endian, byte_at, number_at, Bytes}
use Rattle.words.proofs.LittleEndianLaws.{little_endian-length, little_endian-read, number_at-first, number_at-written}
use Rattle.std.specs.Prelude.{Ok}
use Rattle.refusals.specs.FirstMet.{first_met}
use Rattle.refusals.proofs.FirstFaultLaws.{first_met-good}
use Rattle.load_records.specs.Records.{Kind, record_of}
use Rattle.load_file.specs.Reading.{due_tests}

-- a number of so many bytes
module _ (width : ℕ) (bs : List ℕ) (at : ℕ) where
  pub number_read : (n : ℕ) → n < 256 ^ width → Stands (little_endian width n) bs at → number_at width bs at ≡ n
  number_read n l h =
      number_at-first width bs _ at (sym h.cut)
      ∙ little_endian-read width n [] (drop (at + length (little_endian width n)) bs) l

  pub number-stands : Bytes bs → at + width ≤ length bs → Stands (little_endian width (number_at width bs at)) bs at
  number-stands b l =
      let n : ℕ = number_at width bs at in
      record {
        cut =
            sym (take-append-drop width (drop at bs))
            ∙ ap₂ ◌++◌ (sym (number_at-written width bs at b l))
            (drop-drop width at bs ∙ ap (λ k. drop (at + k) bs) (sym (little_endian-length width n)));
      }

-- a number, and behind it a piece
pub number-first : (width : ℕ) (rest bs : List ℕ) (at n : ℕ) → n < 256 ^ width
    → Stands (little_endian width n ++ rest) bs at → number_at width bs at ≡ n
number-first width rest bs at n l h =
    number_read width bs at n l (stands-first (little_endian width n) rest bs at h)

module _ (width : ℕ) (rest bs : List ℕ) (at there : ℕ) (e : there ≡ at + width) where
  pub number_behind : (n : ℕ) → Stands (little_endian width n ++ rest) bs at → Stands rest bs there
  number_behind n h = stands-second (little_endian width n) rest bs at there (rw little_endian-length e) h

  pub number-before : Bytes bs → there ≤ length bs → Stands rest bs there
      → Stands (little_endian width (number_at width bs at) ++ rest) bs at
  number-before b l h =
      append-stands (little_endian width (number_at width bs at)) rest bs at there (rw little_endian-length e)
      (number-stands width bs at b (omega arith)) h

-- the test that two numbers differ
pub differs_false : (a b : ℕ) → not (eqb a b) ≡ false → a ≡ b
differs_false a b h = eqb-true a b (not-false (eqb a b) h)

pub eq-differs : (a b : ℕ) → a ≡ b → not (eqb a b) ≡ false
eq-differs a b e = ap not (eq-eqb a b e)

-- a record of a kind is due at a place, and it is there
pub record Due (kind : Kind) (bs : List ℕ) (at : ℕ) : Type 0 where
  pub inside : at + kind.size ≤ length bs
  pub first-mark : byte_at bs at ≡ kind.mark₁
  pub second-mark : byte_at bs (at + 1) ≡ kind.mark₂

module _ (kind : Kind) (bs : List ℕ) (at : ℕ) where
  pub good-due : first_met (due_tests kind bs at) ≡ Ok tt → Due kind bs at
  good-due h =
      let test = first_met-good (due_tests kind bs at) h in
      record {
        inside = ltb-false (length bs) (at + kind.size) (test 0);
        first-mark = differs_false (byte_at bs at) kind.mark₁ (test 1);
        second-mark = differs_false (byte_at bs (at + 1)) kind.mark₂ (test 2);
      }

  pub due-good : Due kind bs at → first_met (due_tests kind bs at) ≡ Ok tt
  due-good d =
      let short = le-ltb (length bs) (at + kind.size) d.inside in
      let first = eq-differs (byte_at bs at) kind.mark₁ d.first-mark in
      let second = eq-differs (byte_at bs (at + 1)) kind.mark₂ d.second-mark in
      rw (short, first, second)

  -- the mark, and behind it the fields
  module _ (fields : List ℕ) where
    pub record-due : length fields + 2 ≡ kind.size → Stands (record_of kind fields) bs at → Due kind bs at
    record-due e h =
        record {
          inside = omega (arith, stands-inside (record_of kind fields) bs at (omega arith) h);
          first-mark = stands-head kind.mark₁ (kind.mark₂ ∷ fields) bs at 0 h;
          second-mark =
              stands-head kind.mark₂ fields bs (at + 1) 0
              (stands-tail kind.mark₁ (kind.mark₂ ∷ fields) bs at (at + 1) refl h);
        }

    pub record-fields : Stands (record_of kind fields) bs at → Stands fields bs (at + 2)
    record-fields h =
        stands-tail kind.mark₂ fields bs (at + 1) (at + 2) (omega arith)
        (stands-tail kind.mark₁ (kind.mark₂ ∷ fields) bs at (at + 1) refl h)

    pub record-stands : 2 ≤ kind.size → Due kind bs at → Stands fields bs (at + 2)
        → Stands (record_of kind fields) bs at
    record-stands l d h =
        let i : at + kind.size ≤ length bs = d.inside in
        cons-stands kind.mark₁ (kind.mark₂ ∷ fields) bs at (at + 1) refl 0 (omega arith) d.first-mark
        (cons-stands kind.mark₂ fields bs (at + 1) (at + 2) (omega arith) 0 (omega arith) d.second-mark h)
