-- Laws of one line: where its text stands, it is read, and the next line stands behind it; and where a line is read,
-- its text stands. Its six numbers are pieces one behind the other, of which the law of one field speaks.
use Prim.Native.Nat.{ℕ, zero, suc, ◌+◌, ◌^◌, ◌≤◌, ◌<◌}
use mathlib.Core.Bool.{true}
use mathlib.Core.List.{List, [], ◌∷◌, ◌++◌}
use mathlib.Core.Path.{◌≡◌, refl, ap, sym, subst, ◌∙◌}
use native.Mathlib.Omega.{arith}
use lib.ListN.{length, length-append}
use Rattle.counting.proofs.lists.PieceLaws.{
  Stands,
  nothing-stands,
  append-stands,
  stands-first,
  stands-second,
  stands-head,
  stands-tail,
  stands-inside,
  Joined,
  stands-joined,
  joined-stands,
  joined-place,
}
use Rattle.words.specs.LittleEndian.{byte_at}
use Rattle.words.proofs.PlainLaws.{plain_value-lt}
use Rattle.sheet_line.specs.declared.Mark.{Mark}
use Rattle.sheet_line.specs.declared.Mark.TheVariants.{Limit}
use Rattle.sheet_line.specs.declared.Line.{Line}
use Rattle.sheet_line.specs.LineText.{return, feed, mark_bytes, field_bytes, line_bytes}
use Rattle.sheet_line.specs.Line.{
  field_place,
  field_in,
  is_field_at,
  numbers,
  mark_place,
  mark_at,
  line_end,
  is_line,
  line_in,
  next_line,
}
use Rattle.sheet_line.proofs.LineParts.{
  line_by,
  number_of,
  line_by-ext,
  numbers_bytes,
  line_bytes-is,
  is_line-true,
  line-is_line,
}
use Rattle.sheet_line.proofs.FieldLaws.{
  byte-stands,
  FieldReads,
  field-read,
  field-stands,
  mark-read,
  mark-stands,
  mark-short,
}

-- each number of a line has at most ten digits
pub record Short (line : Line) : Type 0 where
  pub identifier-short : line.identifier < 10 ^ 10
  pub box-short : line.box_number < 10 ^ 10
  pub phase-short : line.phase < 10 ^ 10
  pub deadline-short : line.deadline < 10 ^ 10
  pub cost-short : line.cost < 10 ^ 10
  pub wait-short : line.wait < 10 ^ 10
  pub limit-short : (limit : ℕ) → line.mark ≡ Limit limit → limit < 10 ^ 10

-- a line is read at a place, and it says this
pub record LineStands (bs : List ℕ) (at : ℕ) (line : Line) : Type 0 where
  pub is-line : is_line bs at ≡ true
  pub says : line_in bs at ≡ line
  pub next-is : next_line bs at ≡ at + length (line_bytes line)

short-numbers : (line : Line) → Short line → (k : ℕ) → k < numbers → number_of line k < 10 ^ 10
short-numbers line short zero l = short.identifier-short
short-numbers line short (suc zero) l = short.box-short
short-numbers line short (suc (suc zero)) l = short.phase-short
short-numbers line short (suc (suc (suc zero))) l = short.deadline-short
short-numbers line short (suc (suc (suc (suc zero)))) l = short.cost-short
short-numbers line short (suc (suc (suc (suc (suc zero))))) l = short.wait-short
short-numbers line short (suc (suc (suc (suc (suc (suc k)))))) l = absurd (omega arith)

module _ (bs : List ℕ) (at : ℕ) where
  -- the numbers stand one behind the other, and the mark behind them
  module _ (number : ℕ → ℕ) (short : (k : ℕ) → k < numbers → number k < 10 ^ 10) where
    numbers-read : Stands (numbers_bytes number) bs at
        → Joined (λ k. field_bytes (number k)) (field_place bs at) bs numbers
    unfolding field_place
    numbers-read h =
        stands-joined (λ k. field_bytes (number k)) (field_place bs at) bs numbers
        (λ k l s. (field-read bs (field_place bs at k) (number k) (short k l) s).behind-is) h

    field : Joined (λ k. field_bytes (number k)) (field_place bs at) bs numbers → (k : ℕ) → k < numbers
        → FieldReads bs (field_place bs at k) (number k)
    field joined k l = field-read bs (field_place bs at k) (number k) (short k l) (joined.each k l)

    parts-read : (mark : Mark) → ((limit : ℕ) → mark ≡ Limit limit → limit < 10 ^ 10)
        → Stands (numbers_bytes number ++ mark_bytes mark ++ return ∷ feed ∷ []) bs at
        → LineStands bs at (line_by number mark)
    unfolding field_place line_in next_line
    parts-read mark limits h =
        let front : List ℕ = numbers_bytes number ++ mark_bytes mark in
        let fronts : Stands front bs at = stands-first front (return ∷ feed ∷ []) bs at h in
        let joined = numbers-read (stands-first (numbers_bytes number) (mark_bytes mark) bs at fronts) in
        let marks : Stands (mark_bytes mark) bs (mark_place bs at) =
        stands-second (numbers_bytes number) (mark_bytes mark) bs at (mark_place bs at) joined.place_is fronts in
        let end : ℕ = mark_place bs at + length (mark_bytes mark) in
        let long : end ≡ at + length front = simp length-append (omega (arith, joined.place_is)) in
        let ends : Stands (return ∷ feed ∷ []) bs end = stands-second front (return ∷ feed ∷ []) bs at end long h in
        let returns : byte_at bs end ≡ return = stands-head return (feed ∷ []) bs end 0 ends in
        let feeds : byte_at bs (end + 1) ≡ feed =
        stands-head feed [] bs (end + 1) 0 (stands-tail return (feed ∷ []) bs end (end + 1) refl ends) in
        let marked = mark-read bs (mark_place bs at) mark limits marks returns in
        record {
          is-line =
              line-is_line bs at
              (record {
                each = λ k l. (field joined k l).is_field;
                returns = ap (byte_at bs) marked.behind-is ∙ returns;
                feeds = ap (λ n. byte_at bs (n + 1)) marked.behind-is ∙ feeds;
              });
          says =
              line_by-ext (field_in bs at) number (mark_at bs (mark_place bs at)) (λ k l. (field joined k l).value-is)
              ∙ ap (line_by number) marked.mark-is;
          next-is =
              rw (line_bytes-is number mark, length-append) (omega (arith, marked.behind-is));
        }

pub line_read : (bs : List ℕ) (at : ℕ) (line : Line) → Short line → Stands (line_bytes line) bs at
    → LineStands bs at line
line_read bs at line short h =
    parts-read bs at (number_of line) (short-numbers line short) line.mark short.limit-short
    (subst (λ l. Stands l bs at) (line_bytes-is (number_of line) line.mark) h)

module _ (bs : List ℕ) (at : ℕ) where
  pub line-short : Short (line_in bs at)
  unfolding line_in
  line-short =
      record {
        identifier-short = plain_value-lt bs (field_place bs at 0);
        box-short = plain_value-lt bs (field_place bs at 1);
        phase-short = plain_value-lt bs (field_place bs at 2);
        deadline-short = plain_value-lt bs (field_place bs at 3);
        cost-short = plain_value-lt bs (field_place bs at 4);
        wait-short = plain_value-lt bs (field_place bs at 5);
        limit-short = mark-short bs (mark_place bs at);
      }

  -- the numbers that are read stand one behind the other
  module _ (each : (k : ℕ) → k < numbers → is_field_at bs (field_place bs at k) ≡ true) where
    behind : (k : ℕ) → k < numbers
        → field_place bs at (suc k) ≡ field_place bs at k + length (field_bytes (field_in bs at k))
    unfolding field_place
    behind k l = (field-stands bs (field_place bs at k) (each k l)).behind-is

    numbers-stand : Stands (numbers_bytes (field_in bs at)) bs at
    unfolding field_place
    numbers-stand =
        joined-stands (λ k. field_bytes (field_in bs at k)) (field_place bs at) bs numbers behind
        (λ k l. (field-stands bs (field_place bs at k) (each k l)).stands)

    mark_place-is : mark_place bs at ≡ at + length (numbers_bytes (field_in bs at))
    unfolding field_place
    mark_place-is = joined-place (λ k. field_bytes (field_in bs at k)) (field_place bs at) numbers behind

  pub line-stands : is_line bs at ≡ true → Stands (line_bytes (line_in bs at)) bs at
  unfolding line_in
  line-stands e =
      let line = is_line-true bs at e in
      let mark = mark-stands bs (mark_place bs at) in
      let piece : List ℕ = mark_bytes (mark_at bs (mark_place bs at)) in
      let front : List ℕ = numbers_bytes (field_in bs at) ++ piece in
      let long : line_end bs at ≡ at + length front =
      simp length-append (omega (arith, mark_place-is line.each, mark.behind-is)) in
      let fronts : Stands front bs at =
      append-stands (numbers_bytes (field_in bs at)) piece bs at (mark_place bs at) (mark_place-is line.each)
      (numbers-stand line.each) mark.stands in
      let ends : Stands (return ∷ feed ∷ []) bs (line_end bs at) =
      byte-stands bs (line_end bs at) return (feed ∷ []) (omega arith) line.returns
      (byte-stands bs (line_end bs at + 1) feed [] (omega arith) line.feeds
      (nothing-stands bs (line_end bs at + 1 + 1))) in
      subst (λ l. Stands l bs at) (sym (line_bytes-is (field_in bs at) (mark_at bs (mark_place bs at))))
      (append-stands front (return ∷ feed ∷ []) bs at (line_end bs at) long fronts ends)

  pub line-next : is_line bs at ≡ true → next_line bs at ≡ at + length (line_bytes (line_in bs at))
  line-next e = (line_read bs at (line_in bs at) line-short (line-stands e)).next-is

  field_place-le : (k : ℕ) → at ≤ field_place bs at k
  unfolding field_place
  field_place-le zero = omega arith
  field_place-le (suc k) = omega (arith, field_place-le k)

  pub next_line-lt : at < next_line bs at
  unfolding next_line
  next_line-lt = omega (arith, field_place-le numbers, (mark-stands bs (mark_place bs at)).behind-is)

pub line_bytes-lt : (line : Line) → 0 < length (line_bytes line)
unfolding line_bytes
line_bytes-lt line = simp length-append (omega arith)

pub line-inside : (bs : List ℕ) (at : ℕ) → is_line bs at ≡ true → next_line bs at ≤ length bs
line-inside bs at e =
    rw (line-next bs at e)
    (stands-inside (line_bytes (line_in bs at)) bs at (line_bytes-lt (line_in bs at)) (line-stands bs at e))
