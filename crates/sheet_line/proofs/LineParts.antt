-- A line by its parts: six numbers and a mark. Its text is theirs, one behind the other, and the tests of a line are
-- theirs and those of its end.
use Prim.Native.Nat.{ℕ, ◌+◌, ◌<◌}
use mathlib.Core.Bool.{Bool, true, ◌&&◌}
use mathlib.Core.List.{List, [], ◌∷◌, ◌++◌}
use mathlib.Core.Path.{◌≡◌, refl}
use native.Mathlib.Omega.{arith}
use borrow.Author.Tests.{eq-eqb, eqb-true}
use lib.Dec.{eqb}
use Rattle.counting.specs.Lists.{join_to, member_at}
use Rattle.counting.specs.Sums.{all_to}
use Rattle.counting.proofs.tests.TestLaws.{and_left, and_right, and_both, all_to-true, true-all_to}
use Rattle.words.specs.LittleEndian.{byte_at}
use Rattle.sheet_line.specs.declared.Mark.{Mark}
use Rattle.sheet_line.specs.declared.Line.{Line}
use Rattle.sheet_line.specs.LineText.{return, feed, mark_bytes, field_bytes, line_bytes}
use Rattle.sheet_line.specs.Line.{field_place, is_field_at, numbers, line_end, is_line}

-- a line by its numbers, in the order of its fields
abbrev pub line_by : (ℕ → ℕ) → Mark → Line
line_by number mark =
    record {
      identifier = number 0;
      box_number = number 1;
      phase = number 2;
      deadline = number 3;
      cost = number 4;
      wait = number 5;
      mark = mark;
    }

-- number k of a line
abbrev pub number_of : Line → ℕ → ℕ
number_of line k =
    member_at
    (line.identifier
    ∷ line.box_number
    ∷ line.phase
    ∷ line.deadline
    ∷ line.cost
    ∷ line.wait
    ∷ [])
    k

pub line_by-ext : (f g : ℕ → ℕ) (mark : Mark) → ((k : ℕ) → k < 6 → f k ≡ g k) → line_by f mark ≡ line_by g mark
line_by-ext f g mark h =
    cc (
      h 0 (omega arith),
      h 1 (omega arith),
      h 2 (omega arith),
      h 3 (omega arith),
      h 4 (omega arith),
      h 5 (omega arith),
    )

-- the text of six numbers, each with its comma
abbrev pub numbers_bytes : (ℕ → ℕ) → List ℕ
numbers_bytes number = join_to (λ k. field_bytes (number k)) numbers

pub line_bytes-is : (number : ℕ → ℕ) (mark : Mark)
    → line_bytes (line_by number mark) ≡ numbers_bytes number ++ mark_bytes mark ++ return ∷ feed ∷ []
unfolding line_bytes join_to
line_bytes-is number mark = refl

-- the tests of a line are its facts: six numbers with a comma behind each, and CR LF at the end
pub record IsLine (bs : List ℕ) (at : ℕ) : Type 0 where
  pub each : (k : ℕ) → k < numbers → is_field_at bs (field_place bs at k) ≡ true
  pub returns : byte_at bs (line_end bs at) ≡ return
  pub feeds : byte_at bs (line_end bs at + 1) ≡ feed

module _ (bs : List ℕ) (at : ℕ) where
  fields : Bool
  fields = all_to (λ k. is_field_at bs (field_place bs at k)) numbers

  returns : Bool
  returns = eqb (byte_at bs (line_end bs at)) return

  feeds : Bool
  feeds = eqb (byte_at bs (line_end bs at + 1)) feed

  pub is_line-true : is_line bs at ≡ true → IsLine bs at
  unfolding is_line fields returns feeds
  is_line-true e =
      let front = and_left (fields && returns) feeds e in
      record {
        each =
            all_to-true (λ k. is_field_at bs (field_place bs at k)) numbers (and_left fields returns front);
        returns = eqb-true (byte_at bs (line_end bs at)) return (and_right fields returns front);
        feeds = eqb-true (byte_at bs (line_end bs at + 1)) feed (and_right (fields && returns) feeds e);
      }

  pub line-is_line : IsLine bs at → is_line bs at ≡ true
  unfolding is_line fields returns feeds
  line-is_line h =
      and_both (fields && returns) feeds
      (and_both fields returns
      (true-all_to (λ k. is_field_at bs (field_place bs at k)) numbers h.each)
      (eq-eqb (byte_at bs (line_end bs at)) return h.returns))
      (eq-eqb (byte_at bs (line_end bs at + 1)) feed h.feeds)
