-- The lines of a sheet, checked one behind the other: what is known when n of them are, that it holds at the start and
-- behind one line more, and what decides.
use Prim.Native.Nat.{ℕ, zero, suc, ◌≤◌, ◌<◌}
use mathlib.Core.Bool.{Bool, true, false}
use mathlib.Core.List.{List}
use mathlib.Core.Path.{◌≡◌, sym, ap, ◌∙◌}
use native.Mathlib.Decide.{dec_lt}
use native.Mathlib.Numerals.{add-one}
use native.Mathlib.Omega.{arith}
use lib.Dec.{ltb}
use lib.ListN.{length}
use borrow.Author.Tests.{lt-ltb}
use Rattle.refusals.specs.declared.Refusal.{Refusal}
use Rattle.refusals.specs.declared.Refusal.TheVariants.{LineMalformed}
use Rattle.refusals.specs.Checked.{Checked}
use Rattle.std.specs.Prelude.{Some, None, Ok, Err}
use Rattle.refusals.specs.FirstMet.{first_met, first_fault_to}
use Rattle.refusals.proofs.FirstMetLaws.{
  and_then-both,
  and_then-last,
  first_fault_to-zero,
  first_fault_to-next,
  first_fault_to-refused,
}
use Rattle.sheet_line.specs.declared.Line.{Line}
use Rattle.sheet_line.specs.declared.LineRead.{LineRead}
use Rattle.sheet_line.specs.Line.{is_line}
use Rattle.sheet_line.specs.Calls.{LineAt, no_line}
use Rattle.sheet.specs.Lines.{line_place, lines_in}
use Rattle.sheet.specs.LineFaults.{line_tests, line_before, line_fault, end_tests, lines_fault}
use Rattle.sheet.specs.inner.Walk.{goes_on_from}
use Rattle.sheet.proofs.trip.PlaceLaws.{
  line_place-zero,
  line_place-lt,
  line_place-rises,
  lines_in-before,
  lines_in-lt,
}
use Rattle.sheet.proofs.walk.ReadLaws.{some-there, some-read, none-there, line-says, line-next}

-- the lines before a place are checked: no fault is found in them, and the last is kept
pub record Walked (bs : List ℕ) (at : ℕ) (before : Line) : Type 0 where
  pub lines : ℕ
  pub lines-le : lines ≤ lines_in bs
  pub place_is : at ≡ line_place bs 0 lines
  pub before-is : before ≡ line_before bs lines
  pub no-fault : first_fault_to (line_fault bs) lines ≡ Ok tt

pub walked_none : (bs : List ℕ) (before : Line) → before ≡ no_line → Walked bs 0 before
walked_none bs before e =
    record {
      lines = 0;
      lines-le = omega arith;
      place_is = sym (line_place-zero bs 0);
      before-is = e;
      no-fault = first_fault_to-zero (line_fault bs);
    }

-- a line stands before every line but the first
first-place : (bs : List ℕ) (n : ℕ) → ltb 0 (line_place bs 0 n) ≡ ltb 0 n
first-place bs zero = rw line_place-zero
first-place bs (suc n) =
    lt-ltb 0 (line_place bs 0 (suc n)) (omega (arith, line_place-rises bs 0 (suc n)))
    ∙ sym (lt-ltb 0 (suc n) (omega arith))

-- what stands at a place where there is no line
tests-none : (t goes : Bool) (before line : Line) → t ≡ false
    → first_met (line_tests t goes before line) ≡ Err LineMalformed
unfolding line_tests
tests-none t goes before line e = rw e

module _ (bs : List ℕ) (n at : ℕ) (place : at ≡ line_place bs 0 n) where
  -- no line stands there
  line-malformed : LineAt bs at None → line_fault bs n ≡ Err LineMalformed
  unfolding line_fault
  line-malformed read = tests-none _ _ _ _ (ap (is_line bs) (sym place) ∙ none-there bs at read)

  -- what is asked of line n is what the definition asks
  line-asked : (before : Line) (r : LineRead) (goes : Bool) → before ≡ line_before bs n → LineAt bs at (Some r)
      → goes ≡ goes_on_from at before r.line → first_met (line_tests true goes before r.line) ≡ line_fault bs n
  unfolding line_fault
  line-asked before r goes kept read g =
      rw (
        g,
        ap (is_line bs) (sym place) ∙ some-there bs at r read,
        line-says bs 0 n place (some-read bs at r read),
        kept,
        ap (ltb 0) place ∙ first-place bs n,
      )

-- one line more
module _ {bs : List ℕ} {at : ℕ} {before : Line} (so_far : Walked bs at before) (l : at < length bs) where
  line-there : so_far.lines < lines_in bs
  line-there = lines_in-lt bs so_far.lines (rw so_far.place_is at l)

  -- that is refused decides
  decides : (refusal : Refusal) → line_fault bs so_far.lines ≡ Err refusal → lines_fault bs ≡ Err refusal
  unfolding lines_fault
  decides refusal h =
      let z : first_fault_to (line_fault bs) (lines_in bs) ≡ Err refusal =
      first_fault_to-refused (line_fault bs) (lines_in bs) so_far.lines refusal line-there so_far.no-fault h in
      rw z

  pub none-decides : LineAt bs at None → lines_fault bs ≡ Err LineMalformed
  none-decides read = decides LineMalformed (line-malformed bs so_far.lines at so_far.place_is read)

  module _ (r : LineRead) (read : LineAt bs at (Some r)) (goes : Bool) (g : goes ≡ goes_on_from at before r.line) where
    asked : first_met (line_tests true goes before r.line) ≡ line_fault bs so_far.lines
    asked = line-asked bs so_far.lines at so_far.place_is before r goes so_far.before-is read g

    pub line-decides : (refusal : Refusal) → Err refusal ≡ first_met (line_tests true goes before r.line)
        → lines_fault bs ≡ Err refusal
    line-decides refusal h = decides refusal (sym (h ∙ asked))

    next-is : r.next ≡ line_place bs 0 (suc so_far.lines)
    next-is =
        line-next bs 0 so_far.lines so_far.place_is (some-read bs at r read)
        ∙ ap (line_place bs 0) (add-one so_far.lines)

    pub next-behind : at < r.next
    next-behind = omega (arith, next-is, so_far.place_is, line_place-lt bs 0 so_far.lines)

    pub walked_next : Ok tt ≡ first_met (line_tests true goes before r.line) → Walked bs r.next r.line
    walked_next good =
        let n = so_far.lines in
        record {
          lines = suc n;
          lines-le = line-there;
          place_is = next-is;
          before-is = line-says bs 0 n so_far.place_is (some-read bs at r read);
          no-fault =
              ap (first_fault_to (line_fault bs)) (sym (add-one n))
              ∙ first_fault_to-next (line_fault bs) n
              ∙ and_then-both _ _ so_far.no-fault (sym (good ∙ asked));
        }

-- behind the last line
module _ {bs : List ℕ} {at : ℕ} {before : Line} (so_far : Walked bs at before) (h : length bs ≤ at) where
  walked_all : so_far.lines ≡ lines_in bs
  walked_all =
      elim (dec_lt so_far.lines (lines_in bs)) [
        | yes l ↦ absurd (omega (arith, lines_in-before bs so_far.lines l, so_far.place_is))
        | no l ↦ omega (arith, so_far.lines-le)
      ]

  pub end-decides : (found : Checked) → found ≡ first_met (end_tests before) → found ≡ lines_fault bs
  unfolding lines_fault
  end-decides found e =
      let z : first_fault_to (line_fault bs) (lines_in bs) ≡ (Ok tt) = rw (← walked_all) so_far.no-fault in
      e
      ∙ ap (λ b. first_met (end_tests b)) (so_far.before-is ∙ ap (line_before bs) walked_all)
      ∙ sym (rw z (and_then-last _))
