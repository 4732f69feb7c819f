-- The lines of one row, counted one behind the other: what is known when so many of them are, that it holds behind the
-- first and behind one line more, and where the count ends.
use Prim.Native.Nat.{ℕ, suc, ◌+◌, ◌≤◌, ◌<◌}
use mathlib.Core.Bool.{true, false, not}
use mathlib.Core.List.{List}
use mathlib.Core.Path.{◌≡◌, sym, ap, ap₂, ◌∙◌}
use native.Mathlib.Decide.{ℕ_discrete}
use native.Mathlib.Numerals.{add-one}
use native.Mathlib.Omega.{arith}
use lib.Dec.{eqb}
use lib.ListN.{length}
use borrow.Author.Tests.{le-leb, lt-leb, eq-eqb, ne_eqb}
use Rattle.sheet_line.specs.declared.Line.{Line}
use Rattle.sheet_line.specs.declared.LineRead.{LineRead}
use Rattle.sheet_line.specs.Line.{is_line}
use Rattle.sheet.specs.Lines.{line_place, line_from}
use Rattle.sheet.specs.SheetRows.{row_ends, steps_from}
use Rattle.sheet.specs.declared.rows.Run.{Run}
use Rattle.sheet.specs.inner.Walk.{LinesStand, RowStands}
use Rattle.sheet_line.proofs.LineLaws.{line-inside}
use Rattle.sheet.proofs.trip.PlaceLaws.{
  line_place-zero,
  line_place-next,
  line_place-lt,
  line_place-rises,
  steps_from-inside,
  steps_from-is,
}
use Rattle.sheet.proofs.walk.ReadLaws.{read_at, line-says, line-next}

-- the lines of a row are lines
pub row-stands : (bs : List ℕ) (at : ℕ) → RowStands bs at → LinesStand bs at (steps_from bs at)
row-stands bs at stands =
    record { are-lines = λ n l. stands.are-lines n (steps_from-inside bs at n stands.inside l) }

abbrev pub run_of : ℕ → ℕ → Run
run_of steps next = record { steps = steps; next = next }

-- the lines of the row that begins at a place
abbrev pub row_run : List ℕ → ℕ → Run
row_run bs at = run_of (steps_from bs at) (line_place bs at (steps_from bs at))

-- the row that begins at a place goes on for so many lines, up to the next place
pub record RunSoFar (bs : List ℕ) (at : ℕ) (first : Line) (steps next : ℕ) : Type 0 where
  pub least : 0 < steps
  pub first-is : first ≡ line_from bs at 0
  pub next-is : next ≡ line_place bs at steps
  pub next_le : next ≤ length bs
  pub going : (k : ℕ) → suc k < steps → row_ends bs at (suc k) ≡ false

module _ {bs : List ℕ} {at : ℕ} (stands : RowStands bs at) where
  -- a line that stands before the end ends there too
  next-inside : (n : ℕ) → line_place bs at n < length bs → line_place bs at (n + 1) ≤ length bs
  next-inside n l =
      rw (add-one, line_place-next) (line-inside bs (line_place bs at n) (stands.are-lines n l))

  -- a line stands where the row begins
  pub row-begins : is_line bs at ≡ true
  row-begins =
      ap (is_line bs) (sym (line_place-zero bs at))
      ∙ stands.are-lines 0 (omega (arith, stands.inside, line_place-zero bs at))

  pub run-one : (r : LineRead) → r ≡ read_at bs at → RunSoFar bs at r.line 1 r.next
  run-one r read =
      let e : at ≡ line_place bs at 0 = sym (line_place-zero bs at) in
      let inside : line_place bs at 0 < length bs = omega (arith, stands.inside) in
      let next = line-next bs at 0 e read in
      record {
        least = omega arith;
        first-is = line-says bs at 0 e read;
        next-is = next;
        next_le = omega (arith, next-inside 0 inside);
        going = λ k l. absurd (omega arith);
      }

  module _ {first : Line} {steps next : ℕ} (so_far : RunSoFar bs at first steps next) where
    pub run_fits : at + steps ≤ length bs
    run_fits = omega (arith, line_place-rises bs at steps, so_far.next-is, so_far.next_le)

    found : row_ends bs at steps ≡ true → run_of steps next ≡ row_run bs at
    found h =
        let e : steps_from bs at ≡ steps =
        steps_from-is bs at steps so_far.least (omega (arith, run_fits)) so_far.going h in
        ap₂ run_of (sym e) (so_far.next-is ∙ ap (line_place bs at) (sym e))

    -- the sheet has ended
    pub run_ends : length bs ≤ next → run_of steps next ≡ row_run bs at
    run_ends h = found (rw (le-leb (length bs) (line_place bs at steps) (rw so_far.next-is at h)))

    -- one line more
    pub run-line : next < length bs → is_line bs next ≡ true
    run-line l = ap (is_line bs) so_far.next-is ∙ stands.are-lines steps (rw so_far.next-is at l)

    module _ (l : next < length bs) (r : LineRead) (read : r ≡ read_at bs next) where
      inside : line_place bs at steps < length bs
      inside = rw so_far.next-is at l

      -- the row ends before it where its identifier is another
      ends_by : row_ends bs at steps ≡ not (eqb r.line.identifier first.identifier)
      ends_by =
          rw (
            lt-leb (length bs) (line_place bs at steps) inside,
            ← line-says bs at steps so_far.next-is read,
            ← so_far.first-is,
          )

      pub run-differs : (r.line.identifier ≡ first.identifier → ⊥) → run_of steps next ≡ row_run bs at
      run-differs h = found (ends_by ∙ rw (ne_eqb r.line.identifier first.identifier h))

      next_place : r.next ≡ line_place bs at (steps + 1)
      next_place = line-next bs at steps so_far.next-is read

      pub next-behind : next < r.next
      next-behind =
          let next-line = next_place ∙ ap (line_place bs at) (add-one steps) in
          omega (arith, so_far.next-is, line_place-lt bs at steps)

      pub run_more : r.line.identifier ≡ first.identifier → RunSoFar bs at first (steps + 1) r.next
      run_more h =
          record {
            least = omega arith;
            first-is = so_far.first-is;
            next-is = next_place;
            next_le = omega (arith, next_place, next-inside steps inside);
            going = λ k m.
                elim (ℕ_discrete (suc k) steps) [
                  | yes e ↦ rw e (ends_by ∙ rw (eq-eqb r.line.identifier first.identifier h))
                  | no e ↦ so_far.going k (omega arith)
                ];
          }
