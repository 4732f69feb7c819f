-- What the tests of one line ask of it beside the line before, taken apart: a line that goes on with its row, and one
-- that begins a row. The tests find nothing exactly where these facts hold.
use Prim.Native.Nat.{ℕ, zero, suc, ◌-◌, ◌<◌}
use mathlib.Core.Bool.{Bool, true, false, not, ◌&&◌, ◌||◌}
use mathlib.Core.Path.{◌≡◌, refl, ◌∙◌}
use native.Mathlib.Decide.{dec_lt}
use native.Mathlib.Omega.{arith}
use lib.Dec.{eqb}
use borrow.Author.Tests.{eqb-true, eq-eqb, not-false}
use Rattle.counting.proofs.tests.TestLaws.{or_left, or_right, true-false, never_true}
use Rattle.std.specs.Prelude.{Ok}
use Rattle.refusals.specs.FirstMet.{first_met}
use Rattle.refusals.proofs.FirstFaultLaws.{test_at}
use Rattle.sheet_line.specs.declared.Line.{Line}
use Rattle.sheet.specs.LineFaults.{is_dash, is_limit, line_tests}
use Rattle.sheet.specs.inner.Narrow.{RowLines}

-- what 19 and 20 leave of a line that goes on with its row
pub record NextLine (before line : Line) : Type 0 where
  pub same-box : line.box_number ≡ before.box_number
  pub same-phase : line.phase ≡ before.phase
  pub same-deadline : line.deadline ≡ before.deadline
  -- before a dash stands a limit or a dash
  pub window-before : is_dash line.mark ≡ true → (is_limit before.mark || is_dash before.mark) ≡ true
  -- behind a limit stands a dash
  pub dash-behind : is_limit before.mark ≡ true → is_dash line.mark ≡ true

-- and of one that begins a row
pub record FirstLine (before line : Line) : Type 0 where
  pub no-dash : is_dash line.mark ≡ false
  -- the row before it does not end with a limit
  pub no-limit : is_limit before.mark ≡ false

-- a test that is met, beside one that is not
and-not : (a b : Bool) → (a && not b) ≡ false → a ≡ true → b ≡ true
and-not true b e h = not-false b e
and-not false b e h = absurd (true-false false h refl)

module _ (is_there on : Bool) (before line : Line) (h : (k : ℕ)
    → test_at (line_tests is_there on before line) k ≡ false)
  where
    pub tests-there : is_there ≡ true
    unfolding line_tests
    tests-there = not-false is_there (h 0)

    pub tests-next : on ≡ true → NextLine before line
    unfolding line_tests
    tests-next e =
        let box = not (eqb line.box_number before.box_number) in
        let phase = not (eqb line.phase before.phase) in
        let deadline = not (eqb line.deadline before.deadline) in
        let differs : (box || phase || deadline) ≡ false = rw e at (h 1) in
        let front : (box || phase) ≡ false = or_left (box || phase) deadline differs in
        record {
          same-box = eqb-true _ _ (not-false _ (or_left box phase front));
          same-phase = eqb-true _ _ (not-false _ (or_right box phase front));
          same-deadline = eqb-true _ _ (not-false _ (or_right (box || phase) deadline differs));
          window-before =
              and-not (is_dash line.mark) (is_limit before.mark || is_dash before.mark) (rw e at (h 2));
          dash-behind = and-not (is_limit before.mark) (is_dash line.mark) (rw e at (h 3));
        }

    pub tests-first : on ≡ false → FirstLine before line
    unfolding line_tests
    tests-first e =
        record {
          no-dash =
              never_true (is_dash line.mark)
              (λ d. true-false false (and-not (is_dash line.mark) false (rw e at (h 2)) d) refl);
          no-limit =
              never_true (is_limit before.mark)
              (λ d. true-false false (and-not (is_limit before.mark) false (rw e at (h 3)) d) refl);
        }

-- and back: a line of which these facts hold is not refused
not-and : (a b : Bool) → (a ≡ true → b ≡ true) → (a && not b) ≡ false
not-and true b h = rw (h refl)
not-and false b h = refl

module _ (is_there on : Bool) (before line : Line) (there : is_there ≡ true) where
  pub next-tests : on ≡ true → NextLine before line → first_met (line_tests is_there on before line) ≡ Ok tt
  unfolding line_tests
  next-tests e next =
      rw (
        there,
        e,
        eq-eqb _ _ next.same-box,
        eq-eqb _ _ next.same-phase,
        eq-eqb _ _ next.same-deadline,
        not-and (is_dash line.mark) (is_limit before.mark || is_dash before.mark) next.window-before,
        not-and (is_limit before.mark) (is_dash line.mark) next.dash-behind,
      )

  pub first-tests : on ≡ false → FirstLine before line → first_met (line_tests is_there on before line) ≡ Ok tt
  unfolding line_tests
  first-tests e first = rw (there, e, first.no-dash, first.no-limit)

-- lines of which each goes on with the one before are the lines of a row
module _ (line : ℕ → Line) (steps : ℕ)
    (identifiers : (j : ℕ) → j < steps → (line j).identifier ≡ (line 0).identifier)
    (next : (j : ℕ) → suc j < steps → NextLine (line j) (line (suc j)))
    (first : is_dash (line 0).mark ≡ false) (last : is_limit (line (steps - 1)).mark ≡ false) where
  boxes : (j : ℕ) → j < steps → (line j).box_number ≡ (line 0).box_number
  boxes zero l = refl
  boxes (suc j) l = (next j l).same-box ∙ boxes j (omega arith)

  phases : (j : ℕ) → j < steps → (line j).phase ≡ (line 0).phase
  phases zero l = refl
  phases (suc j) l = (next j l).same-phase ∙ phases j (omega arith)

  deadlines : (j : ℕ) → j < steps → (line j).deadline ≡ (line 0).deadline
  deadlines zero l = refl
  deadlines (suc j) l = (next j l).same-deadline ∙ deadlines j (omega arith)

  behind : (j : ℕ) → j < steps → is_limit (line j).mark ≡ true
      → (suc j < steps) × (is_dash (line (suc j)).mark ≡ true)
  behind j l limit =
      elim (dec_lt (suc j) steps) [
        | yes m ↦ (m, (next j m).dash-behind limit)
        | no g ↦
            let e : steps - 1 ≡ j = omega arith in
            absurd (true-false (is_limit (line j).mark) limit (rw e at last))
      ]

  pub lines-row_lines : RowLines line steps
  lines-row_lines =
      record {
        same-identifier = identifiers;
        same-box = boxes;
        same-phase = phases;
        same-deadline = deadlines;
        marked =
            record {
              first-none = λ l. first;
              window-before = λ j l. (next j l).window-before;
              dash-behind = behind;
            };
      }
