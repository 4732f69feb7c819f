-- What one call of the bound tells of an accepted load, in the words of the lines: bound and verdict of the first line,
-- and the margins and blames of the row lines.
use Prim.Native.Nat.{ℕ, ◌<◌}
use mathlib.Core.Bool.{Bool, true, false, cond}
use mathlib.Core.List.{List}
use Rattle.std.specs.Bool.{then_some}
use Rattle.std.specs.Borrow.{Bor}
use mathlib.Core.Path.{◌≡◌, refl, ap, ap₂, ◌∙◌}
use native.Mathlib.Omega.{arith}
use borrow.Author.Tests.{lt-ltb}
use lib.IntN.{pos}
use lib.ListN.{length, get_or}
use Rattle.counting.specs.Lists.{join_to}
use Rattle.counting.proofs.lists.ListLaws.{get_or-list_to, join_to-ext}
use Rattle.std.specs.Prelude.{Ok}
use Rattle.load.specs.declared.Load.{Load}
use Rattle.load.specs.Load.{most_rows, shown, row_at}
use Rattle.load.specs.View.{view_of, steps_in_all}
use Rattle.load.specs.Check.{check_load}
use Rattle.load.proofs.AcceptableLaws.{check-acceptable}
use Rattle.rules.specs.declared.Blame.{Blame}
use Rattle.rules.specs.declared.Slot.{Slot}
use Rattle.rules.specs.Margins.{margin, margins, margin_at, margin_in}
use Rattle.rules.specs.Blame.{nobody, row_blame, blame_at, blames}
use Rattle.rules.specs.Run.{schedule}
use Rattle.rules.specs.Slots.{last_end}
use Rattle.bound.specs.declared.Answered.{Answered}
use Rattle.bound.specs.Calls.{AnswersOf}
use Rattle.bound.proofs.AcceptedLaws.{accepted-few}
use Rattle.bound.proofs.GoodLaws.{
  BoundOf-good,
  MarginsOf-good,
  VerdictOf-good,
  BlamesOf-good,
  AnswersOf-bound,
  AnswersOf-margins,
  AnswersOf-verdict,
  AnswersOf-blames,
}
use Rattle.lines.specs.Lines.{load_line, blame_words, row_line, first_line_of, row_line_of}
use Rattle.lines.specs.inner.Puts.{words_of, given_at, row_line_by, Scheduled}
use Rattle.lines.proofs.ScheduledLaws.{scheduled-counted}

-- of blames that are handed on where they are asked for
asked-words : (blamed : Bool) (lent : Bor (List Blame)) (i : ℕ)
    → words_of (given_at (then_some blamed lent) i) ≡ blame_words blamed (get_or lent.now i nobody)
asked-words true lent i = refl
asked-words false lent i = refl

module _ (load : Load) (accepted : check_load load ≡ Ok tt) where
  -- at the place of a row stands its margin
  margin-read : (i : ℕ) → i < load.rows → margin_in (margins (view_of load)) i ≡ margin (view_of load) i
  unfolding margins view_of
  margin-read i l =
      let few = accepted-few load (check-acceptable load accepted) in
      get_or-list_to (margin_at (view_of load)) most_rows i (pos 0) (omega arith)
      ∙ ap (λ t. cond t (margin (view_of load) i) (pos 0)) (lt-ltb i load.rows l)

  -- and whom it blames
  blame-read : (i : ℕ) → i < load.rows → get_or (blames (view_of load)) i nobody ≡ row_blame (view_of load) i
  unfolding blames view_of
  blame-read i l =
      let few = accepted-few load (check-acceptable load accepted) in
      get_or-list_to (blame_at (view_of load)) most_rows i nobody (omega arith)
      ∙ ap (λ t. cond t (row_blame (view_of load) i) nobody) (lt-ltb i load.rows l)

  module _ (r : Answered) (told : AnswersOf load (Ok r)) where
    -- the first line, of the bound and verdict that were told
    pub first_line-told : (slots : List Slot) (end : ℕ) → Scheduled load slots → end ≡ last_end (view_of load) slots
        → first_line_of load.rows (length slots) end r.bound r.verdict
        ≡ load_line (view_of load) (schedule (view_of load))
    unfolding first_line_of load_line view_of
    first_line-told slots end s e =
        let L = view_of load in
        ap (λ n. first_line_of load.rows n end r.bound r.verdict) (scheduled-counted load slots s)
        ∙ ap (λ n. first_line_of load.rows (steps_in_all L) n r.bound r.verdict) (e ∙ ap (last_end L) s.slots-are)
        ∙ ap₂ (first_line_of load.rows (steps_in_all L) (last_end L (schedule L)))
        (BoundOf-good load _ (AnswersOf-bound load r told))
        (VerdictOf-good load _ (AnswersOf-verdict load r told))

    margins-told : r.margins ≡ margins (view_of load)
    margins-told = MarginsOf-good load _ (AnswersOf-margins load r told)

    blames-told : r.blames ≡ blames (view_of load)
    blames-told = BlamesOf-good load _ (AnswersOf-blames load r told)

    -- the row lines, of the margins that were told, and of the blames where they are asked for
    pub row_lines-told : (blamed : Bool) (lent : Bor (List Blame)) → lent.now ≡ r.blames
        → join_to (row_line_by load r.margins (then_some blamed lent)) load.rows
        ≡ join_to (row_line blamed load) load.rows
    unfolding row_line_of row_line
    row_lines-told blamed lent same =
        join_to-ext (row_line_by load r.margins (then_some blamed lent)) (row_line blamed load) load.rows
        (λ i l.
        ap₂ (row_line_of (shown i) (row_at load i))
        (ap (λ ms. margin_in ms i) margins-told ∙ margin-read i l)
        (asked-words blamed lent i
        ∙ ap (blame_words blamed) (ap (λ bs. get_or bs i nobody) (same ∙ blames-told) ∙ blame-read i l)))
