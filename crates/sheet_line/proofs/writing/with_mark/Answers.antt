-- `sheet_line::writing::with_mark` looks at one window a turn: those before it do not have the step, and the first
-- that has it decides.
use Prim.Native.Nat.{◌<◌}
use mathlib.Core.Bool.{true, false}
use mathlib.Core.Path.{◌≡◌, ap, sym, ◌∙◌}
use native.Mathlib.Omega.{arith}
use borrow.Author.Rules.{rules}
use lib.ListN.{length, take, get_or}
use Rattle.load.specs.declared.Window.{Window}
use Rattle.load.specs.Load.{shown, no_window}
use Rattle.load.specs.View.{row_windows, in_window}
use Rattle.sheet_line.specs.declared.Mark.TheVariants.{Nothing}
use Rattle.sheet_line.specs.LineText.{mark_among, mark_bytes}
use Rattle.sheet_line.specs.inner.Behind.{behind}
use Rattle.sheet_line.proofs.TextLaws.{behind-none}
use Rattle.sheet_line.proofs.MarkLaws.{mark_in, windows-taken, among-here, among_next, among_none}
use Rattle.sheet_line.proofs.writing.with_mark.Goals as goal
use Rattle.sheet_line.proofs.writing.with_mark.Goals.{At-loop-window, In-loop-window}

-- the windows that are looked at are the row's
all : (c : At-loop-window) → take c.min-used.result c.args.row.window ≡ row_windows c.args.row
all c =
    let places : length c.args.row.window ≡ 4 = search rules in
    windows-taken c.args.row c.min-used.result (omega (arith, c.min-used.ensures, c.from.ensures))

-- so each stands among them
module _ (c : In-loop-window) where
  abbrev window : Window
  window = get_or (row_windows c.args.row) c.loop-window.window-index no_window

  read : get_or (take c.min-used.result c.args.row.window) c.loop-window.window-index no_window ≡ window
  read = ap (λ ws. get_or ws c.loop-window.window-index no_window) (all c.before)

  within : c.loop-window.window-index < length (row_windows c.args.row)
  within = omega (arith, ap length (all c.before))

pub returns-then-is_within : goal.returns-then-is_within
returns-then-is_within c =
    let turn = (goal.at.returns-then-is_within c).In-loop-window in
    let start = c.args in
    let has : in_window (shown start.j) (window turn) ≡ true =
    ap (in_window (shown start.j)) (sym (read turn)) ∙ sym c.is_within.ensures.says ∙ c.if-is_within.true in
    let e : mark_among start.j (row_windows start.row) ≡ mark_in start.j (window turn) =
    c.loop-window.invariant
    ∙ among-here start.j (row_windows start.row) c.loop-window.window-index no_window (within turn) has in
    let m = ap (mark_in start.j) (read turn) ∙ sym e in
    record {
      is = c.with_mark_in.ensures.is ∙ ap (λ m. behind start.text (mark_bytes m)) m;
      few = rw (sym m) c.with_mark_in.ensures.few;
    }

pub loop-window-preserved : goal.loop-window-preserved
loop-window-preserved c =
    let turn = (goal.at.loop-window-preserved c).In-loop-window in
    let start = c.args in
    let out : in_window (shown start.j) (window turn) ≡ false =
    ap (in_window (shown start.j)) (sym (read turn)) ∙ sym c.is_within.ensures.says ∙ c.if-is_within.false in
    c.loop-window.invariant
    ∙ among_next start.j (row_windows start.row) c.loop-window.window-index no_window (within turn) out

pub returns : goal.returns
unfolding mark_bytes
returns c =
    let start = c.args in
    let turn = (goal.at.returns c).At-loop-window in
    let e : mark_among start.j (row_windows start.row) ≡ Nothing =
    c.loop-window.invariant
    ∙ among_none start.j (row_windows start.row) c.loop-window.window-index (omega (arith, ap length (all turn))) in
    record {
      is = sym (ap (λ m. behind start.text (mark_bytes m)) e ∙ behind-none start.text);
      few = rw e (omega arith);
    }
