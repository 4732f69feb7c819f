-- `windows` stores a window at each line with a limit: before turn j the windows that begin before line j are
-- stored, and zeros behind them. A row of at most eight lines has at most four windows, for each has two steps or more.
use Rattle.std.proofs.Common.{◌≡◌, ◌+◌, ◌-◌, ◌<◌, ◌∙◌, ap, ap₂, arith, false, length, List, ℕ, refl, replicate, sym}
use Rattle.load.specs.Load.{most_windows, shown}
use Rattle.load_file.proofs.faults.PartLaws.{window-none}
use Rattle.sheet_line.specs.declared.Mark.{Mark}
use Rattle.sheet_line.specs.declared.Mark.TheVariants.{Nothing, Dash, Limit}
use Rattle.sheet.specs.Lines.{line_place, line_from}
use Rattle.sheet.specs.LineFaults.{is_limit}
use Rattle.sheet.specs.SheetRows.{window_places}
use Rattle.sheet.specs.inner.Narrow.{narrow_window}
use Rattle.sheet.specs.inner.Walk.{dashes_from}
use Rattle.sheet.proofs.trip.PlaceLaws.{line_place-zero}
use Rattle.sheet.proofs.walk.ReadLaws.{line-stands, line-says, line-next}
use Rattle.sheet.proofs.walk.WindowWalk.{dashes_from-le, lines-behind, windows_to, windows_to-zero, windows_to-all}
use Rattle.sheet.proofs.walk.WindowWalk.{windows_to-none, windows_to-le, windows_to-lt, window_from, stored}
use Rattle.sheet.proofs.row_parts.SheetRow.windows.Goals as goal
use Rattle.sheet.proofs.row_parts.SheetRow.windows.Goals.{After-line_there-read, in-Limit, in_default}

pub loop-j-init : goal.loop-j-init
loop-j-init c =
    let start = c.args.self.now in
    let none = windows_to-zero start.bytes.now start.at start.count in
    record {
      place = sym (line_place-zero start.bytes.now start.at);
      count = rw none;
      windows = rw none (ap (replicate most_windows) (window-none _ c.default-window.ensures));
    }

pub line_there-read-requires : goal.line_there-read-requires
line_there-read-requires c = line-stands c.args.self.now.lines_stand (omega arith) c.loop-j.invariant.place

-- the line of the turn
module _ (c : After-line_there-read) where
  abbrev bs : List ℕ
  bs = c.args.self.now.bytes.now

  abbrev from : ℕ
  from = c.args.self.now.at

  abbrev count : ℕ
  count = c.args.self.now.count

  abbrev j : ℕ
  j = c.loop-j.j

  says : c.line_there-read.result.line ≡ line_from bs from j
  says = line-says bs from j c.loop-j.invariant.place c.line_there-read.ensures

  next : c.line_there-read.result.next ≡ line_place bs from (j + 1)
  next = line-next bs from j c.loop-j.invariant.place c.line_there-read.ensures

  -- where it has a limit, there is a place for its window
  module _ (limit : ℕ) (is : c.line_there-read.result.line.mark ≡ Limit limit) where
    marked : (line_from bs from j).mark ≡ Limit limit
    marked = ap (λ line. line.mark) (sym says) ∙ is

    few : length (windows_to bs from count j) < most_windows
    few =
        windows_to-lt bs from count c.args.self.now.marked c.args.self.now.count_most j limit c.loop-j-test.true marked

    room : c.loop-j.stored < most_windows
    room = omega (arith, few, c.loop-j.invariant.count)

-- a mark that is no limit
no-limit : (mark : Mark) → ((limit : ℕ) → mark ≡ Limit limit → ⊥) → is_limit mark ≡ false
no-limit Nothing other = refl
no-limit Dash other = refl
no-limit (Limit limit) other = absurd (other limit refl)

pub dashes_from-behind-requires : goal.dashes_from-behind-requires
dashes_from-behind-requires c =
    let here = (goal.at.dashes_from-behind-requires c).After-line_there-read in
    lines-behind (bs here) (from here) (count here) (j here + 1) _ c.args.self.now.lines_stand (next here)

pub window_of-requires : goal.window_of-requires
window_of-requires c =
    let here = (goal.at.window_of-requires c).After-line_there-read in
    let most = dashes_from-le (bs here) c.line_there-read.result.next (count here - (j here + 1)) in
    omega (arith, c.dashes_from-behind.ensures, c.args.self.now.count_most)

pub offset_bounds-window-stored : goal.offset_bounds-window-stored
offset_bounds-window-stored c =
    omega (arith, room (goal.at.offset_bounds-window-stored c).After-line_there-read _ c.in-Limit.is)

pub bounds-window-stored : goal.bounds-window-stored
bounds-window-stored c =
    omega (arith, room (goal.at.bounds-window-stored c).After-line_there-read _ c.in-Limit.is)

pub overflow_add-stored : goal.overflow_add-stored
overflow_add-stored c =
    omega (arith, room (goal.at.overflow_add-stored c).After-line_there-read _ c.in-Limit.is)

pub loop-j-preserved : goal.loop-j-preserved
loop-j-preserved c =
    let met = (goal.at.loop-j-preserved c).After-line_there-read in
    let inv = c.loop-j.invariant in
    elim c.match-read.branch [
      | in-Limit w ↦
          let limit = w.in-Limit.limit in
          let is-window : w.window_of.result ≡ window_from (bs met) (from met) (count met) (j met) limit =
          w.window_of.ensures
          ∙ ap (λ behind. narrow_window (record {
            first = shown (j met);
            last = shown (j met) + behind;
            limit = limit;
          }))
          (w.dashes_from-behind.ensures ∙ ap (λ at. dashes_from (bs met) at (count met - (j met + 1))) (next met)) in
          let more =
          stored (bs met) (from met) (count met) (j met) limit (few met limit w.in-Limit.is)
          (marked met limit w.in-Limit.is) inv.count inv.windows is-window in
          record { place = next met; count = w.stored-is ∙ more.0; windows = w.window-is ∙ more.1 }
      | in_default w ↦
          let other = no-limit _ w.in_default.not-Limit in
          let none = ap (λ line. is_limit line.mark) (sym (says met)) ∙ other in
          let same = sym (windows_to-none (bs met) (from met) (count met) (j met) none) in
          record {
            place = next met;
            count = w.stored-is ∙ inv.count ∙ ap length same;
            windows = w.window-is ∙ inv.windows ∙ ap window_places same;
          }
    ]

pub overflow_cast-result : goal.overflow_cast-result
overflow_cast-result c =
    let args = c.args.self.now in
    let most = windows_to-le args.bytes.now args.at args.count args.marked args.count_most c.loop-j.j in
    omega (arith, most (omega arith), c.loop-j.invariant.count)

pub returns : goal.returns
returns c =
    let args = c.args.self.now in
    let all = windows_to-all args.bytes.now args.at args.count c.loop-j.j (omega arith) in
    ap₂ (λ count window. record { count = count; window = window }) (c.loop-j.invariant.count ∙ ap length all)
    (c.loop-j.invariant.windows ∙ ap window_places all)
