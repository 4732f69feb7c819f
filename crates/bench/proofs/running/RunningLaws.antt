-- What holds at every turn of the run: the board shows a state of the run, the slots so far are the first of the
-- schedule, and the starts of the moves that are left are its other slots. It holds at first, and at the next start,
-- before which nothing is chosen.
use Prim.Native.Nat.{ℕ, ◌+◌, ◌-◌, min, ◌≤◌, ◌<◌}
use mathlib.Core.Bool.{Bool, true, false}
use mathlib.Core.List.{List, [], ◌++◌, append-nil}
use mathlib.Core.Path.{◌≡◌, refl, ap, ap₂, sym, ◌∙◌, subst}
use native.Mathlib.Decide.{dec_lt}
use native.Mathlib.Omega.{arith}
use lib.ListN.{length}
use Rattle.counting.specs.Sums.{sum_to}
use Rattle.counting.specs.Lists.{member_at, filled}
use Rattle.counting.specs.Searches.{none, is_found}
use Rattle.counting.proofs.sums.SumLaws.{sum_to-ext}
use Rattle.counting.proofs.tests.TestLaws.{true-false}
use Rattle.counting.proofs.searches.FirstToLaws.{first_to-first}
use Rattle.std.specs.Prelude.{Ok}
use Rattle.load.specs.declared.Load.{Load}
use Rattle.load.specs.Load.{most_rows, last_moment}
use Rattle.load.specs.View.{View, view_of}
use Rattle.load.specs.Check.{check_load}
use Rattle.load.proofs.AcceptableLaws.{check-acceptable}
use Rattle.rules.specs.declared.Slot.{Slot}
use Rattle.rules.specs.State.{State, fresh, shaped}
use Rattle.rules.specs.Slots.{no_slot, slot_places, slot_at}
use Rattle.rules.specs.Move.{all_finished, chosen}
use Rattle.rules.specs.Run.{starts, enough_moves, schedule_by, schedule}
use Rattle.rules.proofs.bound.TightBound.{minima}
use Rattle.rules.proofs.invariant.RunnableLaws.{acceptable-runnable}
use Rattle.rules.proofs.invariant.WorkedSince.{worked_since}
use Rattle.rules.proofs.invariant.Setting.{Setting}
use Rattle.rules.proofs.invariant.FullSetting.{full_setting}
use Rattle.rules.proofs.invariant.MoveKeeps.{Accounted, fresh-accounted, accounted-time, accounted-shaped}
use Rattle.rules.proofs.run.StretchLaws.{Quiet, starts-done, quiet-accounted, quiet-starts}
use Rattle.bench.specs.declared.Bench.{Bench}
use Rattle.plan.specs.declared.Board.{Board}
use Rattle.bench.specs.Held.{state_of, bench_of, HeldBench, bench_at}
use Rattle.bench.specs.inner.Boards.{Shows, ClassesOf}
use Rattle.plan.specs.declared.Chosen.{Chosen}
use Rattle.plan.specs.Choices.{chosen_in, next_moment}
use Rattle.plan.specs.Calls.{NextStart}
use Rattle.bench.specs.inner.Moves.{finished_in}
use Rattle.bench.specs.Runs.{ran_with}
use Rattle.bench.proofs.shown.HeldLaws.{bench_of-held, fresh-state, bench_at-held}
use Rattle.plan.proofs.SearchLaws.{search-none}
use Rattle.plan.proofs.NextLaws.{QuietBefore, next_moment-quiet}
use Rattle.bench.proofs.choice.JoinLaws.{rows_are, steps-same}
use Rattle.bench.proofs.choice.ChoiceLaws.{chosen-same}
use Rattle.bench.proofs.choice.NextLaws.{finished-is}
use Rattle.bench.proofs.shown.LaterBoards.{shows-at}
use Rattle.bench.proofs.running.RunsLaws.{schedule-counted}

-- the run at a turn: its bench is in no place of memory
pub record Running (load : Load) (board : Board) (clock count : ℕ) : Type 0 where
  pub bench : Bench
  pub held : HeldBench bench
  pub clock-is : bench.clock ≡ clock
  pub shows : Shows load bench board
  pub kept : Accounted minima worked_since (view_of load) (state_of bench)
  -- the moves that are left, more than the clock can go on
  pub moves : ℕ
  pub moves-most : last_moment < clock + moves
  -- the slots so far, and the starts of those moves
  pub before : List Slot
  pub count-is : length before ≡ count
  pub schedule-is : schedule (view_of load) ≡ before ++ starts (view_of load) moves (state_of bench)

module _ (load : Load) (accepted : check_load load ≡ Ok tt) (most : load.rows ≤ 24) where
  abbrev L : View
  L = view_of load

  full : Setting L L.cost minima worked_since
  full = full_setting L (acceptable-runnable L (check-acceptable load accepted))

  fresh_kept : Accounted minima worked_since L fresh
  fresh_kept = fresh-accounted minima worked_since L full.runnable

  pub fresh-shaped : shaped L (state_of (bench_of fresh)) ≡ true
  fresh-shaped = rw fresh-state (accounted-shaped L fresh full fresh_kept)

  -- a board that shows the load has as many steps as the schedule has slots
  pub steps-counted : (bench : Bench) (board : Board) → Shows load bench board
      → sum_to (member_at board.steps) load.rows ≡ length (schedule L)
  steps-counted bench board shows =
      sum_to-ext (member_at board.steps) L.steps load.rows (steps-same load bench board shows)
      ∙ ap (sum_to L.steps) (sym (rows_are load bench board shows))
      ∙ sym (schedule-counted load accepted)

  -- before the first move
  pub running-fresh : (bench : Bench) (board : Board) → bench ≡ bench_of fresh → Shows load bench board
      → Running load board 0 0
  unfolding schedule_by fresh bench_of
  running-fresh bench board begun shows =
      record {
        bench = bench_of fresh;
        held = bench_of-held fresh;
        clock-is = refl;
        shows = subst (λ (b : Bench). Shows load b board) begun shows;
        kept = subst (Accounted minima worked_since L) (sym fresh-state) fresh_kept;
        moves = enough_moves;
        moves-most = omega arith;
        before = [];
        count-is = refl;
        schedule-is = ap (starts L enough_moves) (sym fresh-state);
      }

  -- after the last
  pub running-done : (steps k : ℕ) (slots : List Slot) → k ≡ steps → steps ≡ length (schedule L)
      → slots ≡ filled (slot_at (schedule L)) k slot_places no_slot
      → record { count = steps; slots = slots } ≡ ran_with (schedule L)
  running-done steps k slots e counted made =
      ap₂ (λ n l. record { count = n; slots = l }) counted
      (made ∙ ap (λ n. filled (slot_at (schedule L)) n slot_places no_slot) (e ∙ counted))

  module _ (board : Board) (clock count : ℕ) (r : Running load board clock count) where
    abbrev s : State
    s = state_of r.bench

    asked : finished_in board load.rows ≡ all_finished L s
    asked = finished-is load r.bench board r.shows r.held most

    -- with work left the clock is before the last moment
    pub running-early : finished_in board load.rows ≡ false → clock < last_moment
    running-early nd = omega (arith, accounted-time L s full r.kept (sym asked ∙ nd), r.clock-is)

    -- while the schedule has more slots, work is left
    pub running_more : count < length (schedule L) → finished_in board load.rows ≡ false
    running_more h = go (finished_in board load.rows) refl
      where
        go : (b : Bool) → finished_in board load.rows ≡ b → b ≡ false
        go false e = refl
        go true e =
            let whole : schedule L ≡ r.before =
            r.schedule-is
            ∙ (ap (λ l. r.before ++ l) (starts-done L full r.moves s r.kept (sym asked ∙ e))
            ∙ append-nil r.before) in
            absurd (omega (arith, ap length whole, r.count-is))

    -- a stretch of ticks at which nothing is chosen
    pub running-idle : finished_in board load.rows ≡ false → (k : ℕ) → k ≤ last_moment - clock → Quiet L s k
        → Running load board (clock + k) count
    running-idle nd k h q =
        let left : r.moves ≡ r.moves - k + k = omega (arith, r.moves-most) in
        let pause : all_finished L s ≡ false = sym asked ∙ nd in
        record {
          bench = bench_at r.bench (r.bench.clock + k);
          held = bench_at-held r.bench r.held (r.bench.clock + k);
          clock-is = ap (λ t. t + k) r.clock-is;
          shows = shows-at load r.bench board r.shows (r.bench.clock + k);
          kept = quiet-accounted L full s r.kept pause k q;
          moves = r.moves - k;
          moves-most = omega (arith, r.moves-most);
          before = r.before;
          count-is = r.count-is;
          schedule-is =
              r.schedule-is
              ∙ ap (λ l. r.before ++ l)
              (ap (λ n. starts L n s) left ∙ quiet-starts L full s r.kept pause k (r.moves - k) q);
        }

    -- to the next start
    module _ (nd : finished_in board load.rows ≡ false) (classes : List ℕ)
        (told : ClassesOf load load.rows classes) (next : Chosen)
        (n : NextStart board classes clock load.rows next) where
      moment-is : next.moment ≡ next_moment board classes clock load.rows
      moment-is =
          let e : min load.rows most_rows ≡ load.rows = omega arith in
          subst (λ rows. next.moment ≡ next_moment board classes clock rows) e n.0

      before-next : QuietBefore board classes clock load.rows next.moment
      before-next =
          subst (QuietBefore board classes clock load.rows) (sym moment-is)
          (next_moment-quiet board classes clock load.rows)

      pub running-on : Running load board next.moment count
      running-on =
          subst (λ m. Running load board m count) on
          (running-idle nd (next.moment - clock) (omega (arith, before-next.most, running-early nd)) quiet)
        where
          on : clock + (next.moment - clock) ≡ next.moment
          on = omega (arith, before-next.from)

          none-at : (m : ℕ) → clock ≤ m → m < next.moment → chosen L (state_of (bench_at r.bench m)) ≡ none
          none-at m a b =
              sym
              (chosen-same load (bench_at r.bench m) board (shows-at load r.bench board r.shows m) classes told
              most)
              ∙ before-next.none_before m a b

          quiet : Quiet L s (next.moment - clock)
          quiet d l = none-at (r.bench.clock + d) (omega (arith, r.clock-is)) (omega (arith, r.clock-is))

-- with work left there is a next start: else the clock would go on to the last moment
module _ (load : Load) (accepted : check_load load ≡ Ok tt) (most : load.rows ≤ 24) (board : Board) (clock count : ℕ)
    (r : Running load board clock count) (nd : finished_in board load.rows ≡ false) (classes : List ℕ)
    (told : ClassesOf load load.rows classes) (next : Chosen) (n : NextStart board classes clock load.rows next)
  where
    early : next.moment < last_moment
    early =
        running-early load accepted most board next.moment count
        (running-on load accepted most board clock count r nd classes told next n) nd

    starts-then : is_found (chosen_in board classes next.moment load.rows) ≡ true
    starts-then =
        let e = moment-is load accepted most board clock count r nd classes told next n in
        let first = first_to-first (λ d. is_found (chosen_in board classes (clock + d) load.rows))
        (last_moment - clock) in
        subst (λ m. is_found (chosen_in board classes m load.rows) ≡ true) (sym e)
        (first.has (omega (arith, early, e)))

    pub running-row : next.row < load.rows
    running-row =
        elim (dec_lt next.row load.rows) [
          | yes l ↦ l
          | no l ↦
              absurd
              (true-false _ starts-then
              (ap is_found
              (search-none board next.moment load.rows classes most next.row n.1 (omega arith))))
        ]
