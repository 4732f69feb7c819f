-- The start of the row that is chosen keeps what holds at every turn of the run: its slot is the next of the schedule,
-- there is a place for it, and the board with the row looked up anew shows the state after the start.
use Prim.Native.Nat.{ℕ, suc, ◌+◌, ◌-◌, min, ◌≤◌, ◌<◌}
use mathlib.Core.Bool.{true, false}
use mathlib.Core.List.{List, [], ◌∷◌, ◌++◌, append_assoc}
use mathlib.Core.Path.{◌≡◌, ap, ap₂, sym, ◌∙◌, subst}
use native.Mathlib.Omega.{arith}
use lib.ListN.{length, length-append}
use lib.Seq.{get_or_at}
use Rattle.counting.specs.Searches.{at}
use Rattle.std.specs.Prelude.{Ok}
use Rattle.load.specs.declared.Load.{Load}
use Rattle.load.specs.declared.Row.{Row}
use Rattle.load.specs.Load.{most_steps, last_moment, row_at}
use Rattle.load.specs.View.{View, view_of}
use Rattle.load.specs.Check.{check_load}
use Rattle.load.proofs.AcceptableLaws.{check-acceptable}
use Rattle.rules.specs.declared.Slot.{Slot}
use Rattle.rules.specs.State.{State}
use Rattle.rules.specs.Slots.{no_slot, slot_at}
use Rattle.rules.specs.Move.{all_finished, chosen, next_slot, started_full}
use Rattle.rules.specs.Run.{starts, schedule}
use Rattle.rules.proofs.bound.TightBound.{minima}
use Rattle.rules.proofs.invariant.RunnableLaws.{acceptable-runnable}
use Rattle.rules.proofs.invariant.WorkedSince.{worked_since}
use Rattle.rules.proofs.invariant.Setting.{Setting}
use Rattle.rules.proofs.invariant.FullSetting.{full_setting}
use Rattle.rules.proofs.invariant.MoveKeeps.{Accounted}
use Rattle.rules.proofs.run.StretchLaws.{starts-start, chosen-accounted}
use Rattle.bench.specs.declared.Bench.{Bench}
use Rattle.bench.specs.declared.Started.{Started}
use Rattle.bench.specs.Held.{state_of}
use Rattle.plan.specs.Looks.{look_by}
use Rattle.plan.specs.declared.Board.{Board}
use Rattle.plan.specs.Boards.{look_in}
use Rattle.plan.specs.Choices.{opening_in, candidate_in, chosen_in}
use Rattle.plan.specs.declared.Chosen.{Chosen}
use Rattle.plan.specs.Calls.{ChosenRow, NextStart}
use Rattle.bench.specs.inner.Moves.{slot_of, finished_in}
use Rattle.bench.specs.inner.Running.{look_after, CanStart, RowStarted}
use Rattle.bench.specs.inner.Boards.{Renewed, ClassesOf}
use Rattle.bench.proofs.shown.HeldLaws.{bench_started-held}
use Rattle.plan.proofs.SearchLaws.{opening_by-le, candidate-more, candidate-ends, chosen-there, search-row}
use Rattle.bench.proofs.choice.JoinLaws.{finished-same, steps-same, cost-same}
use Rattle.bench.proofs.choice.ChoiceLaws.{chosen-same}
use Rattle.bench.proofs.choice.NextLaws.{finished-is}
use Rattle.bench.proofs.shown.LaterBoards.{bench_over, after-state, shows-started}
use Rattle.bench.proofs.running.RunsLaws.{schedule-most}
use Rattle.bench.proofs.running.RunningLaws.{Running, running-early, running_more, running-on, running-row}

-- none of the numbers by which a row is looked up anew counts as less
pub started-look : (row : Row) (board : Board) (clock i finished end opening : ℕ) → CanStart board clock i
    → finished ≡ (look_in board i).finished + 1 → end ≡ clock + (look_in board i).cost → opening
    ≡ opening_in board clock i
    → look_by row (min finished most_steps) (min end last_moment) (min opening last_moment)
    ≡ look_after row board clock i
started-look row board clock i finished end opening can d e f =
    let look = look_in board i in
    let early : clock ≤ last_moment = omega (arith, can.ends) in
    let small : opening_in board clock i ≤ last_moment =
    opening_by-le look.stays look.opened look.opening clock early in
    let g : min finished most_steps ≡ look.finished + 1 = omega (arith, can.more, d) in
    let h : min end last_moment ≡ clock + look.cost = omega (arith, can.ends, e) in
    let o : min opening last_moment ≡ opening_in board clock i = omega (arith, small, f) in
    ap₂ (λ a b. look_by row a b (min opening last_moment)) g h
    ∙ ap (look_by row (look.finished + 1) (clock + look.cost)) o

module _ (load : Load) (accepted : check_load load ≡ Ok tt) (most : load.rows ≤ 24) (board : Board) (clock count : ℕ)
    (r : Running load board clock count) where
  abbrev L : View
  L = view_of load

  abbrev s : State
  s = state_of r.bench

  full : Setting L L.cost minima worked_since
  full = full_setting L (acceptable-runnable L (check-acceptable load accepted))

  asked : finished_in board load.rows ≡ all_finished L s
  asked = finished-is load r.bench board r.shows r.held most

  -- the start of the row that is chosen
  module _ (nd : finished_in board load.rows ≡ false) (classes : List ℕ)
      (told : ClassesOf load load.rows classes) (i : ℕ) (l : i < load.rows)
      (c : ChosenRow board classes clock load.rows i) where
    early : clock < last_moment
    early = running-early load accepted most board clock count r nd

    found-is : chosen_in board classes clock load.rows ≡ at i
    found-is = search-row board clock load.rows classes most i c l

    candidate : candidate_in board clock load.rows i ≡ true
    candidate = (chosen-there board clock load.rows classes i found-is).1

    chosen_is : chosen L s ≡ at i
    chosen_is =
        sym (chosen-same load r.bench board r.shows classes told most)
        ∙ ap (λ t. chosen_in board classes t load.rows) r.clock-is
        ∙ found-is

    abbrev slot : Slot
    slot = slot_of i (look_in board i).finished clock

    slot_is : slot ≡ next_slot s i
    slot_is =
        ap₂ (slot_of i)
        (finished-same load r.bench board r.shows i l) (sym r.clock-is)

    abbrev going : State
    going = started_full L s i

    goes_on : schedule L ≡ (r.before ++ (slot ∷ [])) ++ starts L (r.moves - 1) going
    goes_on =
        let left : r.moves ≡ suc (r.moves - 1) = omega (arith, r.moves-most, early) in
        r.schedule-is
        ∙ (ap (λ l. r.before ++ l)
        (ap (λ n. starts L n s) left
        ∙ (starts-start L full s r.kept (sym asked ∙ nd) i chosen_is (r.moves - 1)
        ∙ ap (λ x. x ∷ starts L (r.moves - 1) going) (sym slot_is)))
        ∙ sym (append_assoc r.before (slot ∷ []) (starts L (r.moves - 1) going)))

    place-left : count < 192
    place-left =
        omega (
          arith,
          schedule-most load accepted,
          ap length goes_on,
          length-append (r.before ++ (slot ∷ [])) (starts L (r.moves - 1) going),
          length-append r.before (slot ∷ []),
          r.count-is,
        )

    slot-stands : slot_at (schedule L) count ≡ slot
    slot-stands =
        ap (λ l. slot_at l count) (goes_on ∙ append_assoc r.before (slot ∷ []) (starts L (r.moves - 1) going))
        ∙ get_or_at r.before slot (starts L (r.moves - 1) going) no_slot count r.count-is

    more : (look_in board i).finished < min (look_in board i).steps 8
    more = candidate-more (look_in board i) clock _ candidate

    cost-least : 1 ≤ (look_in board i).cost
    unfolding view_of
    cost-least =
        omega (
          arith,
          full.runnable.cost-least i (s.finished i) l
              (omega (
                arith,
                more,
                finished-same load r.bench board r.shows i l,
                steps-same load r.bench board r.shows i l,
              )),
          cost-same load r.bench board r.shows i l,
        )

    running-can : CanStart board clock i
    running-can =
        record {
          place = omega arith;
          more = omega (arith, more);
          ends = candidate-ends (look_in board i) clock _ candidate;
        }

    -- its slot is the next of the schedule, for which there is a place
    running-slot : slot_of i (look_in board i).finished clock ≡ slot_at (schedule L) count
    running-slot = sym slot-stands

    running-place : count < 192
    running-place = place-left

    running-start : (started : Started) (next : Board)
        → RowStarted (row_at load i) board i clock started next → Running load next started.end (count + 1)
    running-start started next done =
        let over : Bench = bench_over r.bench board i in
        let state : state_of over ≡ going = after-state load r.bench board r.shows r.held i l (omega arith) in
        record {
          bench = over;
          held = bench_started-held r.bench r.held i _ _;
          clock-is = ap (λ t. t + (look_in board i).cost) r.clock-is ∙ sym done.end_is;
          shows =
              shows-started load r.bench board r.shows r.held i l (omega arith) next most
              (subst (λ t. Renewed board i (look_after (row_at load i) board t i) next) (sym r.clock-is)
              done.renewed)
              (omega (arith, early, r.clock-is));
          kept =
              subst (Accounted minima worked_since L) (sym state)
              (chosen-accounted L full s r.kept (sym asked ∙ nd) i chosen_is);
          moves = r.moves - 1;
          moves-most = omega (arith, r.moves-most, cost-least, done.end_is);
          before = r.before ++ (slot ∷ []);
          count-is = length-append r.before (slot ∷ []) ∙ ap (λ n. n + 1) r.count-is;
          schedule-is =
              goes_on ∙ ap (λ t. (r.before ++ (slot ∷ [])) ++ starts L (r.moves - 1) t) (sym state);
        }

-- the next start of a run that has fewer slots than the schedule: its row, and what it makes of the run
pub record NextUp (load : Load) (board : Board) (count : ℕ) (next : Chosen) : Type 0 where
  pub row_is : next.row < load.rows
  pub can : CanStart board next.moment next.row
  pub room : count < 192
  pub slot_is : slot_of next.row (look_in board next.row).finished next.moment
      ≡ slot_at (schedule (view_of load)) count
  pub on : (started : Started) (after : Board)
      → RowStarted (row_at load next.row) board next.row next.moment started after
      → Running load after started.end (count + 1)

pub next_up : (load : Load) → check_load load ≡ Ok tt → load.rows ≤ 24 → (board : Board) (clock count : ℕ)
    → Running load board clock count → count < length (schedule (view_of load)) → (classes : List ℕ)
    → ClassesOf load load.rows classes → (next : Chosen) → NextStart board classes clock load.rows next
    → NextUp load board count next
next_up load accepted most board clock count r less classes told next n =
    let nd = running_more load accepted most board clock count r less in
    let on = running-on load accepted most board clock count r nd classes told next n in
    let row = running-row load accepted most board clock count r nd classes told next n in
    record {
      row_is = row;
      can = running-can load accepted most board next.moment count on nd classes told next.row row n.1;
      room = running-place load accepted most board next.moment count on nd classes told next.row row n.1;
      slot_is = running-slot load accepted most board next.moment count on nd classes told next.row row n.1;
      on = running-start load accepted most board next.moment count on nd classes told next.row row n.1;
    }
