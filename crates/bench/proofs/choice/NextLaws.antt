-- What the code hands back, over a board that shows the load and the bench, is the move of the rules in memory: Done, a
-- refusal, Idle, or the start of the row that is chosen.
use Prim.Native.Nat.{ℕ, ◌+◌, ◌*◌, ◌^◌, ◌≤◌, ◌<◌}
use mathlib.Core.Bool.{Bool, true, false}
use mathlib.Core.List.{List}
use mathlib.Core.Path.{◌≡◌, ap, ap₂, sym, ◌∙◌}
use native.Mathlib.Decide.{dec_lt}
use native.Mathlib.Omega.{arith}
use lib.Dec.{leb}
use lib.ListN.{set}
use Rattle.counting.specs.Sums.{all_to, bit, count_to}
use Rattle.counting.specs.Lists.{member_at, is_marked}
use Rattle.counting.specs.Searches.{at, none}
use Rattle.counting.proofs.sums.SumLaws.{sum_to-ext}
use Rattle.counting.proofs.tests.TestLaws.{all_to-ext}
use Rattle.refusals.specs.declared.Refusal.{Refusal}
use Rattle.refusals.specs.declared.Refusal.TheVariants.{StateShape, ClockFull}
use Rattle.std.specs.Prelude.{Ok, Err}
use Rattle.words.specs.LampWord.{word_of}
use Rattle.load.specs.declared.Load.{Load}
use Rattle.load.specs.Load.{last_moment}
use Rattle.load.specs.Check.{check_load}
use Rattle.load.specs.View.{View, view_of}
use Rattle.rules.specs.declared.Slot.{Slot}
use Rattle.rules.specs.declared.Outcome.{Outcome}
use Rattle.rules.specs.declared.Outcome.TheVariants.{Start, Idle, Done}
use Rattle.rules.specs.State.{State, is_open, shaped}
use Rattle.rules.specs.Lamps.{lamp_word, lamp_count}
use Rattle.rules.specs.Move.{started_full, ticked, all_finished, chosen, next_slot, start_or_idle_by, move}
use Rattle.rules.proofs.moves.MoveLaws.{move-unshaped, move-done, move-full, move-goes}
use Rattle.bench.specs.declared.Bench.{Bench}
use Rattle.bench.specs.declared.Moved.{Moved}
use Rattle.bench.specs.Held.{state_of, bench_of, HeldBench, bench_at, handed_on, refused_with, next_move}
use Rattle.plan.specs.declared.Look.{Look}
use Rattle.plan.specs.declared.Board.{Board}
use Rattle.plan.specs.Boards.{look_in}
use Rattle.bench.specs.inner.Boards.{Shows, ClassesOf}
use Rattle.plan.specs.Choices.{opening_by, opening_in, open_after, chosen_in}
use Rattle.plan.specs.Calls.{ChosenRow}
use Rattle.bench.specs.inner.Moves.{bench_started, slot_of, finished_in, handed_with, started_in, Stepped}
use Rattle.plan.proofs.SearchLaws.{candidate-more, chosen-there, search-row, search-none}
use Rattle.bench.proofs.shown.HeldLaws.{bench_of-state_of, ticked-is, bench_started-is}
use Rattle.bench.proofs.choice.JoinLaws.{rows_are, finished-same, steps-same, cost-same, opened-same}
use Rattle.bench.proofs.choice.ChoiceLaws.{opening-after, open_after-is, chosen-same}

-- a load that is accepted, and one that is refused
pub next_move-good : (load : Load) (bench : Bench) → check_load load ≡ Ok tt
    → next_move load bench ≡ handed_on bench (move (view_of load) (state_of bench))
unfolding next_move
next_move-good load bench e = rw (e, next_move)

pub next_move-refused : (load : Load) (bench : Bench) (refusal : Refusal) → check_load load ≡ Err refusal
    → next_move load bench ≡ refused_with bench refusal
unfolding next_move
next_move-refused load bench refusal e = rw (e, next_move)

-- the lamps of a state, where a list of tests agrees with its open windows
module _ (L : View) (s : State) (rows : ℕ) (rows-are' : L.rows ≡ rows) (lit : List Bool)
    (opens : (k : ℕ) → k < rows → is_marked lit k ≡ is_open L s k) where
  word-is : lamp_word L s ≡ word_of (is_marked lit) rows
  unfolding lamp_word
  word-is =
      ap (word_of (is_open L s)) rows-are'
      ∙ sym
      (sum_to-ext (λ i. bit (is_marked lit i) * 2 ^ i) (λ i. bit (is_open L s i) * 2 ^ i) rows
      (λ i l. ap (λ b. bit b * 2 ^ i) (opens i l)))

  count-is : lamp_count L s ≡ count_to (is_marked lit) rows
  unfolding lamp_count
  count-is =
      ap (count_to (is_open L s)) rows-are'
      ∙ sym (sum_to-ext (λ i. bit (is_marked lit i)) (λ i. bit (is_open L s i)) rows (λ i l. ap bit (opens i l)))

-- the refusals of a move, 10 and 11
pub unshaped-move : (bench : Bench) (L : View) → shaped L (state_of bench) ≡ false
    → handed_on bench (move L (state_of bench)) ≡ refused_with bench StateShape
unshaped-move bench L e = ap (handed_on bench) (move-unshaped L.cost L (state_of bench) e)

pub full-move : (bench : Bench) (L : View) → shaped L (state_of bench) ≡ true → all_finished L (state_of bench) ≡ false
    → last_moment ≤ bench.clock → handed_on bench (move L (state_of bench)) ≡ refused_with bench ClockFull
full-move bench L e d h = ap (handed_on bench) (move-full L.cost L (state_of bench) e d h)

-- what is handed back, from its parts
abbrev moved_by : Outcome → Bench → ℕ → ℕ → Moved
moved_by outcome bench word count = record { bench = bench; outcome = outcome; lamps = word; count = count }

pub moved_by-ext : (outcome : Outcome) (bench bench' : Bench) (word word' count count' : ℕ) → bench ≡ bench'
    → word ≡ word' → count ≡ count' → moved_by outcome bench word count ≡ moved_by outcome bench' word' count'
moved_by-ext outcome bench bench' word word' count count' e f g = rw (e, f, g)

module _ (load : Load) (bench : Bench) (board : Board) (shows : Shows load bench board) (size : HeldBench bench)
    (most : load.rows ≤ 24) where
  abbrev L : View
  L = view_of load

  abbrev s : State
  s = state_of bench

  pub finished-is : finished_in board load.rows ≡ all_finished L s
  unfolding all_finished
  finished-is =
      all_to-ext (λ i. leb (look_in board i).steps (look_in board i).finished) (λ i. leb (L.steps i) (s.finished i))
      load.rows
      (λ i l. ap₂ leb (steps-same load bench board shows i l) (finished-same load bench board shows i l))
      ∙ ap (all_to (λ i. leb (L.steps i) (s.finished i))) (sym (rows_are load bench board shows))

  pub done-move : shaped L s ≡ true → all_finished L s ≡ true
      → handed_on bench (move L s) ≡ handed_with bench Done board.opened load.rows
  done-move e d =
      ap (handed_on bench) (move-done L.cost L s e d)
      ∙ moved_by-ext Done (bench_of s) bench _ _ _ _ (bench_of-state_of bench size)
      (word-is L s load.rows (rows_are load bench board shows) board.opened (opened-same load bench board shows))
      (count-is L s load.rows (rows_are load bench board shows) board.opened (opened-same load bench board shows))

  open-ticked : (k : ℕ) → k < load.rows → is_marked board.opened k ≡ is_open L (ticked s) k
  unfolding ticked
  open-ticked = opened-same load bench board shows

  -- the next step of the row that the search gives is there
  pub chosen-next : (classes : List ℕ) (i : ℕ) → ChosenRow board classes bench.clock load.rows i → i < load.rows
      → ((look_in board i).finished < 8) × (member_at bench.finished i < 8)
  chosen-next classes i c l =
      let found = search-row board bench.clock load.rows classes most i c l in
      let more = candidate-more (look_in board i) bench.clock _
      (chosen-there board bench.clock load.rows classes i found).1 in
      (omega (arith, more), omega (arith, more, finished-same load bench board shows i l))

  module _ (e : shaped L s ≡ true) (d : all_finished L s ≡ false) (h : bench.clock < last_moment) where
    idle-move : chosen L s ≡ none
        → handed_on bench (move L s) ≡ handed_with (bench_at bench (bench.clock + 1)) Idle board.opened load.rows
    idle-move q =
        ap (handed_on bench) (move-goes L.cost L s e d h ∙ ap (start_or_idle_by L.cost L s) q)
        ∙ moved_by-ext Idle (bench_of (ticked s)) (bench_at bench (bench.clock + 1)) _ _ _ _
        (sym (ticked-is bench size))
        (word-is L (ticked s) load.rows (rows_are load bench board shows) board.opened open-ticked)
        (count-is L (ticked s) load.rows (rows_are load bench board shows) board.opened open-ticked)

    start_move : (i : ℕ) → i < load.rows → chosen L s ≡ at i
        → handed_on bench (move L s) ≡ started_in bench board load.rows i
    unfolding started_in
    start_move i l q =
        ap (handed_on bench) (move-goes L.cost L s e d h ∙ ap (start_or_idle_by L.cost L s) q)
        ∙ moved_by-ext (Start (next_slot s i)) (bench_of after)
        (bench_started bench i (look_in board i).cost opening) _ _ _ _ bench-is
        (word-is L after load.rows (rows_are load bench board shows) lit lit-are)
        (count-is L after load.rows (rows_are load bench board shows) lit lit-are)
        ∙ ap (λ f. handed_with (bench_started bench i (look_in board i).cost opening)
        (Start (slot_of i f bench.clock)) lit load.rows)
        (sym (finished-same load bench board shows i l))
      where
        after : State
        after = started_full L s i

        opening : ℕ
        opening = opening_in board bench.clock i

        lit : List Bool
        lit = open_after board i

        bench-is : bench_of after ≡ bench_started bench i (look_in board i).cost opening
        bench-is =
            sym (bench_started-is bench size L i (L.cost i (s.finished i)) (omega arith))
            ∙ sym
            (ap₂ (bench_started bench i) (cost-same load bench board shows i l)
            (opening-after load bench board shows i l))

        lit-are : (k : ℕ) → k < load.rows → is_marked lit k ≡ is_open L after k
        lit-are = open_after-is load bench board shows i l most

    pub stepped-move : (classes : List ℕ) → ClassesOf load load.rows classes → (moved : Moved)
        → Stepped bench board classes load.rows moved → moved ≡ handed_on bench (move L s)
    stepped-move classes told moved t =
        elim (dec_lt t.row load.rows) [
          | yes l ↦
              t.starts l
              ∙ sym
              (start_move t.row l
              (sym same ∙ search-row board bench.clock load.rows classes most t.row t.chosen l))
          | no l ↦
              t.idles (omega arith)
              ∙ sym
              (idle-move
              (sym same
              ∙ search-none board bench.clock load.rows classes most t.row t.chosen (omega arith)))
        ]
      where
        same : chosen_in board classes bench.clock load.rows ≡ chosen L s
        same = chosen-same load bench board shows classes told most

-- what is handed back of a start, by what was looked up of its row
pub handed-start : (bench next : Bench) (board : Board) (lit : List Bool) (rows i opening : ℕ) (look : Look)
    (slot : Slot) (moved : Moved) → look ≡ look_in board i
    → opening ≡ opening_by look.stays look.opened look.opening bench.clock
    → lit ≡ set board.opened i look.stays → slot ≡ slot_of i look.finished bench.clock
    → next ≡ bench_started bench i look.cost opening → moved ≡ handed_with next (Start slot) lit rows
    → moved ≡ started_in bench board rows i
unfolding started_in
handed-start bench next board lit rows i opening look slot moved looked opens lights slots begins e =
    e ∙ rw (begins, slots, lights, opens, looked)
