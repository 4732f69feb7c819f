-- A board that shows a load and its bench has the candidates of the rules, and its plan of a candidate is the rules'
-- plan at the candidate's end: so what the search chooses is what the rules choose.
use Prim.Native.Nat.{ℕ, suc, ◌+◌, ◌-◌, min, ◌≤◌, ◌<◌}
use mathlib.Core.Bool.{false}
use mathlib.Core.List.{List}
use mathlib.Core.Path.{◌≡◌, ap, ap₂, sym, ◌∙◌}
use native.Mathlib.Omega.{arith}
use lib.Dec.{leb}
use lib.ListN.{set}
use Rattle.counting.specs.Sums.{all_to}
use Rattle.counting.specs.Lists.{numbers_where, member_at, is_marked}
use Rattle.counting.specs.Searches.{found}
use Rattle.counting.specs.Sorting.{sorted, by_keys}
use Rattle.counting.proofs.tests.TestLaws.{all_to-ext}
use Rattle.counting.proofs.sorting.SortLaws.{Every-sorted}
use Rattle.counting.proofs.sorting.KeysLaws.{sorted-same-by}
use Rattle.counting.proofs.lists.EveryLaws.{every-numbers_where, found-ext}
use Rattle.load.specs.declared.Load.{Load}
use Rattle.load.specs.Load.{most_steps, last_moment, most_class}
use Rattle.load.specs.View.{View, view_of, embedded, opens_at}
use Rattle.load.proofs.WindowLaws.{opens_at-embedded}
use Rattle.load.proofs.WindowLeft.{limit_at}
use Rattle.rules.specs.State.{State, is_open}
use Rattle.rules.specs.Ready.{released, is_allowed, is_candidate, classes_above, candidates, finished_below}
use Rattle.rules.specs.Plan.{plan_by, due, window_left}
use Rattle.rules.specs.Move.{started_full, passes, chosen, opening_after}
use Rattle.rules.proofs.moves.MoveLaws.{started-clock, started-finished-same}
use Rattle.rules.proofs.plan.StackLaws.{
  window_left-is,
  is_open-other,
  job-other,
  released-same,
  window_left-same,
  due-same,
}
use Rattle.bench.specs.declared.Bench.{Bench}
use Rattle.bench.specs.Held.{state_of}
use Rattle.plan.specs.Looks.{further}
use Rattle.plan.specs.declared.Board.{Board}
use Rattle.plan.specs.Boards.{look_in}
use Rattle.bench.specs.inner.Boards.{Wide, Shows, ClassesOf}
use Rattle.plan.specs.Choices.{below_in, candidate_in, opening_in, open_after, jobs_in, passes_in, turn_in, chosen_in}
use Rattle.plan.proofs.StoreLaws.{stored}
use Rattle.bench.proofs.choice.JoinLaws.{
  plan_by-is,
  rows_are,
  finished-same,
  steps-same,
  opening-same,
  cost-same,
  release-same,
  opened-same,
  left-same,
  due-now,
  wait-same,
  stays_same,
  rest-same,
  limit-same,
}

module _ (load : Load) (bench : Bench) (board : Board) (shows : Shows load bench board) where
  abbrev L : View
  L = view_of load

  abbrev s : State
  s = state_of bench

  abbrev rows : ℕ
  rows = load.rows

  below-same : (j k : ℕ) → k < rows → below_in board j k ≡ finished_below L s j k
  below-same j k l =
      ap₂ (λ a b. leb (min j a) b) (steps-same load bench board shows k l) (finished-same load bench board shows k l)

  open_is : (i : ℕ) → is_open L s i ≡ embedded L i (s.finished i)
  open_is i = opens_at-embedded L i (s.finished i)

  pub candidate-same : (i : ℕ) → i < rows → candidate_in board bench.clock rows i ≡ is_candidate L s i
  unfolding is_candidate is_allowed
  candidate-same i l =
      let below : all_to (below_in board (s.finished i)) rows ≡ all_to (finished_below L s (s.finished i)) L.rows =
      all_to-ext (below_in board (s.finished i)) (finished_below L s (s.finished i)) rows (below-same (s.finished i))
      ∙ ap (all_to (finished_below L s (s.finished i))) (sym (rows_are load bench board shows)) in
      let steps : min (look_in board i).steps most_steps ≡ (look_in board i).steps =
      omega (arith, shows.steps-most i l) in
      rw (
        steps,
        finished-same load bench board shows i l,
        steps-same load bench board shows i l,
        release-same load bench board shows i l,
        opened-same load bench board shows i l,
        cost-same load bench board shows i l,
        below,
        open_is i,
      )

  turn-same : (classes : List ℕ) → ClassesOf load rows classes → (i : ℕ) → i < rows
      → turn_in classes i ≡ classes_above L i
  unfolding view_of
  turn-same classes told i l = ap (λ n. most_class - n) (told i l)

  -- the row of a candidate once its step is over
  module _ (i : ℕ) (l : i < rows) where
    abbrev after : State
    after = started_full L s i

    abbrev cost : ℕ
    cost = L.cost i (s.finished i)

    stays_after : (look_in board i).stays ≡ is_open L after i
    stays_after =
        stays_same load bench board shows i l ∙ sym (ap (opens_at L i) (started-finished-same L s i cost))

    rest-after : (look_in board i).rest ≡ window_left L after i
    rest-after =
        rest-same load bench board shows i l
        ∙ window_left-is L (further s) i
        ∙ sym (window_left-same L s i cost)

    pub opening-after : opening_in board bench.clock i ≡ opening_after L s i bench.clock
    opening-after =
        let kept : min (look_in board i).opening last_moment ≡ (look_in board i).opening =
        omega (arith, shows.opening-most i l) in
        rw (
          kept,
          stays_same load bench board shows i l,
          opened-same load bench board shows i l,
          opening-same load bench board shows i l,
        )

    limit-after : (look_in board i).limit ≡ limit_at L i (suc (s.finished i))
    limit-after = limit-same load bench board shows i l

    -- the open windows then
    pub open_after-is : rows ≤ 24 → (k : ℕ) → k < rows → is_marked (open_after board i) k ≡ is_open L after k
    open_after-is most k b =
        stored false (λ k a. a ≡ is_open L after k) board.opened i (look_in board i).stays
        (omega (arith, shows.wide.opened-length)) stays_after k
        (λ ne. opened-same load bench board shows k b ∙ sym (is_open-other L s i cost k ne))

    pub passes_same : rows ≤ 24 → passes_in board bench.clock rows i ≡ passes L s i
    unfolding passes_in passes
    passes_same most =
        ap (λ t. plan_by (is_marked (open_after board i))
        (jobs_in (set board.release i (t + (look_in board i).wait))
        (set board.left i (look_in board i).rest)
        (set board.due i (opening + (look_in board i).limit)))
        rows t) end_is
        ∙ plan_by-is L after rows (rows_are load bench board shows)
        (open_after board i)
        (set board.release i (after.clock + (look_in board i).wait))
        (set board.left i (look_in board i).rest)
        (set board.due i (opening + (look_in board i).limit))
        (open_after-is most)
        (λ k b. stored 0 (λ k a. a ≡ released L after k) board.release i _ (omega (arith, wide.release_length))
        (ap₂ ◌+◌ (started-clock L s i cost) (wait-same load bench board shows i l) ∙ sym (released-same L s i cost)) k
        (λ ne. release-same load bench board shows k b ∙ sym (job-other L s i cost k ne).release-same))
        (λ k b. stored 0 (λ k a. a ≡ window_left L after k) board.left i _ (omega (arith, wide.left-length))
        rest-after k
        (λ ne. left-same load bench board shows k b ∙ sym (job-other L s i cost k ne).left-same))
        (λ k b. stored 0 (λ k a. a ≡ due L after k) board.due i _ (omega (arith, wide.due-length))
        (ap₂ ◌+◌ opening-after limit-after ∙ sym (due-same L s i cost)) k
        (λ ne. due-now load bench board shows k b ∙ sym (job-other L s i cost k ne).due-same))
        after.clock
      where
        wide : Wide board
        wide = shows.wide

        opening : ℕ
        opening = opening_in board bench.clock i

        end_is : bench.clock + (look_in board i).cost ≡ after.clock
        end_is =
            ap (λ c. bench.clock + c) (cost-same load bench board shows i l) ∙ sym (started-clock L s i cost)

  -- what the search chooses, where it is told the classes of the rows
  pub chosen-same : (classes : List ℕ) → ClassesOf load rows classes → rows ≤ 24
      → chosen_in board classes bench.clock rows ≡ chosen L s
  unfolding chosen_in chosen candidates
  chosen-same classes told most =
      found-ext (passes_in board bench.clock rows) (passes L s) _
      (Every-sorted (by_keys (member_at board.finished) (turn_in classes))
      (λ i. passes_in board bench.clock rows i ≡ passes L s i) _
      (every-numbers_where _ (candidate_in board bench.clock rows) rows (λ i l c. passes_same i l most)))
      ∙ ap (found (passes L s))
      (sorted-same-by (member_at board.finished) s.finished (turn_in classes) (classes_above L)
      (candidate_in board bench.clock rows) (is_candidate L s) rows candidate-same
      (finished-same load bench board shows) (turn-same classes told))
      ∙ ap (λ n. found (passes L s)
      (sorted (by_keys s.finished (classes_above L)) (numbers_where (is_candidate L s) n)))
      (sym (rows_are load bench board shows))
