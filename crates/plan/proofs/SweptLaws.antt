-- The rows of a board swept for the soonest start: a row is passed over before the moment from which it is asked, and
-- before its first moment, and the soonest of these moments is a start.
use Prim.Native.Nat.{ℕ, ◌+◌, max, ◌≤◌, ◌<◌}
use mathlib.Core.Bool.{true, false, ◌&&◌}
use mathlib.Core.List.{List}
use mathlib.Core.Path.{◌≡◌, refl}
use native.Mathlib.Decide.{dec_lt}
use native.Mathlib.Omega.{arith}
use borrow.Author.Tests.{ltb-true}
use lib.Dec.{eqb, ltb}
use Rattle.counting.specs.Lists.{member_at}
use Rattle.counting.proofs.tests.TestLaws.{and_left, and_right, true-false}
use Rattle.load.specs.Load.{most_steps, last_moment}
use Rattle.plan.specs.declared.Board.{Board}
use Rattle.plan.specs.Boards.{look_in}
use Rattle.plan.specs.Choices.{candidate_in, passes_in, turn_in}
use Rattle.plan.specs.inner.Searching.{LowestStep, tried_in, RefusedTo}
use Rattle.plan.specs.inner.Searching.{TriedRow, PassesFirst}
use Rattle.plan.specs.inner.Turns.{PassedTo, PassedRows, SweptTo, StartsBefore}
use Rattle.plan.proofs.SearchLaws.{candidate-ready, candidate-ends}
use Rattle.plan.proofs.SearchLaws.{unfinished-from, first-chosen}
use Rattle.plan.proofs.SweepLaws.{tried-candidate, passed_first, passed_on}

module _ (board : Board) (clock rows : ℕ) (until : List ℕ) (known : RefusedTo board clock rows until)
    (i : ℕ) (l : i < rows) (from : ℕ) (from_is : from ≡ max (max (look_in board i).release (member_at until i)) clock)
  where
    -- a row is passed over before the moment from which it is asked
    pub from-quiet : (t : ℕ) → clock ≤ t → t < from → candidate_in board t rows i ≡ true
        → passes_in board t rows i ≡ false
    from-quiet t a h c =
        known.refused i l t a (omega (arith, from_is, candidate-ready (look_in board i) t _ c)) c

    -- and before its first moment
    module _ (before m : ℕ) (first : PassesFirst board from before rows i m) where
      pub first-quiet : (t : ℕ) → clock ≤ t → t < m → candidate_in board t rows i ≡ true
          → passes_in board t rows i ≡ false
      first-quiet t a h c =
          elim (dec_lt t from) [
            | yes q ↦ from-quiet t a q c
            | no q ↦ first.refused t (omega arith) h (candidate-ends (look_in board i) t _ c)
          ]

      -- at which it starts
      pub first-candidate : (lowest number : ℕ) → LowestStep board.finished board.steps rows lowest
          → lowest ≤ number → number < most_steps → tried_in board number lowest i ≡ true → m < before
          → candidate_in board m rows i ≡ true
      first-candidate lowest number lowest-is low high tried h =
          tried-candidate board rows lowest lowest-is number low high i tried m
          (omega (arith, from_is, first.starts h)) (first.ends h)

-- the rows of a board are swept in their order
module _ (board : Board) (classes : List ℕ) (clock before rows : ℕ) where
  pub swept-first : (lowest : ℕ) → LowestStep board.finished board.steps rows lowest
      → SweptTo board classes clock before rows (PassedTo board classes rows lowest 0) rows before
  swept-first lowest known =
      record {
        most = omega arith;
        quiet = λ t a h. passed_first board rows lowest known classes t;
        from = λ h. absurd (omega arith);
        found = λ h. absurd (omega arith);
        earlier = λ h. absurd (omega arith);
        none_yet = λ h. refl;
        row-most = omega arith;
      }

  -- to another place, where the rows between are passed over
  pub swept-to : (Passed Passed' : ℕ → Type 0) (row soonest : ℕ)
      → ((t : ℕ) → clock ≤ t → t < soonest → Passed t → Passed' t)
      → SweptTo board classes clock before rows Passed row soonest
      → SweptTo board classes clock before rows Passed' row soonest
  swept-to Passed Passed' row soonest on swept =
      record {
        most = swept.most;
        quiet = λ t a h. on t a h (swept.quiet t a h);
        from = swept.from;
        found = swept.found;
        earlier = swept.earlier;
        none_yet = swept.none_yet;
        row-most = swept.row-most;
      }

  -- a row that starts sooner
  pub swept-sooner : (number turn next i row soonest : ℕ)
      → SweptTo board classes clock before rows (PassedRows board classes rows number turn next i) row soonest
      → turn < next → (m : ℕ) → i < rows → m < soonest → clock ≤ m → (look_in board i).finished ≡ number
      → turn_in classes i ≡ turn
      → ((t : ℕ) → clock ≤ t → t < m → candidate_in board t rows i ≡ true → passes_in board t rows i ≡ false)
      → candidate_in board m rows i ≡ true → passes_in board m rows i ≡ true
      → SweptTo board classes clock before rows (PassedRows board classes rows number turn next (i + 1)) i m
  swept-sooner number turn next i row soonest swept later m l less late e f quiet c p =
      record {
        most = omega (arith, swept.most);
        quiet = λ t a h.
            passed_on board classes rows number t turn next i (λ _. quiet t a h) (swept.quiet t a (omega arith));
        from = λ _. late;
        found = λ _. first-chosen board m rows classes number turn next i (swept.quiet m late less) later l e f c p;
        earlier = λ _. omega (arith, swept.most);
        none_yet = λ h. absurd (omega arith);
        row-most = omega arith;
      }

-- a row that is tried starts at its first moment, so that some row starts by then
pub starts_first : (board : Board) (clock rows : ℕ) (until : List ℕ) → RefusedTo board clock rows until → (i : ℕ)
    → i < rows → (from m : ℕ) → from ≡ max (max (look_in board i).release (member_at until i)) clock
    → PassesFirst board from last_moment rows i m → (lowest : ℕ)
    → LowestStep board.finished board.steps rows lowest
    → TriedRow board.finished board.steps board.opened lowest i → StartsBefore board clock rows (m + 1)
starts_first board clock rows until known i l from m from_is first lowest lowest-is row =
    record {
      most = omega (arith, first.most);
      starts = λ h all.
          let sooner : m < last_moment = omega arith in
          let number = (look_in board i).finished in
          let more = ltb-true number (look_in board i).steps
          (and_right (eqb number number) _ (and_left (eqb number number && ltb number (look_in board i).steps) _
          row.tried)) in
          true-false (passes_in board m rows i) (first.passes sooner)
          (all m i (omega (arith, from_is, first.starts sooner)) (omega arith) l
          (first-candidate board clock rows until known i l from from_is last_moment m first lowest number lowest-is
          (unfinished-from board clock rows lowest lowest-is.below i l (omega (arith, row.number, more)))
          row.number row.tried sooner));
    }
