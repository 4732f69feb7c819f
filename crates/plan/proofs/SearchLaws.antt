-- The search by step number, class and row: what has been passed over, and what is chosen then; and the lowest
-- unfinished step, which tells whether every row has finished all its steps of lower number.
use Prim.Native.Nat.{ℕ, ◌+◌, min, ◌≤◌, ◌<◌}
use mathlib.Core.Bool.{Bool, true, false, ◌&&◌, ◌||◌}
use mathlib.Core.List.{List}
use mathlib.Core.Path.{◌≡◌, refl, ap, sym, ◌∙◌, subst}
use native.Mathlib.Decide.{dec_lt}
use native.Mathlib.Omega.{arith}
use borrow.Author.Tests.{ltb-true, leb-true, le-leb}
use lib.Dec.{leb, ltb}
use Rattle.counting.specs.Sums.{all_to}
use Rattle.counting.specs.Lists.{member_at, numbers_where}
use Rattle.counting.specs.Sorting.{by_keys}
use Rattle.counting.specs.Searches.{Found, at, none, found}
use Rattle.counting.proofs.tests.TestLaws.{and_left, and_right, all_to-true, true-false}
use Rattle.counting.proofs.sorting.SortLaws.{Every-sorted}
use Rattle.counting.proofs.sorting.KeysLaws.{rank, sorted-rank, precedes-rank}
use Rattle.counting.proofs.lists.EveryLaws.{every-numbers_where, found_at}
use Rattle.counting.proofs.searches.SelectionLaws.{found-least, found_nothing}
use Rattle.load.specs.Load.{most_rows, most_steps, last_moment, most_class}
use Rattle.plan.specs.declared.Look.{Look}
use Rattle.plan.specs.declared.Board.{Board}
use Rattle.plan.specs.Boards.{look_in}
use Rattle.plan.specs.Choices.{below_in, candidate_by, candidate_in, opening_by, passes_in, turn_in, chosen_in, row_or}
use Rattle.plan.specs.Calls.{ChosenRow}
use Rattle.plan.specs.inner.Turns.{PassedRows}

-- an opening is by 1,000,000 where the clock is
pub opening_by-le : (stays opened : Bool) (opening clock : ℕ) → clock ≤ last_moment
    → opening_by stays opened opening clock ≤ last_moment
opening_by-le true true opening clock h = omega arith
opening_by-le true false opening clock h = h
opening_by-le false opened opening clock h = omega arith

-- what a candidate tells: its step is there, ready and allowed, and ends by 1,000,000
module _ (look : Look) (clock : ℕ) (below : Bool) (e : candidate_by look clock below ≡ true) where
  more : Bool
  more = ltb look.finished (min look.steps most_steps)

  ready : Bool
  ready = leb look.release clock

  allowed : Bool
  allowed = look.opened || below

  ends : Bool
  ends = leb (clock + look.cost) last_moment

  pub candidate-more : look.finished < min look.steps most_steps
  unfolding more ready allowed ends
  candidate-more =
      ltb-true look.finished (min look.steps most_steps)
      (and_left more ready (and_left (more && ready) allowed (and_left (more && ready && allowed) ends e)))

  pub candidate-ready : look.release ≤ clock
  unfolding more ready allowed ends
  candidate-ready =
      leb-true look.release clock
      (and_right more ready (and_left (more && ready) allowed (and_left (more && ready && allowed) ends e)))

  pub candidate-allowed : (look.opened || below) ≡ true
  unfolding more ready allowed ends
  candidate-allowed = and_right (more && ready) allowed (and_left (more && ready && allowed) ends e)

  pub candidate-ends : clock + look.cost ≤ last_moment
  unfolding more ready allowed ends
  candidate-ends = leb-true (clock + look.cost) last_moment (and_right (more && ready && allowed) ends e)

module _ (board : Board) (clock rows : ℕ) where
  -- row k is passed over
  abbrev pub PassedRow : ℕ → Type 0
  PassedRow k = candidate_in board clock rows k ≡ true → passes_in board clock rows k ≡ false

  -- below the lowest unfinished step no row has a step left
  module _ (lowest : ℕ) (known : (j : ℕ) → j ≤ most_steps → all_to (below_in board j) rows ≡ leb j lowest) (k : ℕ)
      (l : k < rows) where
    pub unfinished-from : (look_in board k).finished < min (look_in board k).steps most_steps
        → lowest ≤ (look_in board k).finished
    unfinished-from more =
        elim (dec_lt (look_in board k).finished lowest) [
          | yes h ↦
              let look = look_in board k in
              let low : all_to (below_in board (look.finished + 1)) rows ≡ true =
              known (look.finished + 1) (omega arith) ∙ le-leb (look.finished + 1) lowest (omega arith) in
              absurd
              (omega (
                arith,
                leb-true (min (look.finished + 1) look.steps) look.finished
                    (all_to-true (below_in board (look.finished + 1)) rows low k l),
              ))
          | no h ↦ omega arith
        ]

    pub candidate-from : candidate_in board clock rows k ≡ true → lowest ≤ (look_in board k).finished
    candidate-from c = unfinished-from (candidate-more (look_in board k) clock _ c)

  module _ (classes : List ℕ) where
    -- by step number and class is by one rank
    abbrev ranked : ℕ → ℕ
    ranked = rank most_class (member_at board.finished) (turn_in classes)

    turn-most : (k : ℕ) → turn_in classes k ≤ most_class
    turn-most k = omega arith

    -- the first that is not passed over is chosen
    pub first-chosen : (number turn next i : ℕ) → PassedRows board classes rows number turn next i clock → turn < next
        → i < rows → (look_in board i).finished ≡ number → turn_in classes i ≡ turn
        → candidate_in board clock rows i ≡ true
        → passes_in board clock rows i ≡ true → chosen_in board classes clock rows ≡ at i
    unfolding chosen_in
    first-chosen number turn next i p later l e f c q =
        ap (found (passes_in board clock rows))
        (sorted-rank (member_at board.finished) (turn_in classes) most_class turn-most _)
        ∙ found-least ranked (candidate_in board clock rows) (passes_in board clock rows) rows i l c q
        (λ k b ck pk. precedes-rank (member_at board.finished) (turn_in classes) most_class turn-most i k
        (record {
          firsts = elim (dec_lt (look_in board k).finished number) [
            | yes h ↦ absurd (true-false (passes_in board clock rows k) pk (p.to.steps k b h ck))
            | no h ↦ omega (arith, e)
          ];
          seconds = λ s. elim (dec_lt (turn_in classes k) turn) [
            | yes h ↦ absurd (true-false (passes_in board clock rows k) pk (p.to.turns k b (sym s ∙ e) h ck))
            | no h ↦ omega (arith, f)
          ];
          ties = λ s v. elim (dec_lt k i) [
            | yes h ↦
                absurd
                (true-false (passes_in board clock rows k) pk
                (p.row k h (sym s ∙ e) (omega (arith, v, f, later)) ck))
            | no h ↦ omega arith
          ];
        }))

    -- nothing is chosen where every row is passed over
    pub none-chosen : ((k : ℕ) → k < rows → PassedRow k) → chosen_in board classes clock rows ≡ none
    unfolding chosen_in
    none-chosen h =
        ap (found (passes_in board clock rows))
        (sorted-rank (member_at board.finished) (turn_in classes) most_class turn-most _)
        ∙ found_nothing ranked (candidate_in board clock rows) (passes_in board clock rows) rows h

  -- a candidate, by the lowest unfinished step
  pub candidate-is : (i step lowest : ℕ) → (look_in board i).finished ≡ step
      → all_to (below_in board step) rows ≡ leb step lowest
      → candidate_in board clock rows i
      ≡ (ltb step (min (look_in board i).steps most_steps)
      && leb (look_in board i).release clock
      && ((look_in board i).opened || leb step lowest)
      && leb (clock + (look_in board i).cost) last_moment)
  candidate-is i step lowest e h =
      ap (λ f. candidate_by (record {
        finished = f;
        steps = (look_in board i).steps;
        opening = (look_in board i).opening;
        cost = (look_in board i).cost;
        release = (look_in board i).release;
        opened = (look_in board i).opened;
        left = (look_in board i).left;
        due = (look_in board i).due;
        wait = (look_in board i).wait;
        stays = (look_in board i).stays;
        rest = (look_in board i).rest;
        limit = (look_in board i).limit;
      }) clock (all_to (below_in board f) rows)) e
      ∙ rw h

  -- what is chosen is a row, and its next step a candidate
  pub chosen-there : (classes : List ℕ) (i : ℕ) → chosen_in board classes clock rows ≡ at i
      → (i < rows) × (candidate_in board clock rows i ≡ true)
  unfolding chosen_in
  chosen-there classes i e =
      (found_at (λ k. (k < rows) × (candidate_in board clock rows k ≡ true)) (passes_in board clock rows) _ i
      (Every-sorted (by_keys (member_at board.finished) (turn_in classes)) _
      (numbers_where (candidate_in board clock rows) rows)
      (every-numbers_where _ (candidate_in board clock rows) rows (λ k l c. (l, c))))
      e
      ).0

  -- what the search gives
  module _ (classes : List ℕ) (most : rows ≤ most_rows) (r : ℕ) (s : ChosenRow board classes clock rows r) where
    given : r ≡ row_or rows (chosen_in board classes clock rows)
    given =
        let e : min rows most_rows ≡ rows = omega arith in
        subst (λ n. r ≡ row_or n (chosen_in board classes clock n)) e s

    pub search-row : r < rows → chosen_in board classes clock rows ≡ at r
    search-row l = go (chosen_in board classes clock rows) refl
      where
        go : (f : Found) → chosen_in board classes clock rows ≡ f → chosen_in board classes clock rows ≡ at r
        go (at i) e = e ∙ ap at (sym (given ∙ ap (row_or rows) e))
        go none e = absurd (omega (arith, given ∙ ap (row_or rows) e))

    pub search-none : rows ≤ r → chosen_in board classes clock rows ≡ none
    search-none l = go (chosen_in board classes clock rows) refl
      where
        go : (f : Found) → chosen_in board classes clock rows ≡ f → chosen_in board classes clock rows ≡ none
        go (at i) e = absurd (omega (arith, given ∙ ap (row_or rows) e, (chosen-there classes i e).0))
        go none e = e
