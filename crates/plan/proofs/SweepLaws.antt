-- The search by step number, class and row, at one moment and over all: a row is passed over or chosen, and what is
-- known of refused rows grows.
use Prim.Native.Nat.{ℕ, ◌+◌, min, ◌≤◌, ◌<◌}
use mathlib.Core.Bool.{Bool, true, false, cond, ◌&&◌, ◌||◌}
use mathlib.Core.List.{List}
use mathlib.Core.Logic.{◌≢◌}
use mathlib.Core.Path.{◌≡◌, refl, ap, sym, ◌∙◌, subst}
use native.Mathlib.Decide.{ℕ_discrete, dec_lt}
use native.Mathlib.Omega.{arith}
use borrow.Author.Tests.{eqb-true, ltb-true, eq-eqb, ne_eqb, lt-ltb, le-ltb, le-leb, lt-leb, leb-true}
use lib.Dec.{eqb, leb, ltb}
use lib.ListN.{set, length-set}
use Rattle.counting.specs.Sums.{all_to}
use Rattle.counting.specs.Lists.{is_marked}
use Rattle.counting.specs.Searches.{Found, none}
use Rattle.counting.proofs.tests.TestLaws.{and_left, and_right, true-false}
use Rattle.load.specs.Load.{most_rows, most_steps, last_moment, most_class}
use Rattle.plan.specs.declared.Board.{Board}
use Rattle.plan.specs.Boards.{look_in}
use Rattle.plan.specs.Choices.{below_in, candidate_in, passes_in, turn_in, chosen_in, row_or}
use Rattle.plan.specs.Calls.{ChosenRow}
use Rattle.plan.specs.inner.Searching.{LowestStep, tried_in, NumbersIn, RefusedTo, TriedUntil}
use Rattle.plan.specs.inner.Turns.{FirstTurn, PassedTo, PassedRows}
use Rattle.plan.proofs.StoreLaws.{stored}
use Rattle.plan.proofs.SearchLaws.{candidate-more, candidate-allowed, candidate-ends}
use Rattle.plan.proofs.SearchLaws.{candidate-is, candidate-from, none-chosen}

-- the next turn stays after the one that is tried
pub next-later : (turn here next next' : ℕ) → here ≢ turn → turn < next
    → next' ≡ cond (ltb turn here) (min here next) next → turn < next'
next-later turn here next next' other later e =
    elim (dec_lt turn here) [
      | yes h ↦ omega (arith, e ∙ ap (λ b. cond b (min here next) next) (lt-ltb turn here h))
      | no h ↦ omega (arith, e ∙ ap (λ b. cond b (min here next) next) (le-ltb turn here (omega arith)))
    ]

-- either way round
or_turned : (a b : Bool) → (b || a) ≡ true → (a || b) ≡ true
or_turned true b h = refl
or_turned false true h = refl
or_turned false false h = h

module _ (board : Board) (rows lowest : ℕ) (known : LowestStep board.finished board.steps rows lowest) where
  -- from the lowest unfinished step on, a candidate is a row that is tried, once it is ready
  module _ (number : ℕ) (from : lowest ≤ number) (most : number < most_steps) (i : ℕ) where
    allowed-is : leb number lowest ≡ eqb number lowest
    allowed-is =
        elim (ℕ_discrete number lowest) [
          | yes e ↦ le-leb number lowest (omega arith) ∙ sym (eq-eqb number lowest e)
          | no ne ↦ lt-leb number lowest (omega arith) ∙ sym (ne_eqb number lowest ne)
        ]

    -- a row that is tried is a candidate once it is ready, if it ends in time
    pub tried-candidate : tried_in board number lowest i ≡ true → (t : ℕ) → (look_in board i).release ≤ t
        → t + (look_in board i).cost ≤ last_moment → candidate_in board t rows i ≡ true
    tried-candidate e t ready ends =
        let look = look_in board i in
        let there = and_left (eqb look.finished number && ltb number look.steps) _ e in
        let same : look.finished ≡ number = eqb-true look.finished number (and_left _ _ there) in
        let more = ltb-true number look.steps (and_right (eqb look.finished number) _ there) in
        let allowed = and_right (eqb look.finished number && ltb number look.steps) _ e in
        candidate-is board t rows i number lowest same (known.below number (omega arith))
        ∙ rw (
          lt-ltb number (min look.steps most_steps) (omega arith),
          le-leb look.release t ready,
          allowed-is,
          or_turned look.opened (eqb number lowest) allowed,
          le-leb (t + look.cost) last_moment ends,
        )

    -- and no other row with that number is one
    pub candidate-tried : (t : ℕ) → (look_in board i).finished ≡ number → candidate_in board t rows i ≡ true
        → tried_in board number lowest i ≡ true
    candidate-tried t same c =
        let look = look_in board i in
        let more = candidate-more look t _ c in
        let allowed : (look.opened || eqb number lowest) ≡ true =
        subst (λ b. (look.opened || b) ≡ true)
        (ap (λ n. all_to (below_in board n) rows) same ∙ known.below number (omega arith) ∙ allowed-is)
        (candidate-allowed look t _ c) in
        rw (
          eq-eqb look.finished number same,
          lt-ltb number look.steps (omega (arith, same, more)),
          or_turned (eqb number lowest) look.opened allowed,
        )

  -- a candidate's number is marked
  candidate-marked : (numbers : List Bool) → NumbersIn board.finished board.opened lowest rows numbers
      → (i t : ℕ) → i < rows → candidate_in board t rows i ≡ true → is_marked numbers (look_in board i).finished ≡ true
  candidate-marked numbers marks i t l c = go (look_in board i).opened refl
    where
      go : (b : Bool) → (look_in board i).opened ≡ b → is_marked numbers (look_in board i).finished ≡ true
      go true e = marks.of-open i l e (omega (arith, candidate-more (look_in board i) t _ c))
      go false e =
          let look = look_in board i in
          let low = leb-true look.finished lowest
          (sym (known.below look.finished (omega (arith, candidate-more look t _ c)))
          ∙ subst (λ b. (b || all_to (below_in board look.finished) rows) ≡ true) e (candidate-allowed look t _ c)) in
          let same : look.finished ≡ lowest =
          omega (arith, low, candidate-from board t rows lowest known.below i l c) in
          subst (λ n. is_marked numbers n ≡ true) (sym same)
          (marks.of-lowest (omega (arith, same, candidate-more look t _ c)))

  module _ (classes : List ℕ) (t : ℕ) where
    -- the search begins at the lowest unfinished step
    pub passed_first : PassedTo board classes rows lowest 0 t
    passed_first =
        record {
          steps = λ k l h c. absurd (omega (arith, candidate-from board t rows lowest known.below k l c));
          turns = λ k l e h. absurd (omega arith);
        }

    -- one step number further, where no row is tried with it
    pub passed-unmarked : (numbers : List Bool) → NumbersIn board.finished board.opened lowest rows numbers
        → (number : ℕ) → is_marked numbers number ≡ false → PassedTo board classes rows number 0 t
        → PassedTo board classes rows (number + 1) 0 t
    passed-unmarked numbers marks number e p =
        record {
          steps = λ k l h c. elim (dec_lt (look_in board k).finished number) [
            | yes q ↦ p.steps k l q c
            | no q ↦
                let same : (look_in board k).finished ≡ number = omega arith in
                absurd
                (true-false (is_marked numbers number)
                (subst (λ n. is_marked numbers n ≡ true) same (candidate-marked numbers marks k t l c)) e)
          ];
          turns = λ k l same h. absurd (omega arith);
        }

module _ (board : Board) (classes : List ℕ) (rows number : ℕ) where
  module _ (t : ℕ) where
    -- to the first turn, before which no row has one
    pub passed-begin : (first : ℕ) → FirstTurn classes first → rows ≤ most_rows → PassedTo board classes rows number 0 t
        → PassedTo board classes rows number first t
    passed-begin first none_before most p =
        record {
          steps = p.steps;
          turns = λ k l e h. absurd (omega (arith, none_before k (omega arith)));
        }

    -- a turn begins with no row
    pub passed-none-yet : (turn next : ℕ) → PassedTo board classes rows number turn t
        → PassedRows board classes rows number turn next 0 t
    passed-none-yet turn next p = record { to = p; row = λ k h. absurd (omega arith) }

    module _ (turn next i : ℕ) where
      -- one row further
      pub passed_on : ((look_in board i).finished ≡ number → candidate_in board t rows i ≡ true
          → passes_in board t rows i ≡ false)
          → PassedRows board classes rows number turn next i t
          → PassedRows board classes rows number turn next (i + 1) t
      passed_on here p =
          record {
            to = p.to;
            row = λ k l e h. elim (ℕ_discrete k i) [
              | yes q ↦ subst (λ n. candidate_in board t rows n ≡ true → passes_in board t rows n ≡ false) (sym q)
                  (here (ap (λ n. (look_in board n).finished) (sym q) ∙ e))
              | no q ↦ p.row k (omega arith) e h
            ];
          }

      -- a row of another turn is left for that, or was passed over in it
      pub passed_over : i < rows → turn_in classes i ≢ turn → (next' : ℕ)
          → next' ≡ cond (ltb turn (turn_in classes i)) (min (turn_in classes i) next) next
          → PassedRows board classes rows number turn next i t
          → PassedRows board classes rows number turn next' (i + 1) t
      passed_over l other next' e p =
          elim (dec_lt turn (turn_in classes i)) [
            | yes h ↦
                let lower : next' ≡ min (turn_in classes i) next =
                e ∙ ap (λ b. cond b (min (turn_in classes i) next) next) (lt-ltb turn (turn_in classes i) h) in
                record {
                  to = p.to;
                  row = λ k b same s. elim (ℕ_discrete k i) [
                    | yes q ↦ absurd (omega (arith, lower, ap (turn_in classes) q))
                    | no q ↦ p.row k (omega arith) same (omega (arith, lower))
                  ];
                }
            | no h ↦
                let still : next' ≡ next =
                e ∙ ap (λ b. cond b (min (turn_in classes i) next) next)
                (le-ltb turn (turn_in classes i) (omega arith)) in
                subst (λ n. PassedRows board classes rows number turn n (i + 1) t) (sym still)
                (passed_on (λ same. p.to.turns i l same (omega arith)) p)
          ]

      -- to the next turn
      pub passed-turn : rows ≤ i → PassedRows board classes rows number turn next i t
          → PassedTo board classes rows number next t
      passed-turn all p = record { steps = p.to.steps; turns = λ k l. p.row k (omega arith) }

    -- past all turns, one step number further
    pub passed-number : (turn : ℕ) → most_class < turn → PassedTo board classes rows number turn t
        → PassedTo board classes rows (number + 1) 0 t
    passed-number turn all p =
        record {
          steps = λ k l h. elim (dec_lt (look_in board k).finished number) [
            | yes q ↦ p.steps k l q
            | no q ↦ p.turns k l (omega arith) (omega arith)
          ];
          turns = λ k l e h. absurd (omega arith);
        }

    -- past all step numbers every row is passed over, and nothing is chosen
    module _ (turn : ℕ) (all : most_steps ≤ number) (p : PassedTo board classes rows number turn t) where
      pub passed-every : (k : ℕ) → k < rows → candidate_in board t rows k ≡ true → passes_in board t rows k ≡ false
      passed-every k l c = p.steps k l (omega (arith, candidate-more (look_in board k) t _ c)) c

      pub passed_none : chosen_in board classes t rows ≡ none
      passed_none = none-chosen board t rows classes passed-every

-- which row that makes the answer
pub chosen_is : (board : Board) (classes : List ℕ) (clock rows : ℕ) → rows ≤ most_rows → (f : Found)
    → chosen_in board classes clock rows ≡ f → ChosenRow board classes clock rows (row_or rows f)
chosen_is board classes clock rows most f e =
    let same : rows ≡ min rows most_rows = omega arith in
    subst (λ n. row_or rows f ≡ row_or n (chosen_in board classes clock n)) same (ap (row_or rows) (sym e))

-- what is known of refused rows, and then of one that was asked
pub refused-more : (board : Board) (clock rows : ℕ) (until : List ℕ) → rows ≤ most_rows
    → RefusedTo board clock rows until → (i r : ℕ) → i < rows → TriedUntil board clock rows i r
    → RefusedTo board clock rows (set until i r)
refused-more board clock rows until most known i r l tried =
    record {
      long = length-set until i r ∙ known.long;
      refused = λ k b. stored 0
          (λ n v. (t : ℕ) → clock ≤ t → t < v → candidate_in board t rows n ≡ true → passes_in board t rows n ≡ false)
          until i r (omega (arith, known.long))
          (λ t a h c. tried.refused t a h (candidate-ends (look_in board i) t _ c))
          k (λ ne. known.refused k b);
    }
