-- "Candidates are tried by step number, then higher class, then row": of a load of one class
-- throughout, by step number, then row, as before 2026-05. That order stands here for the one
-- theorem that such a load has the moves it had. To be read after Move. Rests on D93.
use Rattle.std.specs.Prelude.{ℕ, ◌<◌, List, ◌≡◌}
use Rattle.counting.specs.Lists.{numbers_where}
use Rattle.counting.specs.Searches.{Found, found}
use Rattle.counting.specs.Sorting.{sorted, by_key}
use Rattle.load.specs.View.{View}
use Rattle.rules.specs.State.{State}
use Rattle.rules.specs.Ready.{is_candidate}
use Rattle.rules.specs.Move.{Moved, passes, move_with}

-- every row of a load has that class
abbrev pub AllOfClass : View → ℕ → Type 0
AllOfClass L class = (i : ℕ) → i < L.rows → L.class i ≡ class

-- the rows of the candidates by step number, then row
unfoldable pub candidates_by_row : View → State → List ℕ
candidates_by_row L s = sorted (by_key s.finished) (numbers_where (is_candidate L s) L.rows)

-- the first of them that passes
unfoldable pub chosen_by_row : View → State → Found
chosen_by_row L s = found (passes L s) (candidates_by_row L s)

-- one move of the bench, each step at full cost, whose candidates are tried so
abbrev pub move_by_row : View → State → Moved
move_by_row L s = move_with L.cost L s (chosen_by_row L s)
