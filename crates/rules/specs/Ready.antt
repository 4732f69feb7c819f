-- "One move of the bench": next steps that are ready, allowed, and candidates; the order in which
-- these are tried. To be read after State. Rests on D13, D14 and D34.
use Rattle.std.specs.Prelude.{ℕ, zero, suc, ◌+◌, ◌-◌, min, Bool, ◌&&◌, ◌||◌, List, leb, ltb}
use Rattle.counting.specs.Sums.{all_to}
use Rattle.counting.specs.Lists.{numbers_where}
use Rattle.counting.specs.Sorting.{sorted, by_keys}
use Rattle.load.specs.Load.{last_moment, most_class}
use Rattle.load.specs.View.{View, embedded}
use Rattle.rules.specs.State.{State}

-- the moment from which step j of row i may start, the step before it having ended at a moment: the
-- phase for the first step, that end plus the wait for any other
abbrev pub release : View → ℕ → ℕ → ℕ → ℕ
release L i zero ended = L.phase i
release L i (suc j) ended = ended + L.wait i j

-- the moment from which row i's next step may start
abbrev pub released : View → State → ℕ → ℕ
released L s i = release L i (s.finished i) (s.end i)

-- a row's next step is ready
abbrev pub is_ready : View → State → ℕ → Bool
is_ready L s i = leb (released L s i) s.clock

-- row k has finished all its steps below place j
abbrev pub finished_below : View → State → ℕ → ℕ → Bool
finished_below L s j k = leb (min j (L.steps k)) (s.finished k)

-- a row's next step is allowed if embedded, or if every row has finished all its steps of lower
-- number
unfoldable pub is_allowed : View → State → ℕ → Bool
is_allowed L s i =
    embedded L i (s.finished i) || all_to (finished_below L s (s.finished i)) L.rows

-- the end of row i's next step, started now
abbrev pub would_end : View → State → ℕ → ℕ
would_end L s i = s.clock + L.cost i (s.finished i)

-- row i's next step is a candidate: it is there, ready and allowed, and would end by 1,000,000
unfoldable pub is_candidate : View → State → ℕ → Bool
is_candidate L s i =
    ltb (s.finished i) (L.steps i)
    && is_ready L s i
    && is_allowed L s i
    && leb (would_end L s i) last_moment

-- how many classes are higher than row i's
abbrev pub classes_above : View → ℕ → ℕ
classes_above L i = most_class - L.class i

-- the rows of the candidates, as they are tried: by step number, then higher class, then row
-- (2026-05)
unfoldable pub candidates : View → State → List ℕ
candidates L s =
    sorted (by_keys s.finished (classes_above L)) (numbers_where (is_candidate L s) L.rows)
