-- "The bound and the margins", the cut: "each row keeps its first m steps (all, if it has fewer)
-- and then any embedded steps that follow directly. The wait after a row's last kept step is
-- dropped."
use Rattle.std.specs.Prelude.{ℕ, suc, ◌+◌, ◌-◌, min, cond, not, leb, ltb}
use Rattle.counting.specs.Lists.{keep_in}
use Rattle.counting.specs.Searches.{first_to}
use Rattle.load.specs.View.{View, embedded}

-- the steps that row i keeps for certain: its first m, or all
abbrev pub first_kept : View → ℕ → ℕ → ℕ
first_kept L m i = min m (L.steps i)

-- how many embedded steps of row i follow directly from place a on
abbrev pub followers : View → ℕ → ℕ → ℕ
followers L i a = first_to (λ d. not (embedded L i (a + d))) (L.steps i - a)

-- how many steps row i keeps
unfoldable pub kept : View → ℕ → ℕ → ℕ
kept L m i = first_kept L m i + followers L i (first_kept L m i)

-- the load cut at m: a wait is kept with the step after it, and a window with its last step
unfoldable pub cut : View → ℕ → View
cut L m =
    record {
      rows = L.rows;
      phase = L.phase;
      deadline = L.deadline;
      steps = kept L m;
      cost = L.cost;
      wait = λ i j. cond (ltb (suc j) (kept L m i)) (L.wait i j) 0;
      windows = λ i. keep_in (λ w. leb w.last (kept L m i)) (L.windows i);
      class = L.class;
    }
