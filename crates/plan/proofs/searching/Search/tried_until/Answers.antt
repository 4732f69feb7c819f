-- `tried_until` asks the plan where the step would end by 1,000,000: else it would at no later moment.
use Prim.Native.Nat.{ℕ, ◌+◌, ◌≤◌, ◌<◌}
use native.Mathlib.Omega.{arith}
use Rattle.plan.specs.declared.Board.{Board}
use Rattle.plan.specs.Boards.{look_in}
use Rattle.plan.specs.inner.Passing.{never, PassesFrom}
use Rattle.plan.specs.inner.Searching.{TriedUntil}
use Rattle.load.specs.Load.{last_moment}

-- at no later moment
late : (board : Board) (clock rows i : ℕ) → clock ≤ last_moment → last_moment < clock + (look_in board i).cost
    → TriedUntil board clock rows i never
late board clock rows i most h =
    record {
      from = omega arith;
      ends = λ e. absurd (omega arith);
      passes = λ e. absurd (omega arith);
      refused = λ t a b g. absurd (omega arith);
    }

-- as the plan says
asked : (board : Board) (clock rows i r : ℕ) → clock + (look_in board i).cost ≤ last_moment
    → PassesFrom board clock rows i r → TriedUntil board clock rows i r
asked board clock rows i r h p =
    record { from = p.from; ends = λ e. h; passes = p.passes; refused = λ t a b g. p.refused t a b }
