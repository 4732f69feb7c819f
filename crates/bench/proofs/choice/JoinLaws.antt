-- The plan over lists that agree with a state is the rules' plan of that state; and what a board that shows a load and
-- its bench has of a row is, number by number, what the rules say of it.
use Prim.Native.Nat.{ℕ, ◌<◌}
use mathlib.Core.Bool.{Bool}
use mathlib.Core.List.{List}
use mathlib.Core.Path.{◌≡◌, refl, ap, sym, ◌∙◌}
use Rattle.counting.specs.Lists.{member_at, is_marked}
use Rattle.load.specs.declared.Load.{Load}
use Rattle.load.specs.View.{View, view_of}
use Rattle.rules.specs.State.{State, is_open, open_window}
use Rattle.rules.specs.Ready.{released}
use Rattle.rules.specs.Plan.{plan_by, due, window_left, jobs, plan_passes}
use Rattle.rules.proofs.plan.StackLaws.{plan_by-ext}
use Rattle.bench.specs.declared.Bench.{Bench}
use Rattle.plan.specs.declared.Look.{Look}
use Rattle.bench.specs.Held.{state_of}
use Rattle.plan.specs.Looks.{further, look_of}
use Rattle.plan.specs.declared.Board.{Board}
use Rattle.plan.specs.Boards.{look_in}
use Rattle.plan.specs.Choices.{jobs_in}
use Rattle.bench.specs.inner.Boards.{Shows}

-- the plan over lists that agree with a state is the plan of that state
module _ (L : View) (s : State) (rows : ℕ) (rows_are : L.rows ≡ rows)
    (waiting : List Bool) (release left due' : List ℕ)
    (opens : (k : ℕ) → k < rows → is_marked waiting k ≡ is_open L s k)
    (releases : (k : ℕ) → k < rows → member_at release k ≡ released L s k)
    (lefts : (k : ℕ) → k < rows → member_at left k ≡ window_left L s k)
    (dues : (k : ℕ) → k < rows → member_at due' k ≡ due L s k) where
  pub plan_by-is : (t : ℕ) → plan_by (is_marked waiting) (jobs_in release left due') rows t ≡ plan_passes L s t
  plan_by-is t =
      plan_by-ext (is_marked waiting) (is_open L s) (jobs_in release left due') (jobs L s) rows t opens
      (λ k l o. record {
        key-same = dues k l;
        release-same = releases k l;
        left-same = lefts k l;
        due-same = dues k l;
      })
      ∙ ap (λ n. plan_by (is_open L s) (jobs L s) n t) (sym rows_are)

module _ (load : Load) (bench : Bench) (board : Board) (shows : Shows load bench board) where
  abbrev L : View
  L = view_of load

  abbrev s : State
  s = state_of bench

  abbrev rows : ℕ
  rows = load.rows

  pub rows_are : L.rows ≡ rows
  unfolding view_of
  rows_are = refl

  -- what the board has of a row, number by number
  module _ (k : ℕ) (l : k < rows) where
    looked : {A : Type 0} (f : Look → A) → f (look_in board k) ≡ f (look_of L s k)
    looked f = ap f (shows.looks k l)

    pub finished-same : (look_in board k).finished ≡ s.finished k
    unfolding look_of
    finished-same = looked (λ look. look.finished)

    pub steps-same : (look_in board k).steps ≡ L.steps k
    unfolding look_of
    steps-same = looked (λ look. look.steps)

    pub opening-same : (look_in board k).opening ≡ s.opening k
    unfolding look_of
    opening-same = looked (λ look. look.opening)

    pub cost-same : (look_in board k).cost ≡ L.cost k (s.finished k)
    unfolding look_of
    cost-same = looked (λ look. look.cost)

    pub release-same : (look_in board k).release ≡ released L s k
    unfolding look_of
    release-same = looked (λ look. look.release)

    pub opened-same : (look_in board k).opened ≡ is_open L s k
    unfolding look_of
    opened-same = looked (λ look. look.opened)

    pub left-same : (look_in board k).left ≡ window_left L s k
    unfolding look_of
    left-same = looked (λ look. look.left)

    pub due-now : (look_in board k).due ≡ due L s k
    unfolding look_of
    due-now = looked (λ look. look.due)

    pub wait-same : (look_in board k).wait ≡ L.wait k (s.finished k)
    unfolding look_of
    wait-same = looked (λ look. look.wait)

    pub stays_same : (look_in board k).stays ≡ is_open L (further s) k
    unfolding look_of
    stays_same = looked (λ look. look.stays)

    pub rest-same : (look_in board k).rest ≡ window_left L (further s) k
    unfolding look_of
    rest-same = looked (λ look. look.rest)

    pub limit-same : (look_in board k).limit ≡ (open_window L (further s) k).limit
    unfolding look_of
    limit-same = looked (λ look. look.limit)
