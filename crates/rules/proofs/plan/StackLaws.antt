-- The stack of open windows: it looks at which rows are open and at their keys; what every open row has, each of its
-- rows has; a tick keeps the plan while its first row waits; and a start leaves all rows but one as they are.
use Prim.Native.Nat.{ℕ, suc, ◌+◌, ◌≤◌, ◌<◌}
use mathlib.Core.Bool.{Bool, true, false}
use mathlib.Core.List.{[]}
use mathlib.Core.Logic.{◌≢◌}
use mathlib.Core.Path.{◌≡◌, refl, ap, ap₂, ◌∙◌}
use Rattle.counting.specs.Lists.{numbers_where}
use Rattle.counting.specs.Sorting.{by_key}
use Rattle.counting.proofs.sorting.SortLaws.{Every, Every-sorted}
use Rattle.counting.proofs.lists.EveryLaws.{every-numbers_where, numbers_where-every, sorted-every}
use Rattle.counting.proofs.sorting.KeyLaws.{sorted-same}
use Rattle.counting.proofs.searches.SelectionLaws.{sorted-nothing}
use Rattle.load.specs.View.{View, opens_at}
use Rattle.load.proofs.WindowLeft.{limit_at, left_at}
use Rattle.rules.specs.State.{State, is_open}
use Rattle.rules.specs.Ready.{release, released}
use Rattle.rules.specs.Plan.{Jobs, in_time_by, stack_by, plan_by, due, window_left, jobs, stack, plan_passes}
use Rattle.rules.specs.Move.{started, ticked, opening_after}
use Rattle.rules.proofs.moves.MoveLaws.{
  started-finished-same,
  started-finished-other,
  started-end-same,
  started-end-other,
  started-opening-same,
  started-opening-other,
}
use Rattle.rules.proofs.plan.PlanLaws.{SameJob, FirstWaits, in_time_by-ext, in_time_by-tick, in_time_by-true}

pub due-is : (L : View) (s : State) (i : ℕ) → due L s i ≡ s.opening i + limit_at L i (s.finished i)
unfolding due
due-is L s i = refl

pub window_left-is : (L : View) (s : State) (i : ℕ) → window_left L s i ≡ left_at L i (s.finished i)
unfolding window_left left_at
window_left-is L s i = refl

-- what every open row has, every row of the stack has, and the other way
module _ (opened : ℕ → Bool) (key : ℕ → ℕ) (rows : ℕ) (P : ℕ → Type 0) where
  pub every-stack_by : ((i : ℕ) → i < rows → opened i ≡ true → P i) → Every P (stack_by opened key rows)
  unfolding stack_by
  every-stack_by h = Every-sorted (by_key key) P (numbers_where opened rows) (every-numbers_where P opened rows h)

  pub stack_by-every : Every P (stack_by opened key rows) → (i : ℕ) → i < rows → opened i ≡ true → P i
  unfolding stack_by
  stack_by-every e =
      numbers_where-every P opened rows (sorted-every P (by_key key) (numbers_where opened rows) e)

-- the stack looks at the open rows, and at their keys
pub stack_by-ext : (p p' : ℕ → Bool) (key key' : ℕ → ℕ) (rows : ℕ) → ((i : ℕ) → i < rows → p i ≡ p' i)
    → ((i : ℕ) → i < rows → p i ≡ true → key i ≡ key' i) → stack_by p key rows ≡ stack_by p' key' rows
unfolding stack_by
stack_by-ext p p' key key' rows hp hk = sorted-same key key' p p' rows hp hk

-- no window is open
pub stack_by-none : (opened : ℕ → Bool) (key : ℕ → ℕ) (rows : ℕ) → ((i : ℕ) → i < rows → opened i ≡ false)
    → stack_by opened key rows ≡ []
unfolding stack_by
stack_by-none opened key rows h = sorted-nothing key opened rows h

-- the plan looks at the open rows, and at what it asks of them
pub plan_by-ext : (p p' : ℕ → Bool) (a b : Jobs) (rows t : ℕ) → ((i : ℕ) → i < rows → p i ≡ p' i)
    → ((i : ℕ) → i < rows → p i ≡ true → SameJob a b i) → plan_by p a rows t ≡ plan_by p' b rows t
plan_by-ext p p' a b rows t hp hj =
    in_time_by-ext a b t (stack_by p a.key rows) (every-stack_by p a.key rows (SameJob a b) hj)
    ∙ ap (in_time_by b t) (stack_by-ext p p' a.key b.key rows hp (λ i l o. (hj i l o).key-same))

-- every open window can be finished in time by itself
pub plan-in-time : (L : View) (s : State) (t : ℕ) → plan_passes L s t ≡ true → (i : ℕ) → i < L.rows
    → is_open L s i ≡ true → t + window_left L s i ≤ due L s i
plan-in-time L s t p =
    stack_by-every (is_open L s) (due L s) L.rows (λ i. t + window_left L s i ≤ due L s i)
    (in_time_by-true (jobs L s) t (stack L s) p)

-- a tick
pub tick-passes : (L : View) (s : State) → FirstWaits (released L s) s.clock (stack L s)
    → plan_passes L s s.clock ≡ true → plan_passes L (ticked s) (ticked s).clock ≡ true
unfolding ticked due window_left
tick-passes L s h p = in_time_by-tick (jobs L s) s.clock (stack L s) h ∙ p

-- a start leaves the other rows as they are
module _ (L : View) (s : State) (k long : ℕ) where
  pub is_open-other : (i : ℕ) → i ≢ k → is_open L (started L s k long) i ≡ is_open L s i
  is_open-other i ne = rw (started-finished-other L s k long i ne)

  pub is_open-same : is_open L (started L s k long) k ≡ opens_at L k (suc (s.finished k))
  is_open-same = ap (opens_at L k) (started-finished-same L s k long)

  due-other : (i : ℕ) → i ≢ k → due L (started L s k long) i ≡ due L s i
  unfolding due
  due-other i ne = rw (started-finished-other L s k long i ne, started-opening-other L s k long i ne)

  pub job-other : (i : ℕ) → i ≢ k → SameJob (jobs L (started L s k long)) (jobs L s) i
  unfolding window_left
  job-other i ne =
      record {
        key-same = due-other i ne;
        release-same = rw (started-finished-other L s k long i ne, started-end-other L s k long i ne);
        left-same = rw (started-finished-other L s k long i ne);
        due-same = due-other i ne;
      }

  pub released-same : released L (started L s k long) k ≡ s.clock + long + L.wait k (s.finished k)
  released-same = ap₂ (release L k) (started-finished-same L s k long) (started-end-same L s k long)

  pub window_left-same : window_left L (started L s k long) k ≡ left_at L k (suc (s.finished k))
  window_left-same = window_left-is L (started L s k long) k ∙ ap (left_at L k) (started-finished-same L s k long)

  pub due-same : due L (started L s k long) k ≡ opening_after L s k s.clock + limit_at L k (suc (s.finished k))
  due-same =
      due-is L (started L s k long) k
      ∙ ap₂ (λ o f. o + limit_at L k f) (started-opening-same L s k long) (started-finished-same L s k long)
