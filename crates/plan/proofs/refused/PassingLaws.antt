-- What the plan says of a step, in terms of the open rows in the stack's order: they are the others as they were, and
-- the row where it is due now, if its window is open. A step that leaves it shut, or whose window is open, stays
-- refused.
use Prim.Native.Nat.{ℕ, ◌+◌, ◌≤◌, ◌<◌}
use mathlib.Core.Bool.{Bool, true, false, cond}
use mathlib.Core.List.{List, [], ◌∷◌}
use mathlib.Core.Logic.{◌≢◌}
use mathlib.Core.Path.{◌≡◌, ap, sym, ◌∙◌}
use native.Mathlib.Decide.{ℕ_discrete}
use native.Mathlib.Nat.{zero-add}
use native.Mathlib.Omega.{arith}
use lib.ListN.{length, set}
use lib.Seq.{get_or-set_same, get_or-set_other}
use Rattle.counting.specs.Lists.{member_at, is_marked, keep_in}
use Rattle.counting.specs.Sorting.{inserted, by_key}
use Rattle.counting.proofs.sorting.SortLaws.{Every, Every-map, Every-at, at-Every}
use Rattle.load.specs.Load.{most_rows, last_moment}
use Rattle.rules.specs.Plan.{in_time_by, stack_by}
use Rattle.rules.proofs.plan.PlanLaws.{SameJob, EasierJob, in_time_by-ext}
use Rattle.rules.proofs.plan.StackOrder.{stack_by-rows, stack_by-without, stack_by-with}
use Rattle.rules.proofs.plan.RefusedLaws.{Opens, refused-still}
use Rattle.plan.specs.declared.Board.{Board}
use Rattle.plan.specs.Boards.{look_in}
use Rattle.plan.specs.Choices.{opening_in, open_after, jobs_after, passes_in}
use Rattle.plan.specs.inner.Passing.{never, jobs_of, PassesFrom}
use Rattle.plan.specs.inner.Walks.{RowsIn, others_in}
use Rattle.plan.proofs.refused.WalkLaws.{others_in-own, others_in-other}

-- the lists that a step changes have a place for row i
pub record PlaceIn (board : Board) (i : ℕ) : Type 0 where
  pub in-opened : i < length board.opened
  pub in-release : i < length board.release
  pub in_left : i < length board.left
  pub in-due : i < length board.due

-- none of the others is row i
pub others_apart : (i : ℕ) (l : List ℕ) → Every (λ k. k ≢ i) (others_in i l)
unfolding keep_in
others_apart i [] = tt
others_apart i (k ∷ l) =
    elim (ℕ_discrete k i) [
      | yes e ↦ rw (others_in-own i k l e) (others_apart i l)
      | no ne ↦ rw (others_in-other i k l ne) (ne, others_apart i l)
    ]

-- the open rows in the stack's order
abbrev pub stack_of : Board → ℕ → List ℕ
stack_of board rows = stack_by (is_marked board.opened) (member_at board.due) rows

-- and but row i
abbrev pub others_of : Board → ℕ → ℕ → List ℕ
others_of board rows i = others_in i (stack_of board rows)

-- when row i's window is due that is open after a step started at t
abbrev pub own_at : Board → ℕ → ℕ → ℕ
own_at board i t = opening_in board t i + (look_in board i).limit

-- the stack is a list of rows
pub stack_rows : (board : Board) (rows : ℕ) (stack : List ℕ) → rows ≤ most_rows → length stack ≤ most_rows
    → stack ≡ stack_of board rows → RowsIn stack
stack_rows board rows stack few most e =
    record {
      most = most;
      below = λ k l.
          let inside = Every-at (λ m. m < rows) stack k 0
          (rw e (stack_by-rows (is_marked board.opened) (member_at board.due) rows)) l in
          omega arith;
    }

module _ (board : Board) (rows i : ℕ) (below : i < rows) (long : PlaceIn board i) where
  pub asked-same : (t k : ℕ) → k ≢ i → SameJob (jobs_after board t i) (jobs_of board) k
  asked-same t k ne =
      record {
        key-same = get_or-set_other board.due i k (own_at board i t) 0 ne;
        release-same = get_or-set_other board.release i k (t + (look_in board i).cost + (look_in board i).wait) 0 ne;
        left-same = get_or-set_other board.left i k (look_in board i).rest 0 ne;
        due-same = get_or-set_other board.due i k (own_at board i t) 0 ne;
      }

  others_same : (t : ℕ) (k : ℕ) → k < rows → k ≢ i → (jobs_after board t i).key k ≡ member_at board.due k
  others_same t k l ne = get_or-set_other board.due i k (own_at board i t) 0 ne

  marks-same : (k : ℕ) → k < rows → k ≢ i → is_marked (open_after board i) k ≡ is_marked board.opened k
  marks-same k l ne = get_or-set_other board.opened i k (look_in board i).stays false ne

  own-mark : is_marked (open_after board i) i ≡ (look_in board i).stays
  own-mark = get_or-set_same board.opened i (look_in board i).stays false long.in-opened

  pub own-release : (t : ℕ) → (jobs_after board t i).release i ≡ t + (look_in board i).cost + (look_in board i).wait
  own-release t =
      get_or-set_same board.release i (t + (look_in board i).cost + (look_in board i).wait) 0 long.in-release

  pub own-left : (t : ℕ) → (jobs_after board t i).left i ≡ (look_in board i).rest
  own-left t = get_or-set_same board.left i (look_in board i).rest 0 long.in_left

  pub own-due : (t : ℕ) → (jobs_after board t i).due i ≡ own_at board i t
  own-due t = get_or-set_same board.due i (own_at board i t) 0 long.in-due

  -- after a step that leaves its row with no open window, the plan is that of the others
  passes-closed : (t : ℕ) → (look_in board i).stays ≡ false
      → passes_in board t rows i ≡ in_time_by (jobs_of board) (t + (look_in board i).cost) (others_of board rows i)
  unfolding passes_in
  passes-closed t shut =
      ap (in_time_by (jobs_after board t i) (t + (look_in board i).cost))
      (stack_by-without (is_marked board.opened) (is_marked (open_after board i)) (member_at board.due)
      (jobs_after board t i).key rows i (own-mark ∙ shut) marks-same (others_same t))
      ∙ in_time_by-ext (jobs_after board t i) (jobs_of board) (t + (look_in board i).cost) (others_of board rows i)
      (Every-map (λ k. k ≢ i) (SameJob (jobs_after board t i) (jobs_of board)) (others_of board rows i) (asked-same t)
      (others_apart i (stack_of board rows)))

  -- else row i is among them, where it is due then
  pub passes-staying : (t : ℕ) → (look_in board i).stays ≡ true
      → passes_in board t rows i
      ≡ in_time_by (jobs_after board t i) (t + (look_in board i).cost)
      (inserted (by_key (jobs_after board t i).key) i (others_of board rows i))
  unfolding passes_in
  passes-staying t stays =
      ap (in_time_by (jobs_after board t i) (t + (look_in board i).cost))
      (stack_by-with (is_marked board.opened) (is_marked (open_after board i)) (member_at board.due)
      (jobs_after board t i).key rows i below (own-mark ∙ stays) marks-same (others_same t))

  module _ (clock : ℕ) (most : clock ≤ last_moment) where
    pub passed-now : passes_in board clock rows i ≡ true → PassesFrom board clock rows i clock
    passed-now e =
        record { from = omega arith; passes = λ _. e; refused = λ t l h. absurd (omega arith) }

    pub refused-until : (r : ℕ) → clock < r
        → ((t : ℕ) → clock ≤ t → t < r → passes_in board t rows i ≡ false) → PassesFrom board clock rows i r
    refused-until r l h =
        record { from = omega arith; passes = λ e. absurd (omega arith); refused = h }

    -- a step that leaves its row with no open window
    closed-from : (b : Bool) → b ≡ in_time_by (jobs_of board) (clock + (look_in board i).cost) (others_of board rows i)
        → (look_in board i).stays ≡ false → PassesFrom board clock rows i (cond b clock never)
    closed-from true e shut = passed-now (passes-closed clock shut ∙ sym e)
    closed-from false e shut =
        refused-until never (omega arith)
        (λ t l h.
        passes-closed t shut
        ∙ refused-still (jobs_of board) (jobs_of board) clock t (look_in board i).cost (others_of board rows i)
        (at-Every (EasierJob (jobs_of board) (jobs_of board)) (others_of board rows i) 0
        (λ n b. record { release-le = omega arith; left_le = omega arith; due-le = omega arith }))
        l (sym e))

    -- the same, of a list that is the stack
    pub closed-given : (stack : List ℕ) (b : Bool) → stack ≡ stack_of board rows
        → b ≡ in_time_by (jobs_of board) (clock + (look_in board i).cost) (others_in i stack)
        → (look_in board i).stays ≡ false → PassesFrom board clock rows i (cond b clock never)
    closed-given stack b same e =
        closed-from b
        (e ∙ ap (λ l. in_time_by (jobs_of board) (clock + (look_in board i).cost) (others_in i l)) same)

    -- a step whose window is open already is due when it was
    own_same : (t : ℕ) → (look_in board i).opened ≡ true → own_at board i t ≡ own_at board i clock
    own_same t held = rw held

    easier : (t : ℕ) → clock ≤ t → (look_in board i).opened ≡ true → (k : ℕ)
        → EasierJob (jobs_after board t i) (jobs_after board clock i) k
    easier t l held k =
        elim (ℕ_discrete k i) [
          | yes e ↦
              rw e
              (record {
                release-le = omega (arith, own-release t, own-release clock);
                left_le = omega (arith, own-left t, own-left clock);
                due-le = omega (arith, own-due t, own-due clock, own_same t held);
              })
          | no ne ↦
              let now = asked-same clock k ne in
              let then = asked-same t k ne in
              record {
                release-le = omega (arith, now.release-same, then.release-same);
                left_le = omega (arith, now.left-same, then.left-same);
                due-le = omega (arith, now.due-same, then.due-same);
              }
        ]

    -- so it stays refused
    pub held-refused : (look_in board i).stays ≡ true → (look_in board i).opened ≡ true
        → passes_in board clock rows i ≡ false → PassesFrom board clock rows i never
    held-refused stays held late =
        refused-until never (omega arith)
        (λ t l h.
        passes-staying t stays
        ∙ ap
        (λ own.
        in_time_by (jobs_after board t i) (t + (look_in board i).cost)
        (inserted (by_key (member_at (set board.due i own))) i (others_of board rows i)))
        (own_same t held)
        ∙ refused-still (jobs_after board clock i) (jobs_after board t i) clock t (look_in board i).cost
        (inserted (by_key (jobs_after board clock i).key) i (others_of board rows i))
        (at-Every (EasierJob (jobs_after board t i) (jobs_after board clock i))
        (inserted (by_key (jobs_after board clock i).key) i (others_of board rows i)) 0 (λ n b. easier t l held _)) l
        (sym (passes-staying clock stays) ∙ late))

  -- a step that opens its row's window
  pub opens_at : (t : ℕ) → (look_in board i).stays ≡ true → (look_in board i).opened ≡ false
      → Opens (jobs_of board) (jobs_after board t i) i t (look_in board i).cost (look_in board i).wait
      (look_in board i).rest (look_in board i).limit (look_in board i).limit
  opens_at t stays shut =
      let own : own_at board i t ≡ t + (look_in board i).limit = rw (stays, shut) in
      record {
        others = asked-same t;
        key-is = own-due t ∙ own;
        release-is = own-release t;
        left_is = own-left t;
        due-is = own-due t ∙ own;
      }

  -- a step after which it is open, as if the plan began with it at 0
  pub opens-from : (t : ℕ)
      → Opens (jobs_of board) (jobs_after board t i) i 0 (t + (look_in board i).cost) (look_in board i).wait
      (look_in board i).rest (own_at board i t) (own_at board i t)
  opens-from t =
      record {
        others = asked-same t;
        key-is = own-due t ∙ sym (zero-add (own_at board i t));
        release-is = own-release t ∙ ap (λ n. n + (look_in board i).wait) (sym (zero-add (t + (look_in board i).cost)));
        left_is = own-left t;
        due-is = own-due t ∙ sym (zero-add (own_at board i t));
      }
