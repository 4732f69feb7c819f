-- Until when a step stays refused that leaves its row with an open window is right: before that moment the plan refuses
-- it, and where it is the clock the step passes. One law for each way out of the walk.
use Prim.Native.Nat.{ℕ, ◌+◌, ◌≤◌, ◌<◌}
use mathlib.Core.Bool.{Bool, true, false, cond}
use mathlib.Core.List.{List, ◌∷◌, ◌++◌}
use mathlib.Core.Logic.{◌≢◌}
use mathlib.Core.Path.{◌≡◌, ap, sym, ◌∙◌}
use native.Mathlib.Decide.{dec_lt}
use native.Mathlib.Nat.{zero-add}
use native.Mathlib.Omega.{arith}
use borrow.Author.Tests.{lt-ltb, le-ltb, le-leb}
use lib.Dec.{ltb}
use lib.ListN.{take, drop, take-append-drop}
use Rattle.counting.specs.Lists.{member_at}
use Rattle.counting.specs.Sorting.{inserted, by_key}
use Rattle.counting.proofs.lists.KeepLaws.{keep_in-append}
use Rattle.counting.proofs.sorting.SortLaws.{Every, total_in}
use Rattle.load.specs.Load.{last_moment}
use Rattle.rules.specs.Plan.{in_time_by}
use Rattle.rules.proofs.plan.EndLaws.{window_end}
use Rattle.rules.proofs.plan.RefusedLaws.{
  Ahead,
  FirstBehind,
  opens-passes,
  refused-before,
  refused-crowded,
  refused-own,
  refused-behind,
}
use Rattle.plan.specs.declared.Board.{Board}
use Rattle.plan.specs.Boards.{look_in}
use Rattle.plan.specs.Choices.{jobs_after, passes_in}
use Rattle.plan.specs.inner.Passing.{never, jobs_of, PassesFrom}
use Rattle.plan.specs.inner.Walks.{others_in}
use Rattle.plan.specs.inner.Staying.{moment_before, due_behind}
use Rattle.plan.proofs.refused.PassingLaws.{
  PlaceIn,
  others_apart,
  stack_of,
  others_of,
  own_at,
  passes-staying,
  passed-now,
  refused-until,
  held-refused,
  opens_at,
  opens-from,
}

module _ (board : Board) (rows i : ℕ) (below : i < rows) (long : PlaceIn board i) (clock : ℕ)
    (most : clock ≤ last_moment) (stays : (look_in board i).stays ≡ true) (gone : ℕ) where
  abbrev cost : ℕ
  cost = (look_in board i).cost

  abbrev wait : ℕ
  wait = (look_in board i).wait

  abbrev rest : ℕ
  rest = (look_in board i).rest

  abbrev limit : ℕ
  limit = (look_in board i).limit

  -- the rows that the walk went over, and those behind them
  abbrev pre : List ℕ
  pre = others_in i (take gone (stack_of board rows))

  abbrev post : List ℕ
  post = others_in i (drop gone (stack_of board rows))

  -- when row i's window is finished
  abbrev end : ℕ
  end = window_end (jobs_of board) (clock + cost) pre wait rest

  split : others_of board rows i ≡ pre ++ post
  split =
      ap (others_in i) (sym (take-append-drop gone (stack_of board rows)))
      ∙ keep_in-append _ (take gone (stack_of board rows)) (drop gone (stack_of board rows))

  apart : Every (λ k. k ≢ i) pre
  apart = others_apart i (take gone (stack_of board rows))

  apart-behind : Every (λ k. k ≢ i) post
  apart-behind = others_apart i (drop gone (stack_of board rows))

  passes-split : (t : ℕ) → passes_in board t rows i
      ≡ in_time_by (jobs_after board t i) (t + cost) (inserted (by_key (jobs_after board t i).key) i (pre ++ post))
  passes-split t =
      passes-staying board rows i below long t stays
      ∙ ap (λ l. in_time_by (jobs_after board t i) (t + cost) (inserted (by_key (jobs_after board t i).key) i l)) split

  -- the plan at the clock, as if it began at 0
  from_zero : in_time_by (jobs_after board clock i) (0 + (clock + cost))
      (inserted (by_key (jobs_after board clock i).key) i (pre ++ post))
      ≡ passes_in board clock rows i
  from_zero = rw (zero-add (clock + cost)) (sym (passes-split clock))

  module _ (ahead : Every (Ahead (jobs_of board) i (own_at board i clock)) pre) where
    ahead-zero : Every (Ahead (jobs_of board) i (0 + own_at board i clock)) pre
    ahead-zero = rw (zero-add (own_at board i clock)) ahead

    -- its window is open already
    module _ (held : (look_in board i).opened ≡ true) where
      pub held-before : in_time_by (jobs_of board) (clock + cost) pre ≡ false → PassesFrom board clock rows i never
      held-before late =
          held-refused board rows i below long clock most stays held
          (sym from_zero
          ∙ refused-before (jobs_of board) (jobs_after board clock i) i 0 0 (clock + cost) wait rest
          (own_at board i clock) (own_at board i clock) (opens-from board rows i below long clock)
          (omega arith) pre post
          apart ahead-zero (rw (zero-add (clock + cost)) late))

      pub held-own : own_at board i clock < end → PassesFrom board clock rows i never
      held-own late =
          held-refused board rows i below long clock most stays held
          (sym from_zero
          ∙ refused-own (jobs_of board) (jobs_after board clock i) i 0 0 (clock + cost) wait rest
          (own_at board i clock) (own_at board i clock) (opens-from board rows i below long clock)
          (omega arith) pre post
          apart ahead-zero (rw (zero-add (clock + cost), zero-add (own_at board i clock)) late))

      pub held-behind : FirstBehind (jobs_of board) i (own_at board i clock) post
          → in_time_by (jobs_of board) end post ≡ false → PassesFrom board clock rows i never
      held-behind first late =
          held-refused board rows i below long clock most stays held
          (sym from_zero
          ∙ refused-behind (jobs_of board) (jobs_after board clock i) i 0 0 (clock + cost) wait rest
          (own_at board i clock) (own_at board i clock) (opens-from board rows i below long clock)
          (omega arith) pre post
          apart ahead-zero apart-behind (rw (zero-add (own_at board i clock)) first)
          (rw (zero-add (clock + cost)) late))

    -- all are in time
    pub all_pass : FirstBehind (jobs_of board) i (own_at board i clock) post
        → in_time_by (jobs_of board) (clock + cost) pre ≡ true → end ≤ own_at board i clock
        → in_time_by (jobs_of board) end post ≡ true → PassesFrom board clock rows i clock
    all_pass first before own behind =
        passed-now board rows i below long clock most
        (sym from_zero
        ∙ opens-passes (jobs_of board) (jobs_after board clock i) i 0 (clock + cost) wait rest
        (own_at board i clock) (own_at board i clock) (opens-from board rows i below long clock) pre post
        apart ahead-zero apart-behind (rw (zero-add (own_at board i clock)) first)
        ∙ rw (zero-add (clock + cost), zero-add (own_at board i clock), before, le-leb end (own_at board i clock) own)
        behind)

    -- its step opens its window
    module _ (shut : (look_in board i).opened ≡ false) where
      own_is : own_at board i clock ≡ clock + limit
      own_is = rw (stays, shut)

      ahead-then : Every (Ahead (jobs_of board) i (clock + limit)) pre
      ahead-then = rw (← own_is) ahead

      pub shut-before : in_time_by (jobs_of board) (clock + cost) pre ≡ false → PassesFrom board clock rows i never
      shut-before late =
          refused-until board rows i below long clock most never (omega arith)
          (λ t l h.
          passes-split t
          ∙ refused-before (jobs_of board) (jobs_after board t i) i clock t cost wait rest limit limit
          (opens_at board rows i below long t stays shut) l pre post apart ahead-then late)

      pub shut-crowded : limit < cost + rest + total_in (member_at board.left) pre
          → PassesFrom board clock rows i never
      shut-crowded late =
          refused-until board rows i below long clock most never (omega arith)
          (λ t l h.
          passes-split t
          ∙ refused-crowded (jobs_of board) (jobs_after board t i) i clock t cost wait rest limit limit
          (opens_at board rows i below long t stays shut) l pre post apart ahead-then late)

      pub shut-own : own_at board i clock < end → PassesFrom board clock rows i (moment_before end limit)
      shut-own late =
          refused-until board rows i below long clock most (moment_before end limit) (omega (arith, own_is))
          (λ t l h.
          passes-split t
          ∙ refused-own (jobs_of board) (jobs_after board t i) i clock t cost wait rest limit limit
          (opens_at board rows i below long t stays shut) l pre post apart ahead-then (omega (arith, h)))

      pub shut-behind : (b : ℕ) (more : List ℕ) → post ≡ b ∷ more → b ≢ i
          → own_at board i clock ≤ member_at board.due b
          → (own_at board i clock ≡ member_at board.due b → i ≤ b) → in_time_by (jobs_of board) end post ≡ false
          → PassesFrom board clock rows i (moment_before (due_behind i b (member_at board.due b)) limit)
      shut-behind b more is ne keys ties late =
          refused-until board rows i below long clock most until later
          (λ t l h.
          passes-split t
          ∙ refused-behind (jobs_of board) (jobs_after board t i) i clock t cost wait rest limit limit
          (opens_at board rows i below long t stays shut) l pre post apart ahead-then apart-behind
          (rw is (still t h)) late)
        where
          until : ℕ
          until = moment_before (due_behind i b (member_at board.due b)) limit

          due-then : (c : Bool) → ltb i b ≡ c → until
              ≡ moment_before (cond c (member_at board.due b + 1) (member_at board.due b)) limit
          due-then c e = ap (λ p. moment_before (cond p (member_at board.due b + 1) (member_at board.due b)) limit) e

          later : clock < until
          later =
              elim (dec_lt i b) [
                | yes l ↦ omega (arith, own_is, due-then true (lt-ltb i b l))
                | no l ↦
                    let apart_of : own_at board i clock ≢ member_at board.due b = λ e. ne (omega (arith, ties e)) in
                    omega (arith, own_is, apart_of, due-then false (le-ltb i b (omega arith)))
              ]

          still : (t : ℕ) → t < until → FirstBehind (jobs_of board) i (t + limit) (b ∷ more)
          still t h =
              elim (dec_lt i b) [
                | yes l ↦ let e = due-then true (lt-ltb i b l) in (omega arith, λ q. omega arith)
                | no l ↦
                    let e = due-then false (le-ltb i b (omega arith)) in
                    (omega arith, λ q. absurd (omega arith))
              ]
