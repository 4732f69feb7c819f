-- Until when a step stays refused that leaves its row with an open window is right: what the walk came to decides which
-- of the ways out it is.
use Prim.Native.Nat.{ℕ, ◌+◌, ◌≤◌, ◌<◌, max}
use mathlib.Core.Bool.{Bool, true, false, cond, not, ◌||◌}
use mathlib.Core.List.{List, [], ◌∷◌}
use mathlib.Core.Path.{◌≡◌, refl, ap, sym, ◌∙◌, subst}
use native.Mathlib.Decide.{dec_lt}
use native.Mathlib.Nat.{zero-add}
use native.Mathlib.Omega.{arith}
use borrow.Author.Tests.{ltb-true}
use lib.Dec.{ltb}
use lib.ListN.{take, drop}
use lib.Seq.{get_or-drop}
use Rattle.counting.specs.Lists.{member_at, keep_in}
use Rattle.counting.proofs.tests.TestLaws.{true-false}
use Rattle.load.specs.Load.{last_moment}
use Rattle.rules.specs.Plan.{Jobs, in_time_by}
use Rattle.rules.proofs.plan.PlanLaws.{in_time_by-none}
use Rattle.rules.proofs.plan.EndLaws.{window_end}
use Rattle.rules.proofs.plan.RefusedLaws.{FirstBehind}
use Rattle.plan.specs.declared.Board.{Board}
use Rattle.plan.specs.Boards.{look_in}
use Rattle.plan.specs.Choices.{opening_by}
use Rattle.plan.specs.inner.Passing.{never, jobs_of, PassesFrom}
use Rattle.plan.specs.inner.Walks.{Walk, others_in, walk_in}
use Rattle.plan.specs.declared.Stay.{Stay}
use Rattle.plan.specs.inner.Staying.{moment_before, stay_of, end_behind, due_behind, stays_until}
use Rattle.plan.proofs.refused.WalkLaws.{others_in-none, others_in-other}
use Rattle.plan.proofs.refused.CameLaws.{Came, StandsFirst, walk-came}
use Rattle.plan.proofs.refused.StayingLaws.{
  stays_until-late,
  stays_until-own,
  stays_until-passes,
  stays_until-behind,
}
use Rattle.plan.proofs.refused.PassingLaws.{PlaceIn, stack_of, own_at}
use Rattle.plan.proofs.refused.UntilLaws.{
  held-before,
  held-own,
  held-behind,
  all_pass,
  shut-before,
  shut-crowded,
  shut-own,
  shut-behind,
}

-- the step of row i, started at a moment
abbrev pub stay_in : Board → ℕ → ℕ → Stay
stay_in board i clock =
    stay_of (look_in board i).opened clock (look_in board i).cost (look_in board i).wait (look_in board i).rest
    (look_in board i).limit (own_at board i clock)

-- row i stands before the first of the others, if before the first row, which is another
stands-behind : (a : Jobs) (i own : ℕ) (l : List ℕ) → StandsFirst a.key i own l
    → FirstBehind a i own (others_in i l)
unfolding keep_in
stands-behind a i own [] first = tt
stands-behind a i own (k ∷ l) first = rw (others_in-other i k l first.0) first.1

module _ (board : Board) (rows i : ℕ) (below : i < rows) (long : PlaceIn board i) (clock : ℕ)
    (most : clock ≤ last_moment) (stays : (look_in board i).stays ≡ true) where
  abbrev walked : Walk
  walked =
      walk_in (jobs_of board) i (own_at board i clock) (stack_of board rows) 0 (clock + (look_in board i).cost) 0

  came : Came (jobs_of board) i (own_at board i clock) (stack_of board rows) 0 (clock
      + (look_in board i).cost) 0 walked
  came =
      walk-came (jobs_of board) i (own_at board i clock) (stack_of board rows) 0 (clock + (look_in board i).cost) 0

  -- how many rows the walk went over
  abbrev gone : ℕ
  gone = came.gone

  place_is : walked.place ≡ gone
  place_is = came.place_is ∙ zero-add gone

  -- when row i's window is finished
  abbrev end : ℕ
  end = end_behind (stay_in board i clock) walked

  -- and so is said by the rows that the walk went over
  abbrev pre : List ℕ
  pre = others_in i (take gone (stack_of board rows))

  abbrev finished : ℕ
  finished =
      window_end (jobs_of board) (clock + (look_in board i).cost) pre (look_in board i).wait (look_in board i).rest

  -- a row that stands before is late
  late-from : walked.late ≡ true → (o : Bool) → (look_in board i).opened ≡ o → PassesFrom board clock rows i never
  late-from e true held =
      held-before board rows i below long clock most stays gone came.ahead held (came.in-time ∙ ap not e)
  late-from e false shut =
      shut-before board rows i below long clock most stays gone came.ahead shut (came.in-time ∙ ap not e)

  module _ (e : walked.late ≡ false) where
    end_is : end ≡ finished
    end_is =
        ap (λ t. max t (clock + (look_in board i).cost + (look_in board i).wait) + (look_in board i).rest)
        (came.time-is e)

    behind : FirstBehind (jobs_of board) i (own_at board i clock) (others_in i (drop gone (stack_of board rows)))
    behind = stands-behind (jobs_of board) i (own_at board i clock) (drop gone (stack_of board rows)) (came.behind e)

    -- its own window is late
    own-from : own_at board i clock < end → (o : Bool) → (look_in board i).opened ≡ o → (c : Bool)
        → ltb (look_in board i).limit ((look_in board i).cost + (look_in board i).rest + walked.work) ≡ c
        → PassesFrom board clock rows i (cond (o || c) never (moment_before end (look_in board i).limit))
    own-from late true held c q =
        held-own board rows i below long clock most stays gone came.ahead held (omega (arith, end_is))
    own-from late false shut true q =
        shut-crowded board rows i below long clock most stays gone came.ahead shut
        (omega (
          arith,
          came.work-is,
          ltb-true (look_in board i).limit ((look_in board i).cost + (look_in board i).rest + walked.work) q,
        ))
    own-from late false shut false q =
        rw end_is
        (shut-own board rows i below long clock most stays gone came.ahead shut (omega (arith, end_is)))

    -- all are in time
    passes-from : end ≤ own_at board i clock
        → in_time_by (jobs_of board) end (others_in i (drop walked.place (stack_of board rows))) ≡ true
        → PassesFrom board clock rows i clock
    passes-from own h =
        all_pass board rows i below long clock most stays gone came.ahead behind (came.in-time ∙ ap not e)
        (omega (arith, end_is)) (rw (end_is, place_is) at h)

    -- a row behind is late: the first of those stands first in what is left of the stack
    first-from : (d : List ℕ) → drop gone (stack_of board rows) ≡ d
        → StandsFirst (member_at board.due) i (own_at board i clock) d
        → in_time_by (jobs_of board) finished (others_in i d) ≡ false → (look_in board i).opened ≡ false
        → PassesFrom board clock rows i
        (moment_before (due_behind i (member_at d 0) (member_at board.due (member_at d 0))) (look_in board i).limit)
    first-from [] is first late shut =
        absurd
        (true-false (in_time_by (jobs_of board) finished (others_in i []))
        (ap (in_time_by (jobs_of board) finished) (others_in-none i) ∙ in_time_by-none (jobs_of board) finished) late)
    first-from (b ∷ more) is first late shut =
        shut-behind board rows i below long clock most stays gone came.ahead shut b (others_in i more)
        (ap (others_in i) is ∙ others_in-other i b more first.0) first.0 first.1.0 first.1.1
        (ap (λ d. in_time_by (jobs_of board) finished (others_in i d)) is ∙ late)

    behind-from : in_time_by (jobs_of board) end (others_in i (drop walked.place (stack_of board rows))) ≡ false
        → (o : Bool) → (look_in board i).opened ≡ o
        → PassesFrom board clock rows i
        (cond o never
        (moment_before
        (due_behind i (member_at (stack_of board rows) walked.place)
        (member_at board.due (member_at (stack_of board rows) walked.place))) (look_in board i).limit))
    behind-from h true held =
        held-behind board rows i below long clock most stays gone came.ahead held behind
        (rw (end_is, place_is) at h)
    behind-from h false shut =
        let there : member_at (drop gone (stack_of board rows)) 0 ≡ member_at (stack_of board rows) walked.place =
        get_or-drop gone (stack_of board rows) 0 0
        ∙ ap (member_at (stack_of board rows)) (omega (arith, place_is)) in
        rw there at
        (first-from (drop gone (stack_of board rows)) refl (came.behind e) (rw (end_is, place_is) at h) shut)

  pub staying-from : PassesFrom board clock rows i
      (stays_until (jobs_of board) (stack_of board rows) i (stay_in board i clock))
  staying-from = go walked.late refl
    where
      last : (e : walked.late ≡ false) → end ≤ own_at board i clock → (b : Bool)
          → in_time_by (jobs_of board) end (others_in i (drop walked.place (stack_of board rows))) ≡ b
          → PassesFrom board clock rows i
          (stays_until (jobs_of board) (stack_of board rows) i (stay_in board i clock))
      last e own true h =
          rw (stays_until-passes (jobs_of board) (stack_of board rows) i (stay_in board i clock) walked refl e end refl
          own h)
          (passes-from e own h)
      last e own false h =
          rw (stays_until-behind (jobs_of board) (stack_of board rows) i (stay_in board i clock) walked refl e end refl
          own h)
          (behind-from e h (look_in board i).opened refl)

      go : (late : Bool) → walked.late ≡ late
          → PassesFrom board clock rows i
          (stays_until (jobs_of board) (stack_of board rows) i (stay_in board i clock))
      go true e =
          rw (stays_until-late (jobs_of board) (stack_of board rows) i (stay_in board i clock) walked refl e)
          (late-from e (look_in board i).opened refl)
      go false e =
          elim (dec_lt (own_at board i clock) end) [
            | yes h ↦
                rw (stays_until-own (jobs_of board) (stack_of board rows) i
                (stay_in board i clock) walked refl e end refl
                h)
                (own-from e h (look_in board i).opened refl
                (ltb (look_in board i).limit ((look_in board i).cost + (look_in board i).rest + walked.work)) refl)
            | no h ↦
                last e (omega arith)
                (in_time_by (jobs_of board) end (others_in i (drop walked.place (stack_of board rows)))) refl
          ]

  -- the same, of a list that is the stack
  pub staying-given : (list : List ℕ) (own r : ℕ) → list ≡ stack_of board rows
      → own ≡ opening_by true (look_in board i).opened (look_in board i).opening clock + (look_in board i).limit
      → r
      ≡ stays_until (jobs_of board) list i
      (stay_of (look_in board i).opened clock (look_in board i).cost (look_in board i).wait (look_in board i).rest
      (look_in board i).limit own)
      → PassesFrom board clock rows i r
  staying-given list own r stack own_is e =
      let then : own ≡ own_at board i clock = own_is ∙ rw stays in
      subst (PassesFrom board clock rows i)
      (sym
      (e
      ∙ ap
      (λ l. stays_until (jobs_of board) l i
      (stay_of (look_in board i).opened clock (look_in board i).cost (look_in board i).wait (look_in board i).rest
      (look_in board i).limit own)) stack
      ∙ ap
      (λ n. stays_until (jobs_of board) (stack_of board rows) i
      (stay_of (look_in board i).opened clock (look_in board i).cost (look_in board i).wait (look_in board i).rest
      (look_in board i).limit n)) then))
      staying-from
