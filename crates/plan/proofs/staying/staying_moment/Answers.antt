-- `staying_moment` goes over the rows that stand before, then finishes its own window, then asks those behind it.
use Prim.Native.Nat.{ℕ, ◌+◌, ◌-◌, ◌<◌}
use mathlib.Core.Bool.{cond, ◌||◌}
use mathlib.Core.List.{List}
use mathlib.Core.Path.{◌≡◌, refl, ap, sym, ◌∙◌}
use native.Mathlib.Nat.{add-zero}
use native.Mathlib.Decide.{dec_lt}
use native.Mathlib.Omega.{arith}
use lib.Dec.{ltb}
use lib.ListN.{length, take, drop, length-drop}
use lib.Seq.{get_or-drop}
use Rattle.counting.specs.Lists.{member_at}
use Rattle.counting.proofs.tests.TestLaws.{true-false}
use Rattle.rules.specs.Plan.{Jobs, in_time_by}
use Rattle.std.proofs.lemmas.List.{take_rest}
use Rattle.plan.specs.inner.Walks.{others_in, walk_in}
use Rattle.plan.specs.inner.Passing.{never, jobs_of}
use Rattle.plan.specs.inner.Staying.{moment_before, behind_until}
use Rattle.plan.proofs.refused.WalkLaws.{in_time_from-none, walked_late, walked_given}
use Rattle.plan.proofs.refused.StayingLaws.{stays_until-late, stays_until-own, stays_until-passes, stays_until-behind}
use Rattle.plan.proofs.staying.staying_moment.Goals as goal
use Rattle.plan.proofs.staying.staying_moment.Goals.{Else-are_in_time}

-- the rows from a place on are what is left of the list
behind : (jobs : Jobs) (end i : ℕ) (stack : List ℕ) (place : ℕ)
    → in_time_by jobs end (others_in i (take (length stack - place) (drop place stack)))
    ≡ in_time_by jobs end (others_in i (drop place stack))
behind jobs end i stack place = ap (λ l. in_time_by jobs end (others_in i l)) (take_rest stack place)

pub returns-in_default : goal.returns-in_default
returns-in_default c =
    sym
    (stays_until-late (jobs_of c.args.board.now) c.args.stack.now c.args.i c.args.stay.now _ refl
    (walked_late
    (walk_in (jobs_of c.args.board.now) c.args.i c.args.stay.now.own c.args.stack.now 0
    (c.args.stay.now.clock + c.args.stay.now.cost) 0)
    (sym c.in_default.is ∙ c.rows_before.ensures.value)))

pub returns-then-stay-end : goal.returns-then-stay-end
returns-then-stay-end c =
    let stay = c.args.stay.now in
    let work = stay.cost + stay.rest + c.in-Some.walked.work in
    c.own_moment.ensures
    ∙ ap (λ end. cond (stay.opened || ltb stay.limit work) never (moment_before end stay.limit))
    c.finish-end.ensures.0
    ∙ sym
    (stays_until-own (jobs_of c.args.board.now) c.args.stack.now c.args.i
    stay _ (walked_given c.in-Some.walked _ c.in-Some.ensures.value) refl
    c.finish-end.result.time c.finish-end.ensures.0 c.if-stay-end.true)

pub returns-then-are_in_time : goal.returns-then-are_in_time
returns-then-are_in_time c =
    sym
    (stays_until-passes (jobs_of c.args.board.now) c.args.stack.now c.args.i
    c.args.stay.now _ (walked_given c.in-Some.walked _ c.in-Some.ensures.value) refl
    c.finish-end.result.time c.finish-end.ensures.0 c.if-stay-end.false
    (sym (c.are_in_time.ensures ∙ behind _ _ _ c.args.stack.now c.in-Some.walked.place)
    ∙ c.if-are_in_time.true))

-- a row stands behind: else none would be late
placed : (c : Else-are_in_time) → c.in-Some.walked.place < length c.args.stack.now
placed c =
    let place = c.in-Some.walked.place in
    elim (dec_lt place (length c.args.stack.now)) [
      | yes l ↦ l
      | no l ↦
          absurd
          (true-false c.are_in_time.result
          (c.are_in_time.ensures ∙ behind _ _ _ c.args.stack.now c.in-Some.walked.place
          ∙ in_time_from-none (jobs_of c.args.board.now) c.args.stack.now c.args.i
          place c.finish-end.result.time (omega arith))
          c.if-are_in_time.false)
    ]

pub returns : goal.returns
returns c =
    let place = c.in-Some.walked.place in
    let stack = c.args.stack.now in
    let stay = c.args.stay.now in
    let jobs = jobs_of c.args.board.now in
    let there = ap (λ l. member_at l 0) (take_rest stack place) ∙ get_or-drop place stack 0 0
    ∙ ap (member_at stack) (add-zero place) in
    c.behind_moment.ensures
    ∙ ap (λ b. behind_until c.args.i stay b (jobs.due b)) there
    ∙ sym
    (stays_until-behind jobs stack c.args.i
    stay _ (walked_given c.in-Some.walked _ c.in-Some.ensures.value) refl
    c.finish-end.result.time c.finish-end.ensures.0 c.if-stay-end.false
    (sym (c.are_in_time.ensures ∙ behind _ _ _ c.args.stack.now c.in-Some.walked.place)
    ∙ c.if-are_in_time.false))

pub bounds-behind-0 : goal.bounds-behind-0
bounds-behind-0 c =
    let place = c.in-Some.walked.place in
    let l = placed (goal.at.bounds-behind-0 c).Else-are_in_time in
    rw take_rest (omega (arith, length-drop place c.args.stack.now))
