-- `sweep_turn` asks one row after the other for its first moment before the soonest so far: a row of another turn is
-- left for that, and any other is passed over up to the moment at which it starts.
use Prim.Native.Nat.{min}
use mathlib.Core.Bool.{true, cond, ◌&&◌}
use mathlib.Core.Logic.{◌≢◌}
use mathlib.Core.Path.{◌≡◌, ap, sym, ◌∙◌}
use native.Mathlib.Omega.{arith}
use borrow.Author.Tests.{eqb-true}
use lib.Dec.{eqb, ltb}
use Rattle.counting.proofs.tests.TestLaws.{and_left, true-false}
use Rattle.plan.specs.Boards.{look_in}
use Rattle.plan.specs.Choices.{turn_in}
use Rattle.plan.specs.inner.Searching.{tried_in}
use Rattle.plan.proofs.SweepLaws.{candidate-tried, passed_on, passed_over, passed-turn, passed-none-yet, next-later}
use Rattle.plan.proofs.SweptLaws.{from-quiet, first-quiet, first-candidate, swept-to, swept-sooner}
use Rattle.plan.proofs.searching.Search.sweep_turn.Goals as goal
use Rattle.plan.proofs.searching.Search.sweep_turn.Goals.{then-is_tried+then-from-soonest+then-here-turn}
use Rattle.plan.proofs.searching.Search.sweep_turn.Goals.{
  then-is_tried+then-from-soonest+else-here-turn+then-moment-soonest,
  then-is_tried+then-from-soonest+else-here-turn+else-moment-soonest,
}
use Rattle.plan.proofs.searching.Search.sweep_turn.Goals.{then-is_tried+else-from-soonest, else-is_tried}

pub loop-i-init : goal.loop-i-init
loop-i-init c =
    let board = c.args.self.now.board.now in (
      omega (arith, c.requires.lowest_le_number),
      omega arith,
      λ last. swept-to board _ _ _ _ _ _ _ _ (λ t a b. passed-none-yet board _ _ _ t _ _),
    )

pub loop-i-preserved : goal.loop-i-preserved
loop-i-preserved c =
    let inv = c.loop-i.invariant in
    let board = c.args.self.now.board.now in
    let number = c.args.number in
    let turn = c.args.turn in
    let next = c.loop-i.next in
    let i = c.loop-i.i in
    let l = c.loop-i-test.true in
    let asks = c.requires.lowest_le_number in
    elim c.if-is_tried.branch [
      | then-is_tried+then-from-soonest+then-here-turn w ↦
          let other : turn_in c.args.self.now.classes.now i ≢ turn =
          λ e. omega (arith, w.if-here-turn.true, w.turn_at-here.ensures, e) in
          let lower = w.next-is
          ∙ (w.next_turn-next.ensures ∙ ap (λ n. cond (ltb turn n) (min n next) next) w.turn_at-here.ensures) in (
            next-later turn _ next _ other inv.0 lower,
            rw w.soonest-is inv.1,
            λ last s. rw (w.row-is, w.soonest-is)
                (swept-to board _ _ _ _ _ _ _ _
                (λ t a b. passed_over board _ _ _ t turn next i l other _ lower)
                (inv.2 last s)),
          )
      | then-is_tried+then-from-soonest+else-here-turn+then-moment-soonest w ↦
          let from = w.row_from-from.ensures in
          let passing = w.first_passing-moment.ensures in
          let sooner = w.if-moment-soonest.true in
          let tried : tried_in board number c.args.self.now.lowest i ≡ true =
          sym c.is_tried.ensures ∙ w.if-is_tried.true in
          let look = look_in board i in
          let same = eqb-true look.finished number
          (and_left (eqb look.finished number) _
          (and_left (eqb look.finished number && ltb number look.steps) _ tried)) in (
            rw w.next-is inv.0,
            rw w.soonest-is (omega (arith, sooner, inv.1)),
            λ last s. rw (w.row-is, w.soonest-is, w.next-is)
                (swept-sooner board _ _ _ _ _ _ _ _ _ _ (inv.2 last s) inv.0 _ l sooner
                (omega (arith, passing.starts sooner, from)) same
                (omega (arith, w.turn_at-here.ensures, w.if-here-turn.false))
                (first-quiet board _ _ _ c.requires.known i l _ from _ _ passing)
                (first-candidate board _ _ _ c.requires.known i l _ from _ _ passing _ _ c.args.self.now.lowest_is
                asks.0 asks.1 tried sooner)
                (passing.passes sooner)),
          )
      | then-is_tried+then-from-soonest+else-here-turn+else-moment-soonest w ↦ (
        rw w.next-is inv.0,
        rw w.soonest-is inv.1,
        λ last s. rw (w.row-is, w.soonest-is, w.next-is)
            (swept-to board _ _ _ _ _ _ _ _
            (λ t a b. passed_on board _ _ number t turn next i
            (λ same. first-quiet board _ _ _ c.requires.known i l _ w.row_from-from.ensures _ _
            w.first_passing-moment.ensures t a
            (omega (arith, w.if-moment-soonest.false))))
            (inv.2 last s)),
      )
      | then-is_tried+else-from-soonest w ↦ (
        rw w.next-is inv.0,
        rw w.soonest-is inv.1,
        λ last s. rw (w.row-is, w.soonest-is, w.next-is)
            (swept-to board _ _ _ _ _ _ _ _
            (λ t a b. passed_on board _ _ number t turn next i
            (λ same. from-quiet board _ _ _ c.requires.known i l _ w.row_from-from.ensures t a
            (omega (arith, w.if-from-soonest.false))))
            (inv.2 last s)),
      )
      | else-is_tried w ↦ (
        rw w.next-is inv.0,
        rw w.soonest-is inv.1,
        λ last s. rw (w.row-is, w.soonest-is, w.next-is)
            (swept-to board _ _ _ _ _ _ _ _
            (λ t a b. passed_on board _ _ number t turn next i
            (λ same candidate.
            absurd
            (true-false c.is_tried.result
            (c.is_tried.ensures
            ∙ candidate-tried board _ _ c.args.self.now.lowest_is number asks.0 asks.1 i t same candidate)
            w.if-is_tried.false)))
            (inv.2 last s)),
      )
    ]

pub returns : goal.returns
returns c =
    let inv = c.loop-i.invariant in
    let board = c.args.self.now.board.now in
    record {
      later = inv.0;
      on = λ last s. swept-to board _ _ _ _ _ _ _ _
          (λ t a b. passed-turn board _ _ _ t _ _ _ c.loop-i-test.false) (inv.2 last s);
    }
