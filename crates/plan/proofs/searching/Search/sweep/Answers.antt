-- `sweep` goes one class further a turn, and one step number further a round: the rows gone over do not start before
-- the soonest moment.
use mathlib.Core.Path.{◌≡◌, subst}
use native.Mathlib.Omega.{arith}
use Rattle.load.specs.Load.{most_steps}
use Rattle.plan.specs.inner.Turns.{PassedTo, SweptTo}
use Rattle.plan.proofs.SweepLaws.{passed-begin, passed-number, passed-unmarked}
use Rattle.plan.proofs.SweptLaws.{swept-first, swept-to}
use Rattle.plan.proofs.searching.Search.sweep.Goals as goal
use Rattle.plan.proofs.searching.Search.sweep.Goals.{then-self-number+else-loop-turn-test, else-self-number}

pub loop-number-init : goal.loop-number-init
loop-number-init c = (
  omega arith,
  c.args.self.now.lowest_is.most,
  swept-first c.args.self.now.board.now _ _ _ _ c.args.self.now.lowest c.args.self.now.lowest_is,
)

pub loop-turn-init : goal.loop-turn-init
loop-turn-init c =
    swept-to c.args.self.now.board.now _ _ _ _ _ _ _ _
    (λ t a b.
    passed-begin c.args.self.now.board.now _ _ _ t _ c.args.self.now.first_turn c.args.self.now.rows_most)
    c.loop-number.invariant.2

pub sweep_turn-swept-requires : goal.sweep_turn-swept-requires
sweep_turn-swept-requires c = record {
  known = c.requires.known;
  lowest_le_number = (
    c.loop-number.invariant.0,
    c.loop-number-test.true,
    omega (arith, c.loop-turn-test.true),
    omega (arith, c.loop-turn.invariant.most, c.requires.before_bound),
  );
}

pub loop-number-preserved : goal.loop-number-preserved
loop-number-preserved c =
    let loop = c.loop-number in
    let board = c.args.self.now.board.now in (
      omega (arith, loop.invariant.0),
      omega (arith, c.loop-number-test.true),
      elim c.if-self-number.branch [
        | then-self-number+else-loop-turn-test w ↦
            rw (w.row-is, w.soonest-is)
            (swept-to board _ _ _ _ _ _ _ _
            (λ t a b. passed-number board _ _ loop.number t _ (omega (arith, w.loop-turn-test.false)))
            w.loop-turn.invariant)
        | else-self-number w ↦
            rw (w.row-is, w.soonest-is)
            (swept-to board _ _ _ _ _ _ _ _
            (λ t a b.
            passed-unmarked board _ _ c.args.self.now.lowest_is _ t _ c.args.self.now.numbers_in loop.number
            w.if-self-number.false)
            loop.invariant.2)
      ],
    )

pub returns : goal.returns
returns c =
    let loop = c.loop-number in
    let self = c.args.self.now in
    let board = self.board.now in
    let e : loop.number ≡ most_steps = omega (arith, loop.invariant.1, c.loop-number-test.false) in
    subst (λ n. SweptTo board self.classes.now c.args.clock c.args.before self.rows
    (PassedTo board self.classes.now self.rows n 0) loop.row loop.soonest) e loop.invariant.2

pub loop-turn-smaller : goal.loop-turn-smaller
loop-turn-smaller c = omega (arith, c.sweep_turn-swept.ensures.later, c.loop-turn-test.true)

pub loop-turn-preserved : goal.loop-turn-preserved
loop-turn-preserved c = c.sweep_turn-swept.ensures.on _ c.loop-turn.invariant
