-- `first_row` passes over one row after the other, and goes one class further a turn and one step number further a
-- round, until a candidate passes.
use Prim.Native.Nat.{min}
use mathlib.Core.Bool.{true, cond, ◌&&◌}
use mathlib.Core.Logic.{◌≢◌}
use mathlib.Core.Path.{◌≡◌, refl, ap, sym, ◌∙◌}
use native.Mathlib.Omega.{arith}
use borrow.Author.Tests.{eqb-true, leb-true}
use lib.Dec.{eqb, leb, ltb}
use Rattle.counting.specs.Searches.{at, none}
use Rattle.counting.proofs.tests.TestLaws.{and_left, and_right}
use Rattle.plan.specs.Boards.{look_in}
use Rattle.plan.specs.Choices.{turn_in}
use Rattle.plan.specs.inner.Searching.{tried_in}
use Rattle.plan.proofs.ReadyLaws.{not-ready}
use Rattle.plan.proofs.SearchLaws.{candidate-ends, first-chosen}
use Rattle.plan.proofs.SweepLaws.{tried-candidate, refused-more, chosen_is}
use Rattle.plan.proofs.SweepLaws.{passed_on, passed_over, passed-turn, passed-number, passed-unmarked}
use Rattle.plan.proofs.SweepLaws.{passed_none, next-later, passed_first, passed-begin, passed-none-yet}
use Rattle.plan.proofs.searching.Search.first_row.Goals as goal
use Rattle.plan.proofs.searching.Search.first_row.Goals.{then-is_ready+then-here-turn}
use Rattle.plan.proofs.searching.Search.first_row.Goals.{then-is_ready+else-here-turn+else-moment-clock, else-is_ready}
use Rattle.plan.proofs.searching.Search.first_row.Goals.{then-self-number+else-loop-turn-test, else-self-number}

pub search-init : goal.search-init
search-init c = (
  refl,
  omega arith,
  c.requires.known,
  passed_first c.args.self.now.board.now _ _ c.args.self.now.lowest_is _ c.args.clock,
)

pub loop-turn-init : goal.loop-turn-init
loop-turn-init c =
    let inv = c.search.invariant in (
      inv.0,
      inv.2,
      passed-begin c.args.self.now.board.now _ _ _ _ _ c.args.self.now.first_turn
          c.args.self.now.rows_most inv.3,
    )

pub loop-i-init : goal.loop-i-init
loop-i-init c =
    let inv = c.loop-turn.invariant in
    (inv.0, c.loop-turn-test.true, inv.1, passed-none-yet _ _ _ _ _ _ _ inv.2)

pub loop-i-preserved : goal.loop-i-preserved
loop-i-preserved c =
    let inv = c.loop-i.invariant in
    let board = c.args.self.now.board.now in
    let tried = c.loop-turn.turn in
    let next = c.loop-i.next in
    let i = c.loop-i.i in
    let l = c.loop-i-test.true in
    let self = c.args.self.now in
    let pass = passed_on board self.classes.now self.rows c.search.number c.args.clock tried next i in
    elim c.if-is_ready.branch [
      | then-is_ready+then-here-turn w ↦
          let other : turn_in c.args.self.now.classes.now i ≢ tried =
          λ e. omega (arith, w.if-here-turn.true, w.turn_at-here.ensures, e) in
          let lower = w.next-is
          ∙ (w.next_turn-next.ensures ∙ ap (λ n. cond (ltb tried n) (min n next) next) w.turn_at-here.ensures) in (
            inv.0,
            next-later tried _ next _ other inv.1 lower,
            rw w.until-is inv.2,
            passed_over board _ _ _ _ tried next i l other _ lower inv.3,
          )
      | then-is_ready+else-here-turn+else-moment-clock w ↦
          let until = w.tried_until-moment.ensures in (
            inv.0,
            rw w.next-is inv.1,
            rw w.until-is (refused-more board _ _ _ c.args.self.now.rows_most inv.2 i _ l until),
            rw w.next-is
                (pass
                (λ same candidate.
                until.refused c.args.clock (omega arith) (omega (arith, until.from, w.if-moment-clock.false))
                (candidate-ends (look_in board i) c.args.clock _ candidate))
                inv.3),
          )
      | else-is_ready w ↦ (
        inv.0,
        rw w.next-is inv.1,
        rw w.until-is inv.2,
        rw w.next-is
            (pass
            (not-ready board self.rows self.lowest self.lowest_is c.search.number c.search.invariant.1
            c.search-test.true i
            c.args.clock c.is_ready.result c.is_ready.ensures w.if-is_ready.false)
            inv.3),
      )
    ]

pub loop-turn-preserved : goal.loop-turn-preserved
loop-turn-preserved c =
    let inv = c.loop-i.invariant in
    (inv.0, inv.2, passed-turn _ _ _ _ _ _ _ _ c.loop-i-test.false inv.3)

pub search-preserved : goal.search-preserved
search-preserved c =
    let round = c.search in
    let board = c.args.self.now.board.now in
    elim c.if-self-number.branch [
      | then-self-number+else-loop-turn-test w ↦ (
        w.row-is ∙ w.loop-turn.invariant.0,
        omega (arith, round.invariant.1),
        rw w.until-is w.loop-turn.invariant.1,
        passed-number board _ _ round.number _ _ (omega (arith, w.loop-turn-test.false)) w.loop-turn.invariant.2,
      )
      | else-self-number w ↦ (
        w.row-is ∙ round.invariant.0,
        omega (arith, round.invariant.1),
        rw w.until-is round.invariant.2,
        passed-unmarked board _ _ c.args.self.now.lowest_is _ _ _ c.args.self.now.numbers_in round.number
            w.if-self-number.false round.invariant.3,
      )
    ]

pub returns-after-search : goal.returns-after-search
returns-after-search c =
    let inv = c.search.invariant in
    let board = c.args.self.now.board.now in record {
      chosen_row = rw inv.0
          (chosen_is board _ _ _ c.args.self.now.rows_most none
          (passed_none board _ _ _ _ 0 c.search-test.false inv.3));
      refused_to = inv.2;
    }

pub returns-then-moment-clock : goal.returns-then-moment-clock
returns-then-moment-clock c =
    let until = c.tried_until-moment.ensures in
    let inv = c.loop-i.invariant in
    let board = c.args.self.now.board.now in
    let i = c.loop-i.i in
    let number = c.search.number in
    let look = look_in board i in
    let ready : (tried_in board number c.args.self.now.lowest i && leb look.release c.args.clock) ≡ true =
    sym c.is_ready.ensures ∙ c.if-is_ready.true in
    let tried = and_left (tried_in board number c.args.self.now.lowest i) _ ready in
    let same = eqb-true look.finished number
    (and_left (eqb look.finished number) _
    (and_left (eqb look.finished number && ltb number look.steps) _ tried))
    in
    let candidate = tried-candidate board _ _ c.args.self.now.lowest_is number
    c.search.invariant.1 c.search-test.true i tried c.args.clock
    (leb-true look.release c.args.clock (and_right (tried_in board number c.args.self.now.lowest i) _ ready))
    (until.ends c.if-moment-clock.true) in record {
      chosen_row = (
        c.loop-i-test.true,
        chosen_is board _ _ _ c.args.self.now.rows_most (at i)
            (first-chosen board _ _ _ number _ _ i inv.3 inv.1
            c.loop-i-test.true same
            (omega (arith, c.turn_at-here.ensures, c.if-here-turn.false)) candidate
            (until.passes c.if-moment-clock.true)),
      );
      refused_to = inv.2;
    }

pub loop-turn-smaller : goal.loop-turn-smaller
loop-turn-smaller c = omega (arith, c.loop-i.invariant.1, c.loop-turn-test.true)
