-- `first_passing` goes from one moment at which the step may pass to the next: before each it does not.
use native.Mathlib.Decide.{dec_lt}
use native.Mathlib.Omega.{arith}
use Rattle.plan.proofs.searching.Search.first_passing.Goals as goal

pub returns-then-until-moment : goal.returns-then-until-moment
returns-then-until-moment c =
    let tried = c.tried_until-until.ensures in
    record {
      most = omega (arith, c.loop-moment-test.true);
      starts = λ h. c.loop-moment.invariant.0;
      ends = λ h. tried.ends c.if-until-moment.true;
      passes = λ h. tried.passes c.if-until-moment.true;
      refused = c.loop-moment.invariant.1;
    }

pub loop-moment-smaller : goal.loop-moment-smaller
loop-moment-smaller c =
    omega (arith, c.tried_until-until.ensures.from, c.if-until-moment.false, c.loop-moment-test.true)

pub loop-moment-preserved : goal.loop-moment-preserved
loop-moment-preserved c =
    let tried = c.tried_until-until.ensures in
    let loop = c.loop-moment in (
      omega (arith, loop.invariant.0, tried.from),
      λ t a b h. elim (dec_lt t loop.moment) [
        | yes q ↦ loop.invariant.1 t a q h
        | no q ↦ tried.refused t (omega arith) b h
      ],
    )

pub returns : goal.returns
returns c =
    record {
      most = omega arith;
      starts = λ h. absurd (omega arith);
      ends = λ h. absurd (omega arith);
      passes = λ h. absurd (omega arith);
      refused = λ t a b h. c.loop-moment.invariant.1 t a (omega (arith, c.loop-moment-test.false)) h;
    }

pub loop-moment-init : goal.loop-moment-init
loop-moment-init c = (omega arith, λ t a b. absurd (omega arith))
