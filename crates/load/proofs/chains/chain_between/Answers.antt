-- `load::chain_between` adds one step and its wait a turn: what is added and the chain from here on are the chain from
-- the start.
use Prim.Native.Nat.{suc, ◌-◌, ◌<◌}
use mathlib.Core.Path.{◌≡◌, ap, sym, ◌∙◌}
use native.Mathlib.Numerals.{add-one}
use native.Mathlib.Omega.{arith}
use borrow.Author.Rules.{rules}
use Rattle.load.specs.Load.{step_at}
use Rattle.load.specs.View.{chain_between}
use Rattle.load.proofs.WindowChain.{chain-one, chain-front, chain-none}
use Rattle.load.proofs.chains.chain_between.Goals as goal

pub returns-then-to-from : goal.returns-then-to-from
returns-then-to-from c = sym (chain-none _ _ _ _ c.if-to-from.true)

pub loop-j-init : goal.loop-j-init
loop-j-init c = (search rules, search rules, search rules, omega arith)

pub loop-j-preserved : goal.loop-j-preserved
loop-j-preserved c =
    let row = c.args.row in
    let to = c.args.to in
    let j = c.loop-j.j in
    let l : suc j < to = omega arith in
    let on = chain-front (λ k. (step_at row k).cost) (λ k. (step_at row k).wait) j to l in (
      search rules,
      search rules,
      search rules,
      c.loop-j.invariant.3 ∙ rw (c.step_at-step.ensures, add-one) (omega (arith, on)),
    )

pub returns : goal.returns
returns c =
    let row = c.args.row in
    let to = c.args.to in
    let e : c.loop-j.j ≡ to - 1 = omega arith in
    let f : to ≡ suc (to - 1) = omega arith in
    let one = ap (chain_between row (to - 1)) f
    ∙ chain-one (λ k. (step_at row k).cost) (λ k. (step_at row k).wait) (to - 1) in
    let here = ap (λ k. chain_between row k to) e in
    rw c.step_at-step-2.ensures (omega (arith, c.loop-j.invariant.3, here, one))
