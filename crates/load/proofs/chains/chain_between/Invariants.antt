-- `load::chain_between` adds one step and its wait a turn: what is added and the chain from here on are the chain from
-- the start.
use Prim.Native.Nat.{◌+◌, ◌-◌, ◌*◌, ◌≤◌}
use mathlib.Core.Path.{◌≡◌}
use Rattle.load.specs.View.{chain_between}
use Rattle.load.proofs.chains.chain_between.Given as goal

abbrev pub invariant-loop-j : goal.invariant-loop-j
invariant-loop-j l =
    (l.from ≤ l.j) × (l.j ≤ l.last) × (l.sum ≤ 131070 * l.j) × (chain_between l.row l.from l.to ≡ l.sum +
    chain_between l.row l.j l.to)

abbrev pub decreases-loop-j : goal.decreases-loop-j
decreases-loop-j l = l.last - l.j
