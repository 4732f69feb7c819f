-- `margin_of` subtracts two small numbers, so each is the same signed, and the difference fits.
use mathlib.Core.Path.{◌≡◌}
use native.Mathlib.Omega.{arith}
use lib.IntN.{pos, ◌-ℤ◌}
use mir.Facts.{to_z_pos, to_z-of_z}
use mir.Syntax.{w32}
use mir.Val.{to_z, SFits}
use Rattle.bound.proofs.SignLaws.{difference-fits}
use Rattle.bound.proofs.margins.margin_of.Goals as goal
use Rattle.bound.proofs.margins.margin_of.Goals.{Start}

deadline-is : (c : Start) → to_z w32 c.args.deadline ≡ pos c.args.deadline
deadline-is c = to_z_pos w32 (omega arith)

bound-is : (c : Start) → to_z w32 c.args.bound ≡ pos c.args.bound
bound-is c = to_z_pos w32 (omega arith)

fits : (c : Start) → SFits w32 (pos c.args.deadline -ℤ pos c.args.bound)
fits c = difference-fits c.args.deadline c.args.bound (omega arith) (omega arith)

pub overflow_sub-result : goal.overflow_sub-result
overflow_sub-result c = rw (deadline-is c, bound-is c) (fits c)

pub returns : goal.returns
returns c = rw (deadline-is c, bound-is c) (to_z-of_z (fits c))
