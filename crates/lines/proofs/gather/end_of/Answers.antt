-- `lines::gather::end_of` reads the cost of the slot's step, which is there.
use mathlib.Core.Path.{refl}
use Rattle.load.specs.View.{view_of}
use Rattle.lines.proofs.gather.end_of.Goals as goal

pub returns : goal.returns
unfolding view_of
returns c = refl
