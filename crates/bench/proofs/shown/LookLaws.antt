-- What is looked up of a row by itself is what is looked up of it in its load, and its shape is the shape that it has
-- there.
use Prim.Native.Nat.{ℕ, zero, suc}
use mathlib.Core.Bool.{◌&&◌}
use mathlib.Core.Path.{◌≡◌, refl}
use lib.Dec.{leb}
use Rattle.counting.specs.Sums.{all_to, all_from}
use Rattle.load.specs.declared.Load.{Load}
use Rattle.load.specs.Load.{last_moment, most_rows, row_at}
use Rattle.load.specs.View.{view_of, opens_at, open_at}
use Rattle.rules.specs.State.{row_shaped, row_unused, shaped}
use Rattle.rules.specs.Ready.{release}
use Rattle.rules.specs.Plan.{due, window_left}
use Rattle.plan.specs.Looks.{view_alike, state_alike, look_of, look_by}
use Rattle.bench.specs.declared.Bench.{Bench}
use Rattle.bench.specs.Held.{state_of}

release-of-row : (load : Load) (i j end : ℕ)
    → release (view_of load) i j end ≡ release (view_alike (row_at load i)) 0 j end
unfolding view_of
release-of-row load i zero end = refl
release-of-row load i (suc j) end = refl

-- a row of a load in memory, with the bench's numbers for it
pub look-of-row : (load : Load) (bench : Bench) (i : ℕ)
    → look_by (row_at load i) ((state_of bench).finished i) ((state_of bench).end i) ((state_of bench).opening i)
    ≡ look_of (view_of load) (state_of bench) i
unfolding look_of view_of opens_at open_at window_left due
look-of-row load bench i =
    rw (release-of-row load i ((state_of bench).finished i) ((state_of bench).end i))

pub shape-of-row : (load : Load) (bench : Bench) (i : ℕ)
    → row_shaped (view_alike (row_at load i))
    (state_alike bench.clock ((state_of bench).finished i) ((state_of bench).end i) ((state_of bench).opening i)) 0
    ≡ row_shaped (view_of load) (state_of bench) i
unfolding view_of opens_at
shape-of-row load bench i = refl

pub shaped-is : (load : Load) (bench : Bench)
    → shaped (view_of load) (state_of bench)
    ≡ (leb bench.clock last_moment
    && all_to (row_shaped (view_of load) (state_of bench)) load.rows
    && all_from (row_unused (state_of bench)) load.rows most_rows)
unfolding shaped view_of
shaped-is load bench = refl
