-- "The schedule file it gets, like the program's slot lines, holds exactly the starts of demand 2's
-- moves from fresh to Done, in order, each step at full cost": the run of a load in memory.
-- Rests on D42.
use Rattle.std.specs.Prelude.{List, length}
use Rattle.counting.specs.Lists.{filled}
use Rattle.rules.specs.declared.Slot.{Slot}
use Rattle.rules.specs.Slots.{no_slot, slot_places, slot_at}
use Rattle.bench.specs.declared.Ran.{Ran}

-- slots handed back in an array, with their count: places past the last slot are zero
abbrev pub ran_with : List Slot → Ran
ran_with slots =
    record {
      count = length slots;
      slots = filled (slot_at slots) (length slots) slot_places no_slot;
    }
