-- "Numbers given back": the number of each refusal, the last number, and the number of what a check
-- finds.
use Rattle.std.specs.Prelude.{ℕ, Ok, Err}
use Rattle.refusals.specs.declared.Refusal.{Refusal}
use Rattle.refusals.specs.declared.Refusal.TheVariants as refusal
use Rattle.refusals.specs.Checked.{Checked}

-- the table's number of a refusal
abbrev pub number_of : Refusal → ℕ
number_of refusal.FileShort = 1
number_of refusal.MarkDiffers = 2
number_of refusal.OutOfRange = 3
number_of refusal.IdentifierTaken = 4
number_of refusal.BoxTaken = 5
number_of refusal.WindowSteps = 6
number_of refusal.LimitBelowChain = 7
number_of refusal.EndDiffers = 8
number_of refusal.OutputShort = 9
number_of refusal.StateShape = 10
number_of refusal.ClockFull = 11
number_of refusal.SlotCount = 12
number_of refusal.NoSuchSlot = 13
number_of refusal.SlotOverlaps = 14
number_of refusal.SlotEarly = 15
number_of refusal.WindowLate = 16
number_of refusal.RowLate = 17
number_of refusal.LineMalformed = 18
number_of refusal.RowDiffers = 19
number_of refusal.WindowDash = 20
number_of refusal.FactoryIdentifier = 21
number_of refusal.NotCarried = 22

-- the table's last number
abbrev pub last_number : ℕ
last_number = 22

-- the number of what a check finds: 0 where it refuses nothing
abbrev pub number_given : Checked → ℕ
number_given (Ok tt) = 0
number_given (Err refusal) = number_of refusal
