-- "Numbers given back": the table, line by line, in the order of its numbers. To be read after
-- Refusals.
use Rattle.std.specs.Prelude.{List, [], ◌∷◌}
use Rattle.refusals.specs.declared.Refusal.{Refusal}
use Rattle.refusals.specs.declared.Refusal.TheVariants as refusal

-- the lines of the document's table, from 1 on
unfoldable pub table : List Refusal
table =
    -- the file ends before or inside a record that is due
    refusal.FileShort
    -- a mark differs, or the version is not 1 or 2
    ∷ refusal.MarkDiffers
    -- a number is outside its range, or an unused place is not zero
    ∷ refusal.OutOfRange
    -- the identifier stands in an earlier row
    ∷ refusal.IdentifierTaken
    -- the box stands in an earlier row
    ∷ refusal.BoxTaken
    -- a window's last step is not after its first, names no step, or it shares or precedes a step
    -- of the window before
    ∷ refusal.WindowSteps
    -- a limit is below its chain
    ∷ refusal.LimitBelowChain
    -- the end count is wrong, or bytes follow
    ∷ refusal.EndDiffers
    -- the lent output is too short
    ∷ refusal.OutputShort
    -- a bench state does not have the load's shape
    ∷ refusal.StateShape
    -- the bench clock is at 1,000,000 with work left, and no move remains
    ∷ refusal.ClockFull
    -- slot count differs from step count
    ∷ refusal.SlotCount
    -- a slot's row or step does not exist, the step is not that row's next, or its start exceeds
    -- 1,000,000
    ∷ refusal.NoSuchSlot
    -- a slot starts before the previous slot ends
    ∷ refusal.SlotOverlaps
    -- it starts before its phase, or before the step before it in the row has ended and its wait
    -- has passed
    ∷ refusal.SlotEarly
    -- it ends a window late
    ∷ refusal.WindowLate
    -- it ends its row late
    ∷ refusal.RowLate
    -- a line of a sheet is malformed, or a number has over ten digits
    ∷ refusal.LineMalformed
    -- a row's box, phase or deadline differs between lines
    ∷ refusal.RowDiffers
    -- a dash has no window before it; or, found at the next line or the end, a window has one step
    ∷ refusal.WindowDash
    -- the identifier is the factory's, which the newer loggers report after a battery swap
    ∷ refusal.FactoryIdentifier
    -- a class that is not 0 or a head that is not 1, written as version 1 or as a sheet
    ∷ refusal.NotCarried
    ∷ []
