-- What each public call's contract says: one relation a call, over what it takes, what it gives,
-- and what the lent bytes hold afterwards. To be read after Reading and Writing.
use Rattle.std.specs.Prelude.{ℕ, List, ◌≡◌, Result}
use Rattle.refusals.specs.declared.Refusal.{Refusal}
use Rattle.refusals.specs.Given.{WritesOut}
use Rattle.load.specs.declared.Load.{Load}
use Rattle.load.specs.Plain.{check_plain}
use Rattle.sheet.specs.Reading.{read_sheet}
use Rattle.sheet.specs.Writing.{sheet_bytes}

-- read_sheet(bytes): 18 to 20, then the load's own numbers; or the load that the sheet spells
abbrev pub ReadSheet : List ℕ → Result Load Refusal → Type 0
ReadSheet bs r = r ≡ read_sheet bs

-- write_sheet(load, out): the load's own numbers, then 22 where a class is not 0 or a head is not 1
-- (2026-05), then 9, and the output as it was; or the sheet at the output's front, and its length
abbrev pub WriteSheet : Load → List ℕ → Result ℕ Refusal → List ℕ → Type 0
WriteSheet load out r after = WritesOut (check_plain load) (sheet_bytes load) out r after
