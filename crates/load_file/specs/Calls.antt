-- What the public call's contract says: a relation over what it takes and what it gives. To be read
-- after Reading.
use Rattle.std.specs.Prelude.{ℕ, List, ◌≡◌, Result}
use Rattle.refusals.specs.declared.Refusal.{Refusal}
use Rattle.load.specs.declared.Load.{Load}
use Rattle.load_file.specs.Reading.{read_load}

-- read_load(bytes): the load that the bytes spell, or the refusal that comes first, 1 to 8 or 21
abbrev pub ReadLoad : List ℕ → Result Load Refusal → Type 0
ReadLoad bs r = r ≡ read_load bs
