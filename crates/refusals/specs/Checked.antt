-- "Numbers given back", as a type: nothing to refuse or the refusal that comes first.
use Rattle.std.specs.Prelude.{Result}
use Rattle.refusals.specs.declared.Refusal.{Refusal}

-- What a check finds: the Result of Rust, with nothing beside an Ok.
abbrev pub Checked : Type 0
Checked = Result (Unit {0}) Refusal
