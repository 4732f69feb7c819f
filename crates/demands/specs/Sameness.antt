-- "Any two results that satisfy it are shown to be equal": of every public call's relation. There
-- is no exception. To be read after PublicCalls.
use Rattle.std.specs.Prelude.{◌≡◌}
use Rattle.demands.specs.PublicCalls.{EveryCall}

-- any two results that meet a relation are equal
abbrev pub OneResult : (A : Type 0) → (A → Type 0) → Type 0
OneResult A meets = (r s : A) → meets r → meets s → r ≡ s

-- what a call gives back, and what lent bytes hold afterwards, is decided, for all that it is given
abbrev pub Sameness : Type 0
Sameness = EveryCall OneResult
