-- `words::bytes16` gives std's bytes, which are the definition's.
use Prim.Native.Nat.{ℕ, ◌/◌, ◌%◌}
use mathlib.Core.List.{[], ◌∷◌}
use mathlib.Core.Path.{◌≡◌, ap₂, ◌∙◌}
use native.Mathlib.Omega.{arith}
use Rattle.words.specs.LittleEndian.{little_endian}
use Rattle.words.proofs.bytes16.Goals as goal

-- byte by byte
each : (low high n : ℕ) → low ≡ n % 256 → high ≡ n / 256 % 256 → low ∷ high ∷ [] ≡ little_endian 2 n
unfolding little_endian
each low high n l h = ap₂ (λ l h. l ∷ h ∷ []) l h

pub returns : goal.returns
returns c = c.to_le_bytes.ensures ∙ each _ _ c.args.number (omega arith) (omega arith)
