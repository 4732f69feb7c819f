-- `words::bytes32` gives std's bytes: each counts as many times 256 as the definition divides by 256.
use Prim.Native.Nat.{ℕ, ◌/◌, ◌%◌}
use mathlib.Core.List.{[], ◌∷◌}
use mathlib.Core.Path.{◌≡◌, ap₂, ◌∙◌}
use native.Mathlib.Omega.{arith}
use Rattle.words.specs.LittleEndian.{little_endian}
use Rattle.words.proofs.bytes32.Goals as goal

-- byte by byte
each : (low next third high n : ℕ) → low ≡ n % 256 → next ≡ n / 256 % 256 → third ≡ n / 256 / 256 % 256
    → high ≡ n / 256 / 256 / 256 % 256 → low ∷ next ∷ third ∷ high ∷ [] ≡ little_endian 4 n
unfolding little_endian
each low next third high n l m t h =
    ap₂ ◌∷◌ l (ap₂ ◌∷◌ m (ap₂ (λ t h. t ∷ h ∷ []) t h))

pub returns : goal.returns
returns c =
    c.to_le_bytes.ensures ∙ each _ _ _ _ c.args.number (omega arith) (omega arith) (omega arith) (omega arith)
