-- What is read of a record's own bytes is what stands in the file there.
use Rattle.std.proofs.Common.{ℕ, zero, suc, ◌+◌, ◌*◌, ◌<◌, ◌≤◌, ◌≡◌, ◌∙◌, List, ap, ap₂, arith, drop, refl, take}
use Rattle.std.proofs.lemmas.List.{get_or-drop, get_or-take}
use Rattle.words.specs.LittleEndian.{byte_at, number_at}

module _ (bs : List ℕ) (at size : ℕ) where
  pub byte-in : (k : ℕ) → k < size → byte_at (take size (drop at bs)) k ≡ byte_at bs (at + k)
  byte-in k l = get_or-take size (drop at bs) k 0 l ∙ get_or-drop at bs k 0

  pub number-in : (width k : ℕ) → k + width ≤ size
      → number_at width (take size (drop at bs)) k ≡ number_at width bs (at + k)
  unfolding number_at
  number-in zero k h = refl
  number-in (suc width) k h =
      let place : at + (k + 1) ≡ at + k + 1 = omega arith in
      ap₂ (λ b m. b + 256 * m) (byte-in k (omega arith))
      (number-in width (k + 1) (omega arith) ∙ ap (number_at width bs) place)
