-- An array that is made place by place holds what is made for each place, where making it changes nothing.
use Rattle.std.proofs.Common.{ℕ, zero, suc, ◌+◌, ◌≤◌, ◌<◌, List, get_or}
use Rattle.std.proofs.Common.{◌≡◌, sym, ◌∙◌, ap, arith}
use mathlib.Core.Path.{subst}
use native.Mathlib.Decide.{ℕ_discrete}
use denote.Param.Members.{Mut}
use lib.Seq.{ext_get_or}
use Rattle.std.specs.Array.{IsFromFnResult, IsFromFnResultFrom}
use Rattle.std.specs.Fn.{Called}
use Rattle.counting.specs.Lists.{list_to}
use Rattle.counting.proofs.lists.ListLaws.{list_to-length, get_or-list_to}

module _
    {F B : Type 0}
    (g : Mut F (ℕ × Unit {0}) B)
    (h : ℕ → B)
    (z : B)
    (n : ℕ)
    (f : F)
    (made : (i : ℕ) (y : B) (q : F) → i < n → Called g f (i, tt) y q → (q ≡ f) × (y ≡ h i))
  where
    each : (ys : List B) (i m : ℕ) → i + m ≡ n → IsFromFnResultFrom g f ys i m → (k : ℕ) → i ≤ k → k < n
        → get_or ys k z ≡ h k
    each ys i zero e r k from l = absurd (omega arith)
    each ys i (suc m) e (q, y, is, called, rest) k from l =
        let told = made i y q (omega arith) called in
        elim (ℕ_discrete k i) [
          | yes same ↦ ap (λ k. get_or ys k z) same ∙ is.1 z ∙ told.1 ∙ ap h (sym same)
          | no other ↦
              each ys (i + 1) m (omega arith) (subst (λ p. IsFromFnResultFrom g p ys (i + 1) m) told.0 rest) k
              (omega arith) l
        ]

    pub made-list_to : (ys : List B) → IsFromFnResult g f ys n → ys ≡ list_to h n
    made-list_to ys r =
        ext_get_or z ys (list_to h n) (r.long ∙ sym (list_to-length h n))
        (λ k l. each ys 0 n (omega arith) r.each k (omega arith) (omega (arith, r.long))
        ∙ sym (get_or-list_to h n k z (omega (arith, r.long))))
