-- Any two results that meet a call's contract are equal. A writing call's finding and output are both decided.
use Prim.Native.Nat.{ℕ}
use mathlib.Core.List.{List}
use mathlib.Core.Path.{◌≡◌, sym, ◌∙◌, ap}
use Rattle.refusals.specs.declared.Refusal.{Refusal}
use Rattle.refusals.specs.Checked.{Checked}
use Rattle.refusals.specs.Given.{if_good, written, Given}
use Rattle.refusals.specs.Calls.{NumberOf, NumberGiven}

pub NumberOf-unique : (refusal : Refusal) (r s : ℕ) → NumberOf refusal r → NumberOf refusal s → r ≡ s
NumberOf-unique refusal r s p q = p ∙ sym q

pub NumberGiven-unique : (found : Checked) (r s : ℕ) → NumberGiven found r → NumberGiven found s → r ≡ s
NumberGiven-unique found r s p q = p ∙ sym q

module _ {A : Type 0} (finding : Checked) (answer out : List A) (r s : Checked) (after later : List A)
    (p : Given finding answer out r after) (q : Given finding answer out s later) where
  pub Given-unique-finding : r ≡ s
  Given-unique-finding = p.finding-is ∙ sym q.finding-is

  pub Given-unique-output : after ≡ later
  Given-unique-output =
      p.output-is ∙ ap (λ c. if_good c (written answer out) out) Given-unique-finding ∙ sym q.output-is
