-- Any two results that meet a call's contract are equal: what the call gives, and what the output holds after it.
-- Also: no more bytes are counted than a text has.
use Prim.Native.Nat.{ℕ, ◌-◌, ◌≤◌}
use mathlib.Core.List.{List}
use mathlib.Core.Path.{◌≡◌, ap, sym, ◌∙◌}
use native.Mathlib.Omega.{arith}
use lib.ListN.{length, replicate, length-append}
use Rattle.std.specs.Prelude.{Result, Ok}
use Rattle.refusals.specs.declared.Refusal.{Refusal}
use Rattle.refusals.proofs.GivenLaws.{WritesOut-unique}
use Rattle.lines.specs.declared.Text.{Text}
use Rattle.lines.specs.Lines.{printed, printed_blamed}
use Rattle.lines.specs.Calls.{
  text_places,
  text_holding,
  TextOf,
  BlamedTextOf,
  PrintLines,
  PrintBlames,
}

pub TextOf-unique : (bs : List ℕ) (r s : Text) → TextOf bs r → TextOf bs s → r ≡ s
TextOf-unique bs r s p q = p ∙ sym q

pub BlamedTextOf-unique : (bs : List ℕ) (r s : Text) → BlamedTextOf bs r → BlamedTextOf bs s → r ≡ s
BlamedTextOf-unique bs r s p q = p ∙ sym q

-- whatever it holds
pub text-length-le : (bs : List ℕ) (r : Text) → r ≡ text_holding bs → r.length ≤ length r.bytes
text-length-le bs r e =
    let size = ap (λ (t : Text). t.length) e in
    let long =
    ap (λ (t : Text). length t.bytes) e ∙ length-append bs (replicate (text_places - length bs) 0) in
    omega arith

pub PrintLines-unique : (bs out : List ℕ) (r s : Result ℕ Refusal) (after later : List ℕ)
    → PrintLines bs out r after → PrintLines bs out s later → (r ≡ s) × (after ≡ later)
PrintLines-unique bs out = WritesOut-unique (Ok tt) (printed bs) out

pub PrintBlames-unique : (bs out : List ℕ) (r s : Result ℕ Refusal) (after later : List ℕ)
    → PrintBlames bs out r after → PrintBlames bs out s later → (r ≡ s) × (after ≡ later)
PrintBlames-unique bs out = WritesOut-unique (Ok tt) (printed_blamed bs) out
