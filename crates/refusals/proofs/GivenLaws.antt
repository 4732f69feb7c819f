-- What comes with a finding, by what it is. The three ways in which a writing call ends, each with what the contract
-- asks of it: the finding is refused, the output is too short for the answer, or the answer is written. And a length
-- that is told: it is decided, and no more than the output has.
use Prim.Native.Nat.{ℕ, ◌≤◌, ◌<◌}
use mathlib.Core.List.{List, [], ◌∷◌}
use mathlib.Core.Path.{◌≡◌, refl, ap, sym, ◌∙◌}
use native.Mathlib.Omega.{arith}
use lib.ListN.{length}
use borrow.Author.Tests.{lt-ltb, le-ltb, ltb-false}
use Rattle.refusals.specs.declared.Refusal.{Refusal}
use Rattle.refusals.specs.declared.Refusal.TheVariants.{OutputShort}
use Rattle.refusals.specs.Checked.{Checked}
use Rattle.std.specs.Prelude.{Result, Ok, Err}
use Rattle.refusals.specs.FirstMet.{first_fault}
use Rattle.refusals.specs.Given.{found_in, if_good, given, written, room_for, Given, WritesOut}
use Rattle.refusals.proofs.FirstMetLaws.{
  good-refused,
  and_then-good-first,
  and_then-good-second,
  and_then-last,
  first_met-good-first,
}

-- what was found, of what is given
module _ {A : Type 0} where
  pub given-refused : (found : Checked) (answer : A) (refusal : Refusal) → Err refusal ≡ given found answer
      → found ≡ Err refusal
  given-refused (Ok tt) answer refusal e = cc
  given-refused (Err other) answer refusal e = cc

  pub given-good : (found : Checked) (answer told : A) → Ok told ≡ given found answer → found ≡ Ok tt
  given-good (Ok tt) answer told e = refl
  given-good (Err other) answer told e = cc

  pub given-is : (found : Checked) (answer told : A) → Ok told ≡ given found answer → told ≡ answer
  given-is (Ok tt) answer told e = cc
  given-is (Err other) answer told e = cc

  -- with a refusal stands no answer
  pub given-alone : (found : Checked) (answer told : A) (refusal : Refusal) → Err refusal ≡ given found answer
      → Ok told ≡ given found answer → ⊥
  given-alone found answer told refusal e h =
      good-refused found refusal (given-good found answer told h) (given-refused found answer refusal e)

  -- what was found is the finding
  pub found_in-given : (found : Checked) (answer : A) → found_in (given found answer) ≡ found
  found_in-given (Ok tt) answer = refl
  found_in-given (Err refusal) answer = refl

module _ {A : Type 0} (finding : Checked) (answer out : List A) where
  pub refused-given : (refusal : Refusal) → finding ≡ Err refusal
      → Given finding answer out (Err refusal) out
  refused-given refusal e = record { finding-is = rw e; output-is = refl }

  pub short-given : finding ≡ Ok tt → length out < length answer
      → Given finding answer out (Err OutputShort) out
  short-given e h = record { finding-is = rw (e, lt-ltb _ _ h); output-is = refl }

  pub written-given : (after : List A) → finding ≡ Ok tt → length answer ≤ length out → after ≡ written answer out
      → Given finding answer out (Ok tt) after
  written-given after e h w = record { finding-is = rw (e, le-ltb _ _ h); output-is = w }

-- where there is room for the answer, nothing else is found
pub enough-given : {A : Type 0} (finding found : Checked) (answer out after : List A) → length answer ≤ length out
    → Given finding answer out found after → found ≡ finding
enough-given finding found answer out after h g =
    let room = le-ltb (length out) (length answer) h in
    let found-is : found ≡ first_fault (finding ∷ Ok tt ∷ []) = rw room at g.finding-is in
    found-is ∙ and_then-last finding

-- the length that is told
module _ {A : Type 0} (finding : Checked) (answer out : List A) where
  pub WritesOut-unique : (r s : Result ℕ Refusal) (after later : List A) → WritesOut finding answer out r after
      → WritesOut finding answer out s later → (r ≡ s) × (after ≡ later)
  WritesOut-unique r s after later p q =
      let told = p.length-is ∙ sym q.length-is in
      (told, p.output-is ∙ ap (λ c. if_good c (written answer out) out) told ∙ sym q.output-is)

  pub WritesOut-length-le : (n : ℕ) (after : List A) → WritesOut finding answer out (Ok n) after → n ≤ length out
  WritesOut-length-le n after p = go (first_fault (finding ∷ room_for answer out ∷ [])) refl p.length-is
    where
      go : (c : Checked) → c ≡ first_fault (finding ∷ room_for answer out ∷ []) → Ok n ≡ given c (length answer)
          → n ≤ length out
      go (Err refusal) e h = cc
      go (Ok tt) e h =
          let behind = and_then-good-second finding (first_fault (room_for answer out ∷ [])) (sym e) in
          let fits = and_then-good-first (room_for answer out) (Ok tt) behind in
          let room = ltb-false (length out) (length answer) (first_met-good-first _ [] fits) in
          let told : n ≡ length answer = cc in
          omega arith

  -- where there is room for it, the answer is written, and its length is told
  pub written-out : (n : ℕ) (after : List A) → finding ≡ Ok tt → n ≡ length answer
      → length answer ≤ length out → after ≡ written answer out → WritesOut finding answer out (Ok n) after
  written-out n after e told h w =
      record { length-is = rw (e, le-ltb (length out) (length answer) h) (ap Ok told); output-is = w }

  -- what it finds and writes, its length apart
  pub WritesOut-given : (r : Result ℕ Refusal) (after : List A) → WritesOut finding answer out r after
      → Given finding answer out (found_in r) after
  WritesOut-given r after p =
      record {
        finding-is = ap found_in p.length-is ∙ found_in-given _ (length answer);
        output-is = p.output-is ∙ same r;
      }
    where
      same : (r : Result ℕ Refusal) → if_good r (written answer out) out ≡ if_good (found_in r) (written answer out) out
      same (Ok n) = refl
      same (Err refusal) = refl
