-- Laws of the first fault: Good means that every test fails, and the first fault stays the first whatever follows.
use Prim.Native.Nat.{ℕ, zero, suc, ◌+◌, ◌<◌}
use mathlib.Core.Bool.{Bool, true, false}
use mathlib.Core.List.{List, [], ◌∷◌, ◌++◌}
use mathlib.Core.Path.{◌≡◌, refl, ap₂, sym, ◌∙◌}
use native.Mathlib.Decide.{ℕ_discrete}
use native.Mathlib.Numerals.{add-one}
use native.Mathlib.Omega.{arith}
use Rattle.refusals.specs.declared.Refusal.{Refusal}
use Rattle.refusals.specs.Checked.{Checked}
use Rattle.std.specs.Prelude.{Ok, Err}
use Rattle.refusals.specs.FirstMet.{first_met, and_then, first_fault_to}

-- what is Good is not refused
pub good-refused : (c : Checked) (r : Refusal) → c ≡ Ok tt → c ≡ Err r → ⊥
good-refused c r p q = let z : ◌≡◌ {A = ℕ} 0 1 = cc in omega arith

pub and_then-good-first : (a b : Checked) → and_then a b ≡ Ok tt → a ≡ Ok tt
and_then-good-first (Ok tt) b e = refl
and_then-good-first (Err r) b e = e

pub and_then-good-second : (a b : Checked) → and_then a b ≡ Ok tt → b ≡ Ok tt
and_then-good-second (Ok tt) b e = e
and_then-good-second (Err r) b e = cc

pub and_then-both : (a b : Checked) → a ≡ Ok tt → b ≡ Ok tt → and_then a b ≡ Ok tt
and_then-both a b p q = rw (p, q)

-- nothing behind a finding
pub and_then-last : (c : Checked) → and_then c (Ok tt) ≡ c
and_then-last (Ok tt) = refl
and_then-last (Err r) = refl

-- one test that is not met, and the others
pub first_met-good-first : (t : Bool × Refusal) (ts : List (Bool × Refusal)) → first_met (t ∷ ts) ≡ Ok tt → t.0 ≡ false
first_met-good-first t ts e = go t.0 refl e
  where
    go : (b : Bool) → t.0 ≡ b → first_met (t ∷ ts) ≡ Ok tt → b ≡ false
    go false q h = refl
    go true q h = absurd (good-refused (first_met (t ∷ ts)) t.1 h (rw q))

pub first_met-good-rest : (t : Bool × Refusal) (ts : List (Bool × Refusal)) → first_met (t ∷ ts) ≡ Ok tt
    → first_met ts ≡ Ok tt
first_met-good-rest t ts e = let q : t.0 ≡ false = first_met-good-first t ts e in rw q at e

-- tests one behind the other
pub first_met-append : (ts us : List (Bool × Refusal)) → first_met (ts ++ us) ≡ and_then (first_met ts) (first_met us)
first_met-append [] us = refl
first_met-append (t ∷ ts) us = go t.0 refl (first_met-append ts us)
  where
    go : (b : Bool) → t.0 ≡ b → first_met (ts ++ us) ≡ and_then (first_met ts) (first_met us)
        → first_met (t ∷ ts ++ us) ≡ and_then (first_met (t ∷ ts)) (first_met us)
    go true q h = rw q
    go false q h = rw q h

pub first_fault_to-zero : (f : ℕ → Checked) → first_fault_to f 0 ≡ Ok tt
unfolding first_fault_to
first_fault_to-zero f = refl

pub first_fault_to-next : (f : ℕ → Checked) (n : ℕ) → first_fault_to f (n + 1) ≡ and_then (first_fault_to f n) (f n)
unfolding first_fault_to
first_fault_to-next f n = rw add-one

-- one more that has no fault
pub first_fault_to-one_more : (f : ℕ → Checked) (n : ℕ) → first_fault_to f n ≡ Ok tt → f n ≡ Ok tt
    → first_fault_to f (n + 1) ≡ Ok tt
first_fault_to-one_more f n p q = first_fault_to-next f n ∙ and_then-both (first_fault_to f n) (f n) p q

pub first_fault_to-ext : (f g : ℕ → Checked) (n : ℕ) → ((i : ℕ) → i < n → f i ≡ g i) → first_fault_to f n
    ≡ first_fault_to g n
unfolding first_fault_to
first_fault_to-ext f g zero h = refl
first_fault_to-ext f g (suc n) h =
    ap₂ and_then (first_fault_to-ext f g n (λ i l. h i (omega arith))) (h n (omega arith))

pub first_fault_to-good : (f : ℕ → Checked) (n : ℕ) → first_fault_to f n ≡ Ok tt → (i : ℕ) → i < n → f i ≡ Ok tt
unfolding first_fault_to
first_fault_to-good f zero h i l = absurd (omega arith)
first_fault_to-good f (suc n) h i l =
    elim (ℕ_discrete i n) [
      | yes e ↦ rw e (and_then-good-second (first_fault_to f n) (f n) h)
      | no e ↦ first_fault_to-good f n (and_then-good-first (first_fault_to f n) (f n) h) i (omega arith)
    ]

pub good-first_fault_to : (f : ℕ → Checked) (n : ℕ) → ((i : ℕ) → i < n → f i ≡ Ok tt) → first_fault_to f n ≡ Ok tt
unfolding first_fault_to
good-first_fault_to f zero h = refl
good-first_fault_to f (suc n) h =
    and_then-both (first_fault_to f n) (f n) (good-first_fault_to f n (λ i l. h i (omega arith))) (h n (omega arith))

-- the first fault decides: Good up to i, and refused there
pub first_fault_to-refused : (f : ℕ → Checked) (n i : ℕ) (r : Refusal) → i < n → first_fault_to f i ≡ Ok tt
    → f i ≡ Err r
    → first_fault_to f n ≡ Err r
unfolding first_fault_to
first_fault_to-refused f zero i r l h q = absurd (omega arith)
first_fault_to-refused f (suc n) i r l h q =
    elim (ℕ_discrete i n) [
      | yes e ↦ rw (let z : first_fault_to f n ≡ (Ok tt) = rw (← e) h in z) (rw (← e) q)
      | no e ↦ rw (first_fault_to-refused f n i r (omega arith) h q)
    ]

-- tests behind a list of tests, of which one is met or none
pub first_met-append-refused : (ts us : List (Bool × Refusal)) (r : Refusal) → first_met ts ≡ Err r
    → first_met (ts ++ us) ≡ Err r
first_met-append-refused ts us r h = first_met-append ts us ∙ rw h

pub first_met-append-good : (ts us : List (Bool × Refusal)) → first_met ts ≡ Ok tt → first_met (ts ++ us) ≡ first_met us
first_met-append-good ts us h = first_met-append ts us ∙ rw h

-- and where all of them are Good, both are, and the other way round
module _ (ts us : List (Bool × Refusal)) where
  pub append-good-first : first_met (ts ++ us) ≡ Ok tt → first_met ts ≡ Ok tt
  append-good-first e = and_then-good-first (first_met ts) (first_met us) (sym (first_met-append ts us) ∙ e)

  pub append-good-second : first_met (ts ++ us) ≡ Ok tt → first_met us ≡ Ok tt
  append-good-second e = and_then-good-second (first_met ts) (first_met us) (sym (first_met-append ts us) ∙ e)

  pub append-good-both : first_met ts ≡ Ok tt → first_met us ≡ Ok tt → first_met (ts ++ us) ≡ Ok tt
  append-good-both p q = first_met-append ts us ∙ and_then-both (first_met ts) (first_met us) p q
