-- Digits and the number that they spell, both ways and digit by digit, by the tenth of the number: where the decimal of
-- a number stands, its digits spell it; and digits of which the first is no 0 in front of others are the decimal of
-- what they spell.
use Prim.Native.Nat.{ℕ, zero, suc, ◌+◌, ◌-◌, ◌*◌, ◌/◌, ◌%◌, ◌^◌, ◌≤◌, ◌<◌}
use mathlib.Core.Bool.{true}
use mathlib.Core.List.{List, [], ◌++◌}
use mathlib.Core.Path.{◌≡◌, refl, ap, ap₂, sym, subst, ◌∙◌}
use native.Mathlib.Decide.{dec_lt}
use native.Mathlib.Nat.{pow-suc, pow-le-pow_right}
use native.Mathlib.Omega.{arith}
use lib.ListN.{length, length-append}
use Rattle.counting.proofs.lists.PieceLaws.{
  Stands,
  nothing-stands,
  append-stands,
  cons-stands,
  stands-first,
  stands-second,
  stands-head,
}
use Rattle.words.specs.LittleEndian.{byte_at}
use Rattle.words.specs.Decimal.{digit, decimal}
use Rattle.words.specs.PlainDecimal.{is_digit, value_at}
use Rattle.words.proofs.DecimalLaws.{decimal-small, decimal-next}
use Rattle.words.proofs.DigitLaws.{
  is_digit-true,
  sign-is_digit,
  Run,
  digit-inside,
  run-next,
  value_at-next,
  value_at-lt,
}

module _ (bs : List ℕ) (at : ℕ) where
  -- so many digits from the place on, and the number that they spell
  pub record Spells (digits n : ℕ) : Type 0 where
    pub run : Run bs at digits
    pub value : value_at bs at digits ≡ n

  spells-none : Spells 0 0
  unfolding value_at
  spells-none = record { run = λ d l. absurd (omega arith); value = refl }

  -- one digit more
  spells-next : (digits n d : ℕ) → d < 10 → Spells digits n → byte_at bs (at + digits) ≡ 48 + d
      → Spells (digits + 1) (10 * n + d)
  spells-next digits n d l h e =
      record {
        run = run-next bs at digits h.run (sign-is_digit (byte_at bs (at + digits)) (omega arith) (omega arith));
        value = omega (arith, value_at-next bs at digits, h.value);
      }

  -- a number whose decimal stands is spelled, and a 0 stands at its front only where it is 0
  pub record SpellsWhole (n : ℕ) : Type 0 where
    pub spells : Spells (length (decimal n)) n
    pub front : 0 < n → byte_at bs at ≡ 48 → ⊥

  digit-spells : (n : ℕ) → n < 10 → Stands (decimal n) bs at → SpellsWhole n
  digit-spells n l h =
      let e : decimal n ≡ digit n = decimal-small n l in
      let k : at + 0 ≡ at = omega arith in
      let byte : byte_at bs at ≡ 48 + n = stands-head (48 + n) [] bs at 0 (subst (λ ds. Stands ds bs at) e h) in
      let m : 10 * 0 + n ≡ n = omega arith in
      record {
        spells = rw (ap length e) (subst (Spells 1) m (spells-next 0 0 n l spells-none (ap (byte_at bs) k ∙ byte)));
        front = λ g z. absurd (omega arith);
      }

  next-spells : (n : ℕ) → 10 ≤ n → n < 10 ^ 10 → SpellsWhole (n / 10) → Stands (decimal n) bs at → SpellsWhole n
  next-spells n l g whole h =
      let e : decimal n ≡ decimal (n / 10) ++ digit (n % 10) = decimal-next n l g in
      let there : ℕ = at + length (decimal (n / 10)) in
      let last : Stands (digit (n % 10)) bs there =
      stands-second (decimal (n / 10)) (digit (n % 10)) bs at there refl (subst (λ ds. Stands ds bs at) e h) in
      let byte : byte_at bs there ≡ 48 + n % 10 = stands-head (48 + n % 10) [] bs there 0 last in
      let m : 10 * (n / 10) + n % 10 ≡ n = omega arith in
      let long : length (decimal n) ≡ length (decimal (n / 10)) + 1 = ap length e ∙ simp length-append in
      record {
        spells =
            rw long
            (subst (Spells (length (decimal (n / 10)) + 1)) m
            (spells-next (length (decimal (n / 10))) (n / 10) (n % 10) (omega arith) whole.spells byte));
        front = λ _. whole.front (omega arith);
      }

  spells-below : (k n : ℕ) → n < 10 ^ suc k → n < 10 ^ 10 → Stands (decimal n) bs at → SpellsWhole n
  spells-below zero n l g h = digit-spells n (omega arith) h
  spells-below (suc k) n l g h =
      elim (dec_lt n 10) [
        | yes s ↦ digit-spells n s h
        | no s ↦
            let p = pow-suc 10 (suc k) in
            let e : decimal n ≡ decimal (n / 10) ++ digit (n % 10) = decimal-next n (omega arith) g in
            next-spells n (omega arith) g
            (spells-below k (n / 10) (omega arith) (omega arith)
            (stands-first (decimal (n / 10)) (digit (n % 10)) bs at (subst (λ ds. Stands ds bs at) e h)))
            h
      ]

  pub decimal-spells : (n : ℕ) → n < 10 ^ 10 → Stands (decimal n) bs at → SpellsWhole n
  decimal-spells n l h = spells-below 9 n l l h

  -- a digit stands where it is read
  digit-stands : (k : ℕ) → is_digit (byte_at bs k) ≡ true → Stands (digit (byte_at bs k - 48)) bs k
  digit-stands k e =
      let sign = is_digit-true (byte_at bs k) e in
      cons-stands (48 + (byte_at bs k - 48)) [] bs k (k + 1) refl 0 (digit-inside bs k e) (omega (arith, sign.least))
      (nothing-stands bs (k + 1))

  -- n digits, of which the first is no 0 in front of others, are the decimal of what they spell
  pub record DecimalStands (n : ℕ) : Type 0 where
    pub stands : Stands (decimal (value_at bs at n)) bs at
    pub so-long : length (decimal (value_at bs at n)) ≡ n

  value_at-above : (n : ℕ) → Run bs at (suc n) → (byte_at bs at ≡ 48 → ⊥) → 0 < value_at bs at (suc n)
  unfolding value_at
  value_at-above zero run front =
      let k : at + 0 ≡ at = omega arith in
      let sign = is_digit-true (byte_at bs (at + 0)) (run 0 (omega arith)) in
      omega (arith, sign.least, ap (byte_at bs) k, front)
  value_at-above (suc n) run front =
      omega (arith, value_at-above n (λ d l. run d (omega arith)) front)

  stands-as : (n : ℕ) (ds : List ℕ) → decimal (value_at bs at n) ≡ ds → Stands ds bs at → length ds ≡ n
      → DecimalStands n
  stands-as n ds e h long = record { stands = subst (λ l. Stands l bs at) (sym e) h; so-long = ap length e ∙ long }

  pub run-stands : (n : ℕ) → n < 10 → Run bs at (suc n) → (0 < n → byte_at bs at ≡ 48 → ⊥) → DecimalStands (suc n)
  unfolding value_at
  run-stands zero l run front =
      let k : at + 0 ≡ at = omega arith in
      let b : ℕ = byte_at bs (at + 0) in
      let sign = is_digit-true b (run 0 (omega arith)) in
      let one : 10 * 0 + (b - 48) ≡ b - 48 = omega arith in
      stands-as 1 (digit (b - 48)) (ap decimal one ∙ decimal-small (b - 48) (omega (arith, sign.most)))
      (subst (Stands (digit (b - 48)) bs) k (digit-stands (at + 0) (run 0 (omega arith)))) refl
  run-stands (suc n) l run front =
      let front-run : Run bs at (suc n) = λ d g. run d (omega arith) in
      let before = run-stands n (omega arith) front-run (λ _. front (omega arith)) in
      let v : ℕ = value_at bs at (suc n) in
      let b : ℕ = byte_at bs (at + suc n) in
      let sign = is_digit-true b (run (suc n) (omega arith)) in
      let above : 0 < v = value_at-above n front-run (front (omega arith)) in
      let short : 10 * v + (b - 48) < 10 ^ 10 =
      omega (
        arith,
        value_at-lt bs at (suc (suc n)) run,
        pow-le-pow_right {n = 10} (omega arith) {i = suc (suc n)} {j = 10} (omega arith),
      ) in
      let tenth : (10 * v + (b - 48)) / 10 ≡ v = omega (arith, sign.most) in
      let last : (10 * v + (b - 48)) % 10 ≡ b - 48 = omega (arith, sign.most) in
      let e : decimal (10 * v + (b - 48)) ≡ decimal v ++ digit (b - 48) =
      decimal-next (10 * v + (b - 48)) (omega arith) short ∙ ap₂ (λ t d. decimal t ++ digit d) tenth last in
      stands-as (suc (suc n)) (decimal v ++ digit (b - 48)) e
      (append-stands (decimal v) (digit (b - 48)) bs at (at + suc n) (ap (λ m. at + m) (sym before.so-long))
      before.stands (digit-stands (at + suc n) (run (suc n) (omega arith))))
      (simp length-append (omega (arith, before.so-long)))
