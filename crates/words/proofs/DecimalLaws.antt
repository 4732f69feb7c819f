-- Laws of decimal text: a number of two digits or more is its tenth with one digit behind it, and a number below
-- 10 ^ k has at most k digits.
use Prim.Native.Nat.{ℕ, zero, suc, ◌+◌, ◌-◌, ◌*◌, ◌/◌, ◌%◌, ◌^◌, ◌≤◌, ◌<◌}
use mathlib.Core.Bool.{Bool, true, false, cond}
use mathlib.Core.List.{List, ◌++◌}
use mathlib.Core.Path.{◌≡◌, refl, ap, ap₂, sym, subst, ◌∙◌}
use native.Mathlib.Decide.{dec_lt}
use native.Mathlib.Nat.{pow-suc, one-le-pow}
use native.Mathlib.Omega.{arith}
use borrow.Author.Tests.{lt-ltb, le-ltb}
use lib.Dec.{ltb}
use lib.IntN.{ℤ, pos, negsuc, nat_abs}
use lib.ListN.{length, length-append, replicate, set, take}
use lib.Seq.{sets, take-append_seam}
use Rattle.words.specs.declared.Word.{Word}
use Rattle.words.specs.Decimal.{digit, decimal_to, decimal, signed_decimal}
use Rattle.words.specs.Calls.{word_places, word_holding}
use Rattle.words.proofs.OverwriteLaws.{sets-set, sets_behind, sets-alone}

-- one digit, or a tenth and a digit
decimal_to-step : (most n : ℕ)
    → decimal_to (suc most) n ≡ cond (ltb n 10) (digit n) (decimal_to most (n / 10) ++ digit (n % 10))
unfolding decimal_to
decimal_to-step most n = go (ltb n 10)
  where
    go : (t : Bool)
        → ◌≡◌ {A = List ℕ} (elim t [ true ↦ digit n | false ↦ decimal_to most (n / 10) ++ digit (n % 10) ])
        (cond t (digit n) (decimal_to most (n / 10) ++ digit (n % 10)))
    go true = refl
    go false = refl

decimal_to-small : (most n : ℕ) → n < 10 → decimal_to (suc most) n ≡ digit n
decimal_to-small most n h =
    decimal_to-step most n
    ∙ ap (λ t. cond t (digit n) (decimal_to most (n / 10) ++ digit (n % 10))) (lt-ltb n 10 h)

decimal_to-next : (most n : ℕ) → 10 ≤ n → decimal_to (suc most) n ≡ decimal_to most (n / 10) ++ digit (n % 10)
decimal_to-next most n h =
    decimal_to-step most n
    ∙ ap (λ t. cond t (digit n) (decimal_to most (n / 10) ++ digit (n % 10))) (le-ltb n 10 h)

-- room for one digit more than are needed changes nothing
decimal_to-more : (most n : ℕ) → n < 10 ^ suc most → decimal_to (suc (suc most)) n ≡ decimal_to (suc most) n
decimal_to-more zero n h = decimal_to-small 1 n (omega arith) ∙ sym (decimal_to-small 0 n (omega arith))
decimal_to-more (suc most) n h =
    elim (dec_lt n 10) [
      | yes l ↦ decimal_to-small (suc (suc most)) n l ∙ sym (decimal_to-small (suc most) n l)
      | no l ↦
          let e = pow-suc 10 (suc most) in
          let small : n / 10 < 10 ^ suc most = omega arith in
          decimal_to-next (suc (suc most)) n (omega arith)
          ∙ ap (λ ds. ds ++ digit (n % 10)) (decimal_to-more most (n / 10) small)
          ∙ sym (decimal_to-next (suc most) n (omega arith))
    ]

pub decimal-small : (n : ℕ) → n < 10 → decimal n ≡ digit n
decimal-small n h = decimal_to-small 9 n h

pub decimal-next : (n : ℕ) → 10 ≤ n → n < 10 ^ 10 → decimal n ≡ decimal (n / 10) ++ digit (n % 10)
decimal-next n l h =
    decimal_to-next 9 n l ∙ ap (λ ds. ds ++ digit (n % 10)) (sym (decimal_to-more 8 (n / 10) (omega arith)))

pub decimal-length-next : (n : ℕ) → 10 ≤ n → n < 10 ^ 10 → length (decimal n) ≡ length (decimal (n / 10)) + 1
decimal-length-next n l h = ap length (decimal-next n l h) ∙ length-append (decimal (n / 10)) (digit (n % 10))

decimal_to-length-le : (k most n : ℕ) → n < 10 ^ suc k → length (decimal_to most n) ≤ suc k
unfolding decimal_to
decimal_to-length-le k zero n h = omega arith
decimal_to-length-le zero (suc most) n h = rw (decimal_to-small most n (omega arith)) (omega arith)
decimal_to-length-le (suc k) (suc most) n h =
    elim (dec_lt n 10) [
      | yes l ↦ rw (decimal_to-small most n l) (omega arith)
      | no l ↦
          let e = pow-suc 10 (suc k) in
          let small : n / 10 < 10 ^ suc k = omega arith in
          let rest = decimal_to-length-le k most (n / 10) small in
          rw (decimal_to-next most n (omega arith), length-append) (omega arith)
    ]

-- a number below 10 ^ (k + 1) has at most k + 1 digits
pub decimal-length-le : (k n : ℕ) → n < 10 ^ suc k → length (decimal n) ≤ suc k
decimal-length-le k n h = decimal_to-length-le k 10 n h

-- and at least one
pub decimal-length-lt : (n : ℕ) → 0 < length (decimal n)
decimal-length-lt n =
    elim (dec_lt n 10) [
      | yes l ↦ rw (decimal-small n l) (omega arith)
      | no l ↦ rw (decimal_to-next 9 n (omega arith), length-append) (omega arith)
    ]

-- a sign takes one place more
pub signed_decimal-length-le : (k : ℕ) (z : ℤ) → nat_abs z < 10 ^ suc k → length (signed_decimal z) ≤ suc (suc k)
signed_decimal-length-le k (pos n) h = let l = decimal-length-le k n h in omega arith
signed_decimal-length-le k (negsuc n) h = let l = decimal-length-le k (suc n) h in omega arith

-- a number from 10 ^ k on and below 10 ^ (k + 1) has k + 1 digits
pub decimal-length-is : (k n : ℕ) → 10 ^ k ≤ n → n < 10 * 10 ^ k → n < 10 ^ 10 → length (decimal n) ≡ k + 1
decimal-length-is zero n l g h = ap length (decimal-small n (omega arith))
decimal-length-is (suc k) n l g h =
    let e = pow-suc 10 k in
    let some : 1 ≤ 10 ^ k = one-le-pow k 10 (omega arith) in
    let rest = decimal-length-is k (n / 10) (omega arith) (omega arith) (omega arith) in
    omega (arith, decimal-length-next n (omega arith) h, rest)

-- as many digits as a number has hold it
decimal_to-enough : (most n : ℕ) → decimal_to (length (decimal_to most n)) n ≡ decimal_to most n
unfolding decimal_to
decimal_to-enough zero n = refl
decimal_to-enough (suc most) n =
    elim (dec_lt n 10) [
      | yes l ↦ rw (decimal_to-small most n l) (decimal_to-small 0 n l)
      | no l ↦
          let next = decimal_to-next most n (omega arith) in
          let long : length (decimal_to (suc most) n) ≡ suc (length (decimal_to most (n / 10))) =
          ap length next ∙ simp length-append (omega arith) in
          rw long
          (decimal_to-next (length (decimal_to most (n / 10))) n (omega arith)
          ∙ ap (λ ds. ds ++ digit (n % 10)) (decimal_to-enough most (n / 10)) ∙ sym next)
    ]

-- digits that are written from the last to the first: so many of them are left, which end before a place
pub record AreLeft (bytes written : List ℕ) (at place number rest : ℕ) : Type 0 where
  pub from : at ≤ place
  pub many : length (decimal_to (place - at) rest) ≡ place - at
  pub asked : sets written at (decimal_to (place - at) rest) ≡ sets bytes at (decimal number)

-- all of them at first
pub all-left : (bytes : List ℕ) (at place number : ℕ) → place ≡ at + length (decimal number)
    → AreLeft bytes bytes at place number number
all-left bytes at place number e =
    let n : place - at ≡ length (decimal number) = omega arith in
    record {
      from = omega arith;
      many = rw n (ap length (decimal_to-enough 10 number));
      asked = rw n (ap (sets bytes at) (decimal_to-enough 10 number));
    }

-- the last of so many, and one fewer in front of it
abbrev OneFewer : List ℕ → ℕ → ℕ → ℕ → Type 0
OneFewer bytes at n rest =
    let fewer = decimal_to n (rest / 10) in
    (length fewer ≡ n)
    × (sets (set bytes (at + n) (48 + rest % 10)) at fewer ≡ sets bytes at (decimal_to (suc n) rest))

last-digit : (bytes : List ℕ) (at n rest : ℕ) → length (decimal_to (suc n) rest) ≡ suc n → OneFewer bytes at n rest
unfolding decimal_to
last-digit bytes at n rest many =
    elim (dec_lt rest 10) [
      | yes l ↦
          let e = decimal_to-small n rest l in
          let none : n ≡ 0 = omega (arith, many, ap length e) in
          let one : rest % 10 ≡ rest = omega arith in
          let here : at + 0 ≡ at = omega arith in
          subst (λ m. OneFewer bytes at m rest)
          (sym none)
          (refl, rw (one, here) (ap (sets bytes at) (sym (decimal_to-small 0 rest l))))
      | no l ↦
          let e = decimal_to-next n rest (omega arith) in
          let short : length (decimal_to n (rest / 10)) ≡ n =
          omega (arith, many, ap length e, length-append (decimal_to n (rest / 10)) (digit (rest % 10))) in (
            short,
            sets-set bytes at (at + n) (decimal_to n (rest / 10)) (48 + rest % 10) (omega arith)
                ∙ sets_behind bytes at (at + n) (decimal_to n (rest / 10)) (digit (rest % 10)) (omega arith)
                ∙ ap (sets bytes at) (sym e),
          )
    ]

-- one fewer behind the last of them
pub next-left : (bytes written : List ℕ) (at place number rest : ℕ)
    → AreLeft bytes written at place number rest → at < place
    → AreLeft bytes (set written (place - 1) (48 + rest % 10)) at (place - 1) number (rest / 10)
next-left bytes written at place number rest left l =
    let n : place - at ≡ suc (place - 1 - at) = omega arith in
    let here : at + (place - 1 - at) ≡ place - 1 = omega arith in
    let last = last-digit written at (place - 1 - at) rest (rw n at left.many) in
    record {
      from = omega arith;
      many = last.0;
      asked = (rw here at last.1) ∙ (rw n at left.asked);
    }

-- and none at last
pub none-left : (bytes written : List ℕ) (at place number rest : ℕ)
    → AreLeft bytes written at place number rest → place ≤ at → written ≡ sets bytes at (decimal number)
unfolding decimal_to
none-left bytes written at place number rest left l =
    let none : place - at ≡ 0 = omega arith in
    rw none at left.asked

-- a text at the front of a word of zeros
pub word_holding-is : (bs : List ℕ) (n : ℕ) → n ≡ length bs → length bs ≤ word_places
    → ◌≡◌ {A = Word} (record { length = n; bytes = sets (replicate word_places 0) 0 bs }) (word_holding bs)
word_holding-is bs n e h = ap₂ (λ l w. record { length = l; bytes = w }) e (sets-alone word_places 0 bs h)

-- the bytes that a word counts are the text that it holds
pub word-taken : (word : Word) (bs : List ℕ) → word ≡ word_holding bs → take word.length word.bytes ≡ bs
word-taken word bs e =
    ap (λ (w : Word). take w.length w.bytes) e ∙ take-append_seam bs (replicate (word_places - length bs) 0)

decimal_to-length-most : (most n : ℕ) → length (decimal_to most n) ≤ most
unfolding decimal_to
decimal_to-length-most zero n = omega arith
decimal_to-length-most (suc most) n = go (ltb n 10) (decimal_to-length-most most (n / 10))
  where
    go : (t : Bool) → length (decimal_to most (n / 10)) ≤ most
        → length {A = ℕ} (elim t [ true ↦ digit n | false ↦ decimal_to most (n / 10) ++ digit (n % 10) ])
        ≤ suc most
    go true h = omega arith
    go false h = rw length-append (omega arith)

-- the text of any number has at most ten digits
pub decimal-length-most : (n : ℕ) → length (decimal n) ≤ 10
decimal-length-most n = decimal_to-length-most 10 n
