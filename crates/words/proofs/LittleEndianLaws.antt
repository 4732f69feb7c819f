-- The two round trips of a number and its bytes, over any width: what is written reads back, and what is read, of
-- bytes, is written back. Also: which bytes of a list the number at a place depends on.
use Prim.Native.Nat.{ℕ, zero, suc, ◌+◌, ◌*◌, ◌/◌, ◌%◌, ◌^◌, ◌≤◌, ◌<◌}
use mathlib.Core.List.{List, [], ◌∷◌, ◌++◌}
use mathlib.Core.Path.{◌≡◌, refl, ap, ap₂, sym, ◌∙◌}
use native.Mathlib.Nat.{pow-suc, zero-add}
use native.Mathlib.Numerals.{add-one}
use native.Mathlib.Omega.{arith}
use lib.ListN.{length, take, drop}
use lib.Seq.{drop-cons, get_or-append-add, get_or-drop}
use Rattle.words.specs.LittleEndian.{little_endian, byte_at, number_at, Bytes}

pub little_endian-length : (width n : ℕ) → length (little_endian width n) ≡ width
unfolding little_endian
little_endian-length zero n = refl
little_endian-length (suc width) n = ap suc (little_endian-length width (n / 256))

pub little_endian-bytes : (width n : ℕ) → Bytes (little_endian width n)
unfolding little_endian
little_endian-bytes zero n at = omega arith
little_endian-bytes (suc width) n zero = omega arith
little_endian-bytes (suc width) n (suc at) = little_endian-bytes width (n / 256) at

pub number_at-lt : (width : ℕ) (bs : List ℕ) (at : ℕ) → Bytes bs → number_at width bs at < 256 ^ width
unfolding number_at
number_at-lt zero bs at h = omega arith
number_at-lt (suc width) bs at h =
    rw (pow-suc 256 width) (omega (arith, h at, number_at-lt width bs (at + 1) h))

-- bytes in front of a place do not matter
pub number_at-behind : (width : ℕ) (xs ys : List ℕ) (at : ℕ)
    → number_at width (xs ++ ys) (length xs + at) ≡ number_at width ys at
unfolding number_at
number_at-behind zero xs ys at = refl
number_at-behind (suc width) xs ys at =
    let e : length xs + at + 1 ≡ length xs + (at + 1) = omega arith in
    ap₂ (λ b n. b + 256 * n) (get_or-append-add xs ys at 0)
    (ap (number_at width (xs ++ ys)) e ∙ number_at-behind width xs ys (at + 1))

number_at-drop : (width : ℕ) (bs : List ℕ) (at k : ℕ)
    → number_at width (drop at bs) k ≡ number_at width bs (at + k)
unfolding number_at
number_at-drop zero bs at k = refl
number_at-drop (suc width) bs at k =
    let e : at + (k + 1) ≡ at + k + 1 = omega arith in
    ap₂ (λ b n. b + 256 * n) (get_or-drop at bs k 0)
    (number_at-drop width bs at (k + 1) ∙ ap (number_at width bs) e)

-- the number at a place is the first of the bytes from that place on
pub number_at-first : (width : ℕ) (bs rest : List ℕ) (at : ℕ) → rest ≡ drop at bs
    → number_at width bs at ≡ number_at width rest 0
number_at-first width bs rest at e =
    let z : at ≡ at + 0 = omega arith in
    ap (number_at width bs) z ∙ sym (number_at-drop width bs at 0) ∙ ap (λ l. number_at width l 0) (sym e)

-- only so many bytes from the place on count
number_at-same : (width : ℕ) (xs ys : List ℕ) (i at : ℕ)
    → ((k : ℕ) → k < width → byte_at xs (i + k) ≡ byte_at ys (at + k))
    → number_at width xs i ≡ number_at width ys at
unfolding number_at
number_at-same zero xs ys i at h = refl
number_at-same (suc width) xs ys i at h =
    let a : i + 0 ≡ i = omega arith in
    let b : at + 0 ≡ at = omega arith in
    ap₂ (λ b n. b + 256 * n) (rw (a, b) at (h 0 (omega arith)))
    (number_at-same width xs ys (i + 1) (at + 1)
    (λ k l.
    let one : i + suc k ≡ i + 1 + k = omega arith in
    let other : at + suc k ≡ at + 1 + k = omega arith in
    rw (one, other) at (h (suc k) (omega arith))))

-- the number at a place is that of so many bytes that were taken from there on
pub number_at-taken : (width : ℕ) (bs taken : List ℕ) (at : ℕ)
    → ((k : ℕ) → k < width → byte_at taken k ≡ byte_at bs (at + k))
    → number_at width taken 0 ≡ number_at width bs at
number_at-taken width bs taken at h =
    number_at-same width taken bs 0 at (λ k l. ap (byte_at taken) (zero-add k) ∙ h k l)

-- the number of four bytes, by their weights
pub number_at-four : (bs : List ℕ) (at : ℕ)
    → number_at 4 bs at
    ≡ byte_at bs at + 256 * byte_at bs (at + 1) + 65536 * byte_at bs (at + 2) + 16777216 * byte_at bs (at + 3)
unfolding number_at
number_at-four bs at =
    let third : byte_at bs (at + 1 + 1) ≡ byte_at bs (at + 2) = ap (byte_at bs) (omega arith) in
    let fourth : byte_at bs (at + 1 + 1 + 1) ≡ byte_at bs (at + 3) = ap (byte_at bs) (omega arith) in
    omega (arith, third, fourth)

read_head : (width n : ℕ) (ys : List ℕ) → n < 256 ^ width → number_at width (little_endian width n ++ ys) 0 ≡ n
unfolding number_at little_endian
read_head zero n ys h = omega arith
read_head (suc width) n ys h =
    let small : n / 256 < 256 ^ width = let e = pow-suc 256 width in omega (arith, e) in
    let tail : number_at width (little_endian (suc width) n ++ ys) 1 ≡ n / 256 =
    number_at-behind width (n % 256 ∷ []) (little_endian width (n / 256) ++ ys) 0
    ∙ read_head width (n / 256) ys small in
    omega (arith, tail)

-- what is written reads back
pub little_endian-read : (width n : ℕ) (xs ys : List ℕ) → n < 256 ^ width
    → number_at width (xs ++ (little_endian width n ++ ys)) (length xs) ≡ n
little_endian-read width n xs ys h =
    let e : length xs + 0 ≡ length xs = omega arith in
    ap (number_at width (xs ++ (little_endian width n ++ ys))) (sym e)
    ∙ number_at-behind width xs (little_endian width n ++ ys) 0
    ∙ read_head width n ys h

-- what is read, of bytes, is written back
pub number_at-written : (width : ℕ) (bs : List ℕ) (at : ℕ) → Bytes bs → at + width ≤ length bs
    → little_endian width (number_at width bs at) ≡ take width (drop at bs)
unfolding number_at little_endian
number_at-written zero bs at h l = refl
number_at-written (suc width) bs at h l =
    let rest : ℕ = number_at width bs (at + 1) in
    let low : (byte_at bs at + 256 * rest) % 256 ≡ byte_at bs at = omega (arith, h at) in
    let high : (byte_at bs at + 256 * rest) / 256 ≡ rest = omega (arith, h at) in
    let d : drop at bs ≡ byte_at bs at ∷ drop (suc at) bs = drop-cons bs at 0 (omega arith) in
    ap₂ ◌∷◌ low (ap (little_endian width) high ∙ number_at-written width bs (at + 1) h (omega arith) ∙ rw add-one)
    ∙ ap (take (suc width)) (sym d)
