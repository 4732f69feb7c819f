-- A line's text, put together piece by piece: pieces one behind the other are one piece, and there is room for the
-- line of every row that memory holds.
use Prim.Native.Nat.{ℕ, ◌+◌, ◌-◌, ◌*◌, ◌≤◌, ◌<◌}
use mathlib.Core.List.{List, [], ◌∷◌, ◌++◌}
use mathlib.Core.Path.{◌≡◌, refl, ap, ap₂, sym, ◌∙◌}
use native.Mathlib.Omega.{arith}
use lib.ListN.{length, take, replicate, length-append}
use lib.Seq.{take-append_seam}
use Rattle.counting.specs.Lists.{join_to, member_at}
use Rattle.counting.proofs.sums.SumLaws.{sum_to-le}
use Rattle.counting.proofs.lists.ListLaws.{join_to-next, join_to-length}
use Rattle.words.specs.declared.Word.{Word}
use Rattle.words.specs.Decimal.{decimal}
use Rattle.words.specs.Calls.{word_places, DecimalOf}
use Rattle.words.proofs.OverwriteLaws.{sets-append, sets-alone}
use Rattle.words.proofs.DecimalLaws.{decimal-length-le, decimal-length-most}
use Rattle.load.specs.declared.Step.{Step}
use Rattle.load.specs.declared.Row.{Row}
use Rattle.load.specs.Load.{step_at}
use Rattle.sheet_line.specs.declared.LineText.{LineText}
use Rattle.sheet_line.specs.LineText.{comma, return, feed, field_bytes, line_of, line_bytes}
use Rattle.sheet_line.specs.Calls.{most_line_bytes, LineOf}
use Rattle.sheet_line.specs.inner.Behind.{behind, mark_text}

pub behind-none : (held : LineText) → behind held [] ≡ held
behind-none held = ap (λ n. record { length = n; bytes = held.bytes }) (omega arith)

pub behind_more : (held : LineText) (xs ys : List ℕ) → behind (behind held xs) ys ≡ behind held (xs ++ ys)
behind_more held xs ys =
    let e : held.length + length xs + length ys ≡ held.length + length (xs ++ ys) =
    omega (arith, length-append xs ys) in
    ap₂ (λ n bs. record { length = n; bytes = bs }) e (sets-append held.bytes held.length xs ys)

pub field_bytes-length-most : (n : ℕ) → length (field_bytes n) ≤ 11
field_bytes-length-most n = omega (arith, length-append (decimal n) (comma ∷ []), decimal-length-most n)

-- a word has a place for each digit of a number
pub word-inside : (n : ℕ) (word : Word) → DecimalOf n word → word.length ≤ length word.bytes
word-inside n word e =
    let l = decimal-length-most n in
    omega (
      arith,
      ap (λ (w : Word). w.length) e,
      ap (λ (w : Word). length w.bytes) e,
      length-append (decimal n) (replicate (word_places - length (decimal n)) 0),
    )

-- so many of the numbers, each with its comma
abbrev pub fields_text : List ℕ → ℕ → List ℕ
fields_text numbers n = join_to (λ k. field_bytes (member_at numbers k)) n

pub fields_text-length-most : (numbers : List ℕ) (n : ℕ) → length (fields_text numbers n) ≤ n * 11
fields_text-length-most numbers n =
    rw join_to-length
    (sum_to-le (λ k. length (field_bytes (member_at numbers k))) n 11
    (λ k l. field_bytes-length-most (member_at numbers k)))

-- one number more behind a text
pub fields_text-next : (held so_far after : LineText) (numbers : List ℕ) (k : ℕ)
    → so_far ≡ behind held (fields_text numbers k) → after ≡ behind so_far (field_bytes (member_at numbers k))
    → after ≡ behind held (fields_text numbers (k + 1))
fields_text-next held so_far after numbers k p q =
    q
    ∙ ap (λ t. behind t (field_bytes (member_at numbers k))) p
    ∙ behind_more held (fields_text numbers k) (field_bytes (member_at numbers k))
    ∙ ap (behind held) (sym (join_to-next (λ k. field_bytes (member_at numbers k)) k))

-- the numbers of the line of a row's step
abbrev pub numbers_of : Row → Step → List ℕ
numbers_of row step =
    row.identifier.0 ∷ row.box_number.0 ∷ row.phase ∷ row.deadline ∷ step.cost ∷ step.wait ∷ []

-- a text that holds nothing
abbrev pub empty_text : LineText
empty_text = record { length = 0; bytes = replicate most_line_bytes 0 }

module _ (row : Row) (j : ℕ) where
  line_bytes-parts : fields_text (numbers_of row (step_at row j)) 6 ++ mark_text row j ++ return ∷ feed ∷ []
      ≡ line_bytes (line_of row j)
  unfolding join_to line_bytes line_of
  line_bytes-parts = refl

  -- four numbers of ten digits, two of 16 bits, and a mark of five bytes
  pub line_bytes-length-le : (step_at row j).cost < 65536 → (step_at row j).wait < 65536 → length (mark_text row j) ≤ 5
      → length (line_bytes (line_of row j)) ≤ most_line_bytes
  unfolding line_bytes line_of
  line_bytes-length-le cost wait few =
      let cost-le = decimal-length-le 4 (step_at row j).cost (omega arith) in
      let wait-le = decimal-length-le 4 (step_at row j).wait (omega arith) in
      simp length-append
      (omega (
        arith,
        decimal-length-most row.identifier.0,
        decimal-length-most row.box_number.0,
        decimal-length-most row.phase,
        decimal-length-most row.deadline,
      ))

  -- the numbers, the mark and CR LF, put behind one another over zeros
  pub line-put : (step : Step) (fields marked r : LineText) → step ≡ step_at row j
      → fields ≡ behind empty_text (fields_text (numbers_of row step) 6)
      → marked ≡ behind fields (mark_text row j) → r ≡ behind marked (return ∷ feed ∷ [])
      → length (line_bytes (line_of row j)) ≤ most_line_bytes → LineOf row j r
  line-put step fields marked r s p q e l =
      let numbers : List ℕ = fields_text (numbers_of row (step_at row j)) 6 in
      let first : fields ≡ behind empty_text numbers =
      p ∙ ap (λ s. behind empty_text (fields_text (numbers_of row s) 6)) s in
      let second : marked ≡ behind empty_text (numbers ++ mark_text row j) =
      q ∙ ap (λ t. behind t (mark_text row j)) first ∙ behind_more empty_text numbers (mark_text row j) in
      e
      ∙ ap (λ t. behind t (return ∷ feed ∷ [])) second
      ∙ behind_more empty_text (numbers ++ mark_text row j) (return ∷ feed ∷ [])
      ∙ ap (behind empty_text) line_bytes-parts
      ∙ ap₂ (λ n bs. record { length = n; bytes = bs }) (omega arith)
      (sets-alone most_line_bytes 0 (line_bytes (line_of row j)) l)

-- what the call gives of a step: its length, and its bytes at the front, which its places hold
module _ (row : Row) (j : ℕ) (r : LineText) (e : LineOf row j r) where
  pub text-length : r.length ≡ length (line_bytes (line_of row j))
  text-length = ap (λ (t : LineText). t.length) e

  pub text-taken : take r.length r.bytes ≡ line_bytes (line_of row j)
  text-taken =
      let bs = line_bytes (line_of row j) in
      ap (λ (t : LineText). take t.length t.bytes) e
      ∙ take-append_seam bs (replicate (most_line_bytes - length bs) 0)

  pub text-inside : r.length ≤ length r.bytes
  text-inside =
      let bs = line_bytes (line_of row j) in
      omega (
        arith,
        text-length,
        ap (λ (t : LineText). length t.bytes) e,
        length-append bs (replicate (most_line_bytes - length bs) 0),
      )
