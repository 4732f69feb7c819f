-- What is read at the n-th line behind a place: whether one stands there, what it says, and where the next one stands.
use Prim.Native.Nat.{ℕ, ◌+◌, ◌<◌}
use mathlib.Core.Bool.{true, false}
use mathlib.Core.List.{List}
use mathlib.Core.Path.{◌≡◌, ap, sym, ◌∙◌}
use native.Mathlib.Numerals.{add-one}
use Rattle.std.specs.Prelude.{Some, None}
use Rattle.std.proofs.lemmas.Option.{cond_some}
use Rattle.words.proofs.ReadLaws.{cond_none}
use Rattle.sheet_line.specs.declared.LineRead.{LineRead}
use Rattle.sheet_line.specs.Line.{is_line, line_in, next_line}
use Rattle.sheet_line.specs.Calls.{LineAt}
use Rattle.sheet.specs.Lines.{line_place, line_from}
use Rattle.sheet.specs.inner.Walk.{LinesStand}
use Rattle.sheet.proofs.trip.PlaceLaws.{line_place-next}

-- the line at a place, as it is read
abbrev pub read_at : List ℕ → ℕ → LineRead
read_at bs at = record { line = line_in bs at; next = next_line bs at }

-- one is read, or none is
pub some-there : (bs : List ℕ) (at : ℕ) (r : LineRead) → LineAt bs at (Some r) → is_line bs at ≡ true
some-there bs at r read = (cond_some (is_line bs at) (read_at bs at) r (sym read)).0

pub some-read : (bs : List ℕ) (at : ℕ) (r : LineRead) → LineAt bs at (Some r) → r ≡ read_at bs at
some-read bs at r read = sym (cond_some (is_line bs at) (read_at bs at) r (sym read)).1

pub none-there : (bs : List ℕ) (at : ℕ) → LineAt bs at None → is_line bs at ≡ false
none-there bs at read = cond_none (is_line bs at) (read_at bs at) (sym read)

-- the n-th line says what it does, and the next one stands behind it
module _ (bs : List ℕ) (from n : ℕ) {at : ℕ} {r : LineRead} (e : at ≡ line_place bs from n)
    (read : r ≡ read_at bs at) where
  pub line-says : r.line ≡ line_from bs from n
  line-says = ap (λ (r : LineRead). r.line) read ∙ ap (line_in bs) e

  pub line-next : r.next ≡ line_place bs from (n + 1)
  line-next = ap (λ (r : LineRead). r.next) read ∙ rw (e, add-one, line_place-next)

-- of so many lines that stand from a place on
pub line-stands : {bs : List ℕ} {from count n at : ℕ} → LinesStand bs from count → n < count
    → at ≡ line_place bs from n → is_line bs at ≡ true
line-stands {bs} {n = n} stand l e = ap (is_line bs) e ∙ stand.are-lines n l
