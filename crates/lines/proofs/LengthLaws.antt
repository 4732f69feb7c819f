-- How long what is printed can be: no number has more than ten digits, which bounds a line of each kind; and for any
-- bytes what is printed has at most 9,053, as an accepted load has at most 24 rows and 192 slots.
use Prim.Native.Nat.{ℕ, zero, suc, ◌*◌, ◌/◌, ◌%◌, ◌≤◌}
use mathlib.Core.Bool.{Bool, true, false}
use mathlib.Core.List.{List, [], ◌∷◌, ◌++◌}
use mathlib.Core.Path.{◌≡◌, refl}
use native.Mathlib.Omega.{arith}
use lib.Dec.{ltb}
use lib.IntN.{ℤ, pos, negsuc}
use lib.ListN.{length, length-append}
use Rattle.counting.specs.Lists.{join_to, join_in}
use Rattle.words.specs.Decimal.{text, digit, decimal_to, decimal, signed_decimal}
use Rattle.words.specs.LittleEndian.{Bytes}
use Rattle.refusals.specs.declared.Refusal.{Refusal}
use Rattle.refusals.specs.declared.Refusal.{Refusal}
use Rattle.std.specs.Prelude.{Result, Ok, Err}
use Rattle.refusals.specs.Refusals.{number_of}
use Rattle.load.specs.declared.Row.{Row}
use Rattle.load.specs.declared.Load.{Load}
use Rattle.load.specs.Load.{row_at, shown}
use Rattle.load.specs.Check.{check_load}
use Rattle.load.specs.View.{View, view_of, steps_in_all}
use Rattle.load.proofs.AcceptableLaws.{check-acceptable}
use Rattle.load_file.specs.Reading.{read_load}
use Rattle.load_file.proofs.CallLaws.{ReadLoad-accepted}
use Rattle.rules.specs.declared.Blame.{Blame}
use Rattle.rules.specs.declared.Slot.{Slot}
use Rattle.rules.specs.Bound.{bound}
use Rattle.rules.specs.Margins.{margin, verdict}
use Rattle.rules.specs.Blame.{row_blame}
use Rattle.rules.specs.Slots.{last_end}
use Rattle.rules.specs.Run.{schedule}
use Rattle.bound.proofs.AcceptedLaws.{accepted-few}
use Rattle.bench.proofs.running.RunsLaws.{schedule-most}
use Rattle.lines.specs.Lines.{
  spaced,
  yes_or_no,
  first_line_of,
  load_line,
  blame_words,
  row_line_of,
  row_line,
  slot_line,
  load_lines,
  refused_line,
  printed_by,
}
use Rattle.lines.specs.Calls.{first_most, row_most, slot_most, text_places}
use Rattle.lines.proofs.PrintedLaws.{read-lines, read-refused}

decimal_to-le : (most n : ℕ) → length (decimal_to most n) ≤ most
unfolding decimal_to
decimal_to-le zero n = omega arith
decimal_to-le (suc most) n = go (ltb n 10) (decimal_to-le most (n / 10))
  where
    go : (t : Bool) → length (decimal_to most (n / 10)) ≤ most
        → length {A = ℕ} (elim t [ true ↦ digit n | false ↦ decimal_to most (n / 10) ++ digit (n % 10) ]) ≤ suc most
    go true rest = omega arith
    go false rest = rw length-append (omega arith)

decimal-le : (n : ℕ) → length (decimal n) ≤ 10
decimal-le n = decimal_to-le 10 n

signed_decimal-le : (z : ℤ) → length (signed_decimal z) ≤ 11
signed_decimal-le (pos n) = let l = decimal-le n in omega arith
signed_decimal-le (negsuc n) = let l = decimal-le (suc n) in omega arith

yes_or_no-le : (answer : Bool) → length (yes_or_no answer) ≤ 3
unfolding text
yes_or_no-le true = omega arith
yes_or_no-le false = omega arith

pub first_line_of-le : (rows steps end bound : ℕ) (answer : Bool)
    → length (first_line_of rows steps end bound answer) ≤ first_most
unfolding first_line_of spaced text
first_line_of-le rows steps end bound answer =
    simp length-append
    (omega (
      arith,
      decimal-le rows,
      decimal-le steps,
      decimal-le end,
      decimal-le bound,
      yes_or_no-le answer,
    ))

blamed-le : (row : ℕ) (fields : Row) (margin : ℤ) (blame : Blame)
    → length (row_line_of row fields margin (blame_words true blame)) ≤ row_most
unfolding row_line_of spaced text
blamed-le row fields margin blame =
    simp length-append
    (omega (
      arith,
      decimal-le row,
      decimal-le fields.identifier.0,
      decimal-le fields.box_number.0,
      signed_decimal-le margin,
      decimal-le blame.place,
      decimal-le blame.row,
    ))

unblamed-le : (row : ℕ) (fields : Row) (margin : ℤ) → length (row_line_of row fields margin []) ≤ row_most
unfolding row_line_of spaced text
unblamed-le row fields margin =
    simp length-append
    (omega (
      arith,
      decimal-le row,
      decimal-le fields.identifier.0,
      decimal-le fields.box_number.0,
      signed_decimal-le margin,
    ))

pub row_line_of-le : (row : ℕ) (fields : Row) (margin : ℤ) (blamed : Bool) (blame : Blame)
    → length (row_line_of row fields margin (blame_words blamed blame)) ≤ row_most
row_line_of-le row fields margin true blame = blamed-le row fields margin blame
row_line_of-le row fields margin false blame = unblamed-le row fields margin

pub slot_line-le : (slot : Slot) → length (slot_line slot) ≤ slot_most
unfolding slot_line spaced text
slot_line-le slot =
    simp length-append
    (omega (arith, decimal-le slot.start, decimal-le slot.row, decimal-le slot.step))

pub refused_line-le : (refusal : Refusal) → length (refused_line refusal) ≤ text_places
unfolding refused_line spaced text
refused_line-le refusal = simp length-append (omega (arith, decimal-le (number_of refusal)))

pub load_line-le : (L : View) (slots : List Slot) → length (load_line L slots) ≤ first_most
unfolding load_line
load_line-le L slots = first_line_of-le L.rows (steps_in_all L) (last_end L slots) (bound L) (verdict L)

pub row_line-le : (blamed : Bool) (load : Load) (i : ℕ) → length (row_line blamed load i) ≤ row_most
unfolding row_line
row_line-le blamed load i =
    row_line_of-le (shown i) (row_at load i) (margin (view_of load) i) blamed (row_blame (view_of load) i)

-- a run of pieces, each of at most so many bytes
pub join_to-le : (f : ℕ → List ℕ) (most n : ℕ) → ((i : ℕ) → length (f i) ≤ most) → length (join_to f n) ≤ most * n
unfolding join_to
join_to-le f most zero h = omega arith
join_to-le f most (suc n) h =
    let rest = join_to-le f most n h in
    let l = h n in
    rw length-append (omega arith)

join_in-le : (f : Slot → List ℕ) (most : ℕ) (slots : List Slot) → ((slot : Slot) → length (f slot) ≤ most)
    → length (join_in f slots) ≤ most * length slots
unfolding join_in
join_in-le f most [] h = omega arith
join_in-le f most (slot ∷ slots) h =
    let rest = join_in-le f most slots h in
    let l = h slot in
    rw length-append (omega arith)

load_lines-le : (blamed : Bool) (load : Load) → check_load load ≡ Ok tt → length (load_lines blamed load) ≤ text_places
unfolding load_lines
load_lines-le blamed load accepted =
    let few = accepted-few load (check-acceptable load accepted) in
    let most = schedule-most load accepted in
    let first = load_line-le (view_of load) (schedule (view_of load)) in
    let rows = join_to-le (row_line blamed load) row_most load.rows (row_line-le blamed load) in
    let slots = join_in-le slot_line slot_most (schedule (view_of load)) slot_line-le in
    rw (length-append, length-append) (omega arith)

-- for any bytes there is room enough
pub printed_by-le : (blamed : Bool) (bs : List ℕ) → Bytes bs → length (printed_by blamed bs) ≤ text_places
printed_by-le blamed bs bytes = go (read_load bs) refl
  where
    go : (r : Result Load Refusal) → r ≡ read_load bs → length (printed_by blamed bs) ≤ text_places
    go (Ok load) e = rw (read-lines blamed bs load e) at (load_lines-le blamed load (ReadLoad-accepted bs load e bytes))
    go (Err refusal) e = rw (read-refused blamed bs refusal e) at (refused_line-le refusal)
