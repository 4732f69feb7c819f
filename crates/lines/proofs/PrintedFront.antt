-- What is printed for a file is what is printed for its first bytes, one more than the longest file has, as it is read
-- alike. So a program need not read further.
use Prim.Native.Nat.{ℕ, ◌+◌, ◌≤◌}
use mathlib.Core.Bool.{Bool}
use mathlib.Core.List.{List}
use mathlib.Core.Path.{◌≡◌, refl, ap, sym, ◌∙◌}
use native.Mathlib.Omega.{arith}
use lib.ListN.{length, take}
use lib.Seq.{length-take-le, take_all}
use Rattle.std.specs.Prelude.{Result, Ok, Err}
use Rattle.refusals.specs.declared.Refusal.{Refusal}
use Rattle.load.specs.declared.Load.{Load}
use Rattle.load_records.specs.Records.{most_file_bytes}
use Rattle.load_file.specs.Reading.{read_load}
use Rattle.load_file.proofs.front.FileFront.{read_load-front}
use Rattle.lines.specs.declared.Text.{Text}
use Rattle.lines.specs.Lines.{printed_by}
use Rattle.lines.specs.Calls.{text_holding}
use Rattle.lines.specs.Inputs.{FirstOf, OfEveryInput}
use Rattle.lines.proofs.PrintedLaws.{read-lines, read-refused}

printed_by-same : (blamed : Bool) (bs cs : List ℕ) → read_load bs ≡ read_load cs
    → printed_by blamed bs ≡ printed_by blamed cs
printed_by-same blamed bs cs same = go (read_load bs) refl
  where
    go : (r : Result Load Refusal) → r ≡ read_load bs → printed_by blamed bs ≡ printed_by blamed cs
    go (Ok load) e = sym (read-lines blamed bs load e) ∙ read-lines blamed cs load (e ∙ same)
    go (Err refusal) e = sym (read-refused blamed bs refusal e) ∙ read-refused blamed cs refusal (e ∙ same)

-- one byte more than the longest file has is enough
pub printed_by-front : (blamed : Bool) (bs : List ℕ)
    → printed_by blamed bs ≡ printed_by blamed (take (most_file_bytes + 1) bs)
printed_by-front blamed bs = printed_by-same blamed bs (take (most_file_bytes + 1) bs) (read_load-front bs)

-- so the text of the bytes that were read is that of every input of which they are the first
pub text-front : (blamed : Bool) (places : List ℕ) (size : ℕ) (r : Text) → length places ≡ most_file_bytes + 1
    → r ≡ text_holding (printed_by blamed (take size places))
    → OfEveryInput (λ input text. text ≡ text_holding (printed_by blamed input)) places size r
text-front blamed places size r enough made input first =
    made
    ∙ ap text_holding
    (ap (printed_by blamed) (first ∙ ap (λ n. take n input) enough) ∙ sym (printed_by-front blamed input))

-- what was read may be the whole input
pub first-whole : (places : List ℕ) (size : ℕ) → size ≤ length places → FirstOf (take size places) places size
first-whole places size h =
    sym (take_all (length places) (take size places) (omega (arith, length-take-le size places h)))
