-- What is printed for a file, by what it is refused for: the lines of its load, or the one line of its refusal.
use Prim.Native.Nat.{ℕ, ◌-◌}
use mathlib.Core.Bool.{Bool}
use mathlib.Core.List.{List}
use mathlib.Core.Path.{◌≡◌, ap, sym, ◌∙◌}
use lib.ListN.{length, take, replicate}
use lib.Seq.{take-append_seam}
use Rattle.refusals.specs.declared.Refusal.{Refusal}
use Rattle.std.specs.Prelude.{Ok, Err}
use Rattle.load.specs.declared.Load.{Load}
use Rattle.load_file.specs.Places.{load_in}
use Rattle.load_file.specs.Reading.{file_fault}
use Rattle.load_file.specs.Calls.{ReadLoad}
use Rattle.load_file.proofs.CallLaws.{ReadLoad-good, ReadLoad-load, ReadLoad-refused}
use Rattle.lines.specs.declared.Text.{Text}
use Rattle.lines.specs.Lines.{load_lines, refused_line, printed_by}
use Rattle.lines.specs.Calls.{text_places, text_holding}

module _ (blamed : Bool) (bs : List ℕ) where
  printed_by-good : file_fault bs ≡ Ok tt → printed_by blamed bs ≡ load_lines blamed (load_in bs)
  unfolding printed_by
  printed_by-good e = rw (e, printed_by)

  pub printed_by-refused : (refusal : Refusal) → file_fault bs ≡ Err refusal
      → printed_by blamed bs ≡ refused_line refusal
  unfolding printed_by
  printed_by-refused refusal e = rw (e, printed_by)

  -- the same, by what its reading gives
  pub read-lines : (load : Load) → ReadLoad bs (Ok load) → load_lines blamed load ≡ printed_by blamed bs
  read-lines load e =
      ap (load_lines blamed) (ReadLoad-load bs load e) ∙ sym (printed_by-good (ReadLoad-good bs load e))

  pub read-refused : (refusal : Refusal) → ReadLoad bs (Err refusal) → refused_line refusal ≡ printed_by blamed bs
  read-refused refusal e = sym (printed_by-refused refusal (ReadLoad-refused bs refusal e))

-- the bytes that a text counts are those that it holds
pub text-taken : (bs : List ℕ) (t : Text) → t ≡ text_holding bs → take t.length t.bytes ≡ bs
text-taken bs t e =
    ap (λ (a : Text). take a.length a.bytes) e ∙ take-append_seam bs (replicate (text_places - length bs) 0)
