-- What the parts of the code ask for and give: the slots of an accepted load, and bytes put into a
-- text. The promises do not cite this page.
use Rattle.std.specs.Prelude.{ℕ, true, List, [], ◌∷◌, ◌++◌, ◌≡◌, ℤ, Ok}
use Rattle.std.specs.Prelude.{Option, Some, None, min, get_or, length, replicate}
use Rattle.std.specs.Borrow.{Bor}
use Rattle.std.proofs.lemmas.List.Edits.{sets}
use Rattle.counting.specs.Lists.{join_in}
use Rattle.load.specs.declared.Load.{Load}
use Rattle.load.specs.Load.{shown, row_at}
use Rattle.load.specs.View.{view_of}
use Rattle.load.specs.Check.{for_bench}
use Rattle.rules.specs.declared.Blame.{Blame}
use Rattle.rules.specs.declared.Slot.{Slot}
use Rattle.rules.specs.Margins.{margin_in}
use Rattle.rules.specs.Blame.{nobody}
use Rattle.rules.specs.Run.{schedule}
use Rattle.lines.specs.declared.Text.{Text}
use Rattle.lines.specs.Lines.{blame_words, row_line_of}
use Rattle.lines.specs.Calls.{text_places}

-- words with a space before each
abbrev pub spaced_all : List (List ℕ) → List ℕ
spaced_all words = join_in (λ word. 32 ∷ word) words

-- the words of a blame, and none where there is none
abbrev pub words_of : Option Blame → List (List ℕ)
words_of None = []
words_of (Some blame) = blame_words true blame

-- of blames in places, where there are any, the one at a place
abbrev pub given_at : Option (Bor (List Blame)) → ℕ → Option Blame
given_at None i = None
given_at (Some blames) i = Some (get_or blames.now i nobody)

-- the line of a load's row at a place, of margins and blames in places
abbrev pub row_line_by : Load → List ℤ → Option (Bor (List Blame)) → ℕ → List ℕ
row_line_by load margins blames i =
    row_line_of (shown i) (row_at load i) (margin_in margins i) (words_of (given_at blames i))

-- slots are the schedule of an accepted load
pub record Scheduled (load : Load) (slots : List Slot) : Type 0 where
  pub accepted : for_bench load ≡ Ok tt
  pub slots-are : slots ≡ schedule (view_of load)

-- a text that has these bytes, as far as it has places for them, and 0 in the places past them
abbrev pub text_with : List ℕ → Text
text_with bs =
    record { length = min (length bs) text_places; bytes = sets (replicate text_places 0) 0 bs }

-- the text has these bytes behind those that it had
pub record Puts (old : Text) (bytes : List ℕ) (new : Text) : Type 0 where
  pub behind : (had : List ℕ) → old ≡ text_with had → new ≡ text_with (had ++ bytes)
