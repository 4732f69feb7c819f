-- "It reads a load file from standard input." A program makes of the bytes that it has read what is
-- printed for the whole input, however long that is. To be read after Calls. Rests on D24 and D46.
use Rattle.std.specs.Prelude.{ℕ, List, ◌≡◌, length, take}
use Rattle.lines.specs.declared.Text.{Text}

-- so many bytes, at the front of the places that they were read into, are an input's first: as
-- many as there are places, or all that it has
abbrev pub FirstOf : List ℕ → List ℕ → ℕ → Type 0
FirstOf input places size = take size places ≡ take (length places) input

-- a text that meets a relation with every input whose first bytes were read
abbrev pub OfEveryInput : (List ℕ → Text → Type 0) → List ℕ → ℕ → Text → Type 0
OfEveryInput meets places size r =
    (input : List ℕ) → FirstOf input places size → meets input r
