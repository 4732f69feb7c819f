-- Any two results that meet a call's contract are equal.
use Prim.Native.Nat.{ℕ}
use mathlib.Core.List.{List}
use mathlib.Core.Path.{◌≡◌, sym, ◌∙◌}
use Rattle.std.specs.Prelude.{Option}
use Rattle.load.specs.declared.Row.{Row}
use Rattle.sheet_line.specs.declared.LineRead.{LineRead}
use Rattle.sheet_line.specs.declared.LineText.{LineText}
use Rattle.sheet_line.specs.Calls.{LineAt, LineOf}

pub LineAt-unique : (bs : List ℕ) (at : ℕ) (r s : Option LineRead) → LineAt bs at r → LineAt bs at s → r ≡ s
LineAt-unique bs at r s p q = p ∙ sym q

pub LineOf-unique : (row : Row) (j : ℕ) (r s : LineText) → LineOf row j r → LineOf row j s → r ≡ s
LineOf-unique row j r s p q = p ∙ sym q
