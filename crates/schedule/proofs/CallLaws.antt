-- Any two results that meet a call's relation are equal.
use Prim.Native.Nat.{ℕ}
use mathlib.Core.List.{List}
use mathlib.Core.Path.{◌≡◌, sym, ◌∙◌}
use Rattle.refusals.specs.Checked.{Checked}
use Rattle.load.specs.declared.Load.{Load}
use Rattle.rules.specs.declared.Slot.{Slot}
use Rattle.schedule.specs.Calls.{AtMostPlaces, CheckSchedule, CheckArray}

pub AtMostPlaces-unique : (n r s : ℕ) → AtMostPlaces n r → AtMostPlaces n s → r ≡ s
AtMostPlaces-unique n r s p q = p ∙ sym q

pub CheckSchedule-unique : (load : Load) (slots : List Slot) (r s : Checked) → CheckSchedule load slots r
    → CheckSchedule load slots s → r ≡ s
CheckSchedule-unique load slots r s p q = p ∙ sym q

pub CheckArray-unique : (load : Load) (slots : List Slot) (n : ℕ) (r s : Checked) → CheckArray load slots n r
    → CheckArray load slots n s → r ≡ s
CheckArray-unique load slots n r s p q = p ∙ sym q
