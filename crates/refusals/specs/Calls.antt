-- What each public call's contract says: one relation a call, over what it takes and what it gives.
use Rattle.std.specs.Prelude.{ℕ, ◌≡◌}
use Rattle.refusals.specs.declared.Refusal.{Refusal}
use Rattle.refusals.specs.Checked.{Checked}
use Rattle.refusals.specs.Refusals.{number_of, number_given}

-- number_of(refusal): the table's number
abbrev pub NumberOf : Refusal → ℕ → Type 0
NumberOf refusal r = r ≡ number_of refusal

-- number_given(found): the number of what a check finds
abbrev pub NumberGiven : Checked → ℕ → Type 0
NumberGiven found r = r ≡ number_given found
