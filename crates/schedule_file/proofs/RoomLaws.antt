-- What is found of the number of slots and of the room is what a writing call has to find, where its answer has the
-- length of their file: a refusal leaves the output, and an answer that is not refused fits.
use Prim.Native.Nat.{ℕ, ◌≤◌}
use mathlib.Core.List.{List, [], ◌∷◌}
use mathlib.Core.Path.{◌≡◌, refl, sym, ◌∙◌}
use native.Mathlib.Decide.{dec_lt}
use native.Mathlib.Omega.{arith}
use lib.Dec.{ltb}
use lib.ListN.{length}
use lib.Seq.{sets}
use borrow.Author.Tests.{lt-ltb, ltb-false}
use Rattle.words.proofs.OverwriteLaws.{sets-front}
use Rattle.refusals.specs.declared.Refusal.{Refusal}
use Rattle.refusals.specs.declared.Refusal.TheVariants.{OutOfRange, OutputShort}
use Rattle.refusals.specs.Checked.{Checked}
use Rattle.std.specs.Prelude.{Ok, Err}
use Rattle.refusals.specs.FirstMet.{first_met, first_fault}
use Rattle.refusals.specs.Given.{room_for, Given}
use Rattle.refusals.proofs.FirstMetLaws.{and_then-good-first, and_then-good-second, first_met-good-first}
use Rattle.rules.specs.Slots.{most_slots}
use Rattle.schedule_file.specs.ScheduleFile.{slot_place, count_fault, room_fault}

module _ (n room : ℕ) (good : room_fault n room ≡ Ok tt) where
  -- what is found of the room
  abbrev room_found : Checked
  room_found = first_fault (first_met ((ltb room (slot_place n), OutputShort) ∷ []) ∷ [])

  pub room-few : n ≤ most_slots
  room-few =
      ltb-false most_slots n
      (first_met-good-first (ltb most_slots n, OutOfRange) [] (and_then-good-first (count_fault n) room_found good))

  pub room_fits : slot_place n ≤ room
  room_fits =
      ltb-false room (slot_place n)
      (first_met-good-first (ltb room (slot_place n), OutputShort) []
      (and_then-good-first _ (Ok tt) (and_then-good-second (count_fault n) room_found good)))

module _ (n : ℕ) (answer out : List ℕ) (long : n ≤ most_slots → length answer ≡ slot_place n) where
  room-found : room_fault n (length out) ≡ first_fault (count_fault n ∷ room_for answer out ∷ [])
  room-found =
      elim (dec_lt most_slots n) [
        | yes l ↦ rw (lt-ltb most_slots n l)
        | no l ↦ rw (long (omega arith))
      ]

  pub room-refused : (refusal : Refusal) → room_fault n (length out) ≡ Err refusal
      → Given (count_fault n) answer out (Err refusal) out
  room-refused refusal e = record { finding-is = sym e ∙ room-found; output-is = refl }

  pub room-written : (after : List ℕ) → room_fault n (length out) ≡ Ok tt → after ≡ sets out 0 answer
      → Given (count_fault n) answer out (Ok tt) after
  room-written after e w =
      let size : length answer ≡ slot_place n = long (room-few n (length out) e) in
      record {
        finding-is = sym e ∙ room-found;
        output-is = w ∙ sets-front out answer (omega (arith, size, room_fits n (length out) e));
      }
