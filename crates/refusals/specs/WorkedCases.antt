-- "Numbers given back", worked: the table number by number, tests in their order, and small outputs
-- whose bytes are told before and after. The answers are the document's, taken by hand. To be read
-- after Table and Given. Rests on D26.
use Rattle.std.specs.Prelude.{ℕ, true, false, [], ◌∷◌, map, ◌≡◌, eqb, Ok, Err}
use Rattle.refusals.specs.declared.Refusal.TheVariants.{MarkDiffers, OutOfRange, BoxTaken}
use Rattle.refusals.specs.declared.Refusal.TheVariants.{OutputShort, ClockFull}
use Rattle.refusals.specs.Refusals.{number_of, number_given}
use Rattle.refusals.specs.Table.{table}
use Rattle.refusals.specs.FirstMet.{first_met, first_fault, first_fault_to}
use Rattle.refusals.specs.Given.{Given, WritesOut}

-- the worked cases
pub record WorkedCases : Type 0 where
  -- the table's numbers, in the table's order
  pub numbers :
      map number_of table
      ≡ 1 ∷ 2 ∷ 3 ∷ 4 ∷ 5 ∷ 6 ∷ 7 ∷ 8 ∷ 9 ∷ 10 ∷ 11 ∷ 12 ∷ 13 ∷ 14 ∷ 15 ∷ 16 ∷ 17 ∷ 18 ∷ 19 ∷ 20
      ∷ 21 ∷ 22
      ∷ []
  -- nothing refused is 0
  pub nothing-refused : number_given (Ok tt) ≡ 0
  -- of two tests that are met the first decides, and one that is not met decides nothing
  pub first-decides :
      first_met ((false, MarkDiffers) ∷ (true, OutOfRange) ∷ (true, BoxTaken) ∷ [])
      ≡ Err OutOfRange
  -- of two findings the first decides
  pub finding-decides :
      first_fault (Ok tt ∷ Err BoxTaken ∷ Err OutOfRange ∷ []) ≡ Err BoxTaken
  -- of two records the one in front decides
  pub front-decides :
      first_fault_to (λ i. first_met ((eqb i 1, BoxTaken) ∷ (eqb i 2, OutOfRange) ∷ [])) 3
      ≡ Err BoxTaken
  -- a room of exactly the answer's length is enough
  pub exact-room : Given {A = ℕ} (Ok tt) (1 ∷ 2 ∷ []) (7 ∷ 8 ∷ []) (Ok tt) (1 ∷ 2 ∷ [])
  -- an answer of no bytes needs no room
  pub no-room-needed : Given {A = ℕ} (Ok tt) [] [] (Ok tt) []
  -- one byte less is 9, and what is lent stays
  pub one-byte-less :
      Given {A = ℕ} (Ok tt) (1 ∷ 2 ∷ 3 ∷ []) (7 ∷ 8 ∷ []) (Err OutputShort) (7 ∷ 8 ∷ [])
  -- bytes past the answer stay as they were
  pub bytes_past :
      Given {A = ℕ} (Ok tt) (1 ∷ 2 ∷ []) (7 ∷ 8 ∷ 9 ∷ 6 ∷ []) (Ok tt) (1 ∷ 2 ∷ 9 ∷ 6 ∷ [])
  -- a refused call leaves the output, though the answer would fit
  pub refused-leaves :
      Given {A = ℕ} (Err OutOfRange) (1 ∷ []) (7 ∷ 8 ∷ []) (Err OutOfRange) (7 ∷ 8 ∷ [])
  -- 9 comes last: a finding and a short room at once give the finding
  pub nine-last :
      Given {A = ℕ} (Err ClockFull) (1 ∷ 2 ∷ []) (7 ∷ []) (Err ClockFull) (7 ∷ [])
  -- the length told is the answer's, and not the output's
  pub length-told :
      WritesOut {A = ℕ} (Ok tt) (1 ∷ 2 ∷ []) (7 ∷ 8 ∷ 9 ∷ []) (Ok 2) (1 ∷ 2 ∷ 9 ∷ [])
  -- where the room is too short no length is told
  pub short-length :
      WritesOut {A = ℕ} (Ok tt) (1 ∷ 2 ∷ []) (7 ∷ []) (Err OutputShort) (7 ∷ [])
  -- and where the call is refused, though the answer would fit
  pub refused-length :
      WritesOut {A = ℕ} (Err BoxTaken) (1 ∷ []) (7 ∷ []) (Err BoxTaken) (7 ∷ [])
