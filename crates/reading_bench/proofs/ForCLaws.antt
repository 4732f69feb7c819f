-- What a call for C reads of a file: what the file is refused for, or the answer for the load that it spells. A load
-- that was read passes its check, so that a call for it refuses nothing. And the same of the number that a call gives.
use Rattle.std.proofs.Common.{ℕ, List, ◌≡◌, ◌∙◌, ap, sym, subst}
use Rattle.std.specs.Prelude.{Result, Ok, Err}
use Rattle.words.specs.LittleEndian.{Bytes}
use Rattle.refusals.specs.declared.Refusal.{Refusal}
use Rattle.refusals.specs.Given.{given}
use Rattle.refusals.specs.Refusals.{number_of}
use Rattle.refusals.proofs.GivenLaws.{refused-given}
use Rattle.load.specs.declared.Load.{Load}
use Rattle.load.specs.View.{View, view_of}
use Rattle.load.specs.Check.{check_load, for_bench}
use Rattle.load_file.specs.Places.{load_in}
use Rattle.load_file.specs.Reading.{file_for_bench}
use Rattle.load_file.specs.Calls.{ReadLoad}
use Rattle.load_file.proofs.CallLaws.{ReadLoad-accepted, ReadLoad-good, ReadLoad-load, ReadLoad-refused}
use Rattle.reading_bench.specs.Calls.{Numbered, ForC}

-- a file that is refused
pub unread-given : {A : Type 0} (bs : List ℕ) (refusal : Refusal) (answer : View → A) → ReadLoad bs (Err refusal)
    → Err refusal ≡ given (file_for_bench bs) (answer (view_of (load_in bs)))
unread-given bs refusal answer read = rw (ReadLoad-refused bs refusal read)

module _ {A : Type 0} (bs : List ℕ) (load : Load) (bytes : Bytes bs) (read : ReadLoad bs (Ok load))
    (answer : View → A) where
  -- what is given of a file that was read, by what a call for its load gives
  pub read-given : (r : Result A Refusal) → r ≡ given (for_bench load) (answer (view_of load))
      → r ≡ given (file_for_bench bs) (answer (view_of (load_in bs)))
  read-given r e =
      let passes : for_bench load ≡ Ok tt = ReadLoad-accepted bs load read bytes in
      e
      ∙ ap (λ c. given c (answer (view_of load))) (passes ∙ sym (ReadLoad-good bs load read))
      ∙ ap (λ l. given (file_for_bench bs) (answer (view_of l))) (ReadLoad-load bs load read)

-- a refused file is told by its number, and the output stays
pub refused-for-c : (bs : List ℕ) (refusal : Refusal) → ReadLoad bs (Err refusal)
    → (answer : View → List ℕ) (out : List ℕ) (r : ℕ) → r ≡ number_of refusal → ForC answer bs out r out
refused-for-c bs refusal read answer out r n =
    record {
      found = Err refusal;
      given =
          refused-given (file_for_bench bs) (answer (view_of (load_in bs))) out refusal
          (ReadLoad-refused bs refusal read);
      number_is = n;
    }

-- what a call gives of the answer for the load that it read
pub read-for-c : (bs : List ℕ) (load : Load) → Bytes bs → ReadLoad bs (Ok load)
    → (answer : View → List ℕ) (bytes out : List ℕ) (r : ℕ) (after : List ℕ)
    → (check_load load ≡ Ok tt → bytes ≡ answer (view_of load)) → Numbered (Ok tt) bytes out r after
    → ForC answer bs out r after
read-for-c bs load inside read answer bytes out r after right n =
    subst (λ finding. Numbered finding (answer (view_of (load_in bs))) out r after) (sym (ReadLoad-good bs load read))
    (subst (λ a. Numbered (Ok tt) a out r after)
    (right (ReadLoad-accepted bs load read inside) ∙ ap (λ l. answer (view_of l)) (ReadLoad-load bs load read)) n)
