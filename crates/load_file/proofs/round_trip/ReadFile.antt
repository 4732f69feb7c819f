-- Reading then writing: an accepted file's load is held as its types say, passes the check, since the reading made
-- the same tests and unused places are zero, and is written as the file, record by record.
use Prim.Native.Nat.{ℕ, suc, ◌+◌, ◌≤◌, ◌<◌}
use mathlib.Core.Bool.{Bool, true, false, cond}
use mathlib.Core.List.{List}
use mathlib.Core.Path.{◌≡◌, refl, ap, ◌∙◌}
use native.Mathlib.Decide.{dec_lt}
use native.Mathlib.Omega.{arith}
use lib.ListN.{length}
use Rattle.counting.proofs.tests.TestLaws.{true-all_from}
use Rattle.counting.proofs.lists.ListLaws.{filled-length, get_or-filled, get_or-unfilled}
use Rattle.counting.proofs.lists.PieceLaws.{Stands}
use Rattle.words.specs.LittleEndian.{Bytes}
use Rattle.std.specs.Prelude.{Ok}
use Rattle.load.specs.Load.{most_rows, no_row, zero_row, row_at}
use Rattle.load.specs.Check.{is_zero_row, check_load}
use Rattle.load.specs.Plain.{check_plain}
use Rattle.load.proofs.CheckLaws.{LoadGood, good-check_load}
use Rattle.load.proofs.PlainLaws.{good-check_plain}
use Rattle.load_records.specs.Records.{carries}
use Rattle.load_records.specs.Writing.{row_bytes, load_bytes, write_fault}
use Rattle.load_file.specs.Places.{version_said, row_from, row_place, rows_said, load_in}
use Rattle.load_file.specs.RoundTrip.{Held}
use Rattle.load_file.proofs.layout.FieldLaws.{end-stands, header-stands}
use Rattle.load_file.proofs.layout.PlaceLaws.{row-behind, parts-file}
use Rattle.load_file.proofs.faults.ZeroLaws.{zero_row-zero, zero_row-held}
use Rattle.load_file.proofs.faults.FaultLaws.{end_place, FileAccepted}
use Rattle.load_file.proofs.round_trip.ReadRow.{
  read-fields,
  class-none,
  head-none,
  read-row-stands,
  read-row-good,
  read-row-held,
}

-- what stands in the load that is read
module _ (bs : List ℕ) where
  row-used : (i : ℕ) → i < rows_said bs → row_at (load_in bs) i ≡ row_from bs (row_place bs i)
  unfolding load_in
  row-used i l = get_or-filled (λ i. row_from bs (row_place bs i)) (rows_said bs) most_rows i zero_row no_row l

  row-unused : (i : ℕ) → rows_said bs ≤ i → i < most_rows → row_at (load_in bs) i ≡ zero_row
  unfolding load_in
  row-unused i from l =
      get_or-unfilled (λ i. row_from bs (row_place bs i)) (rows_said bs) most_rows i zero_row no_row from l

-- an accepted file
module _ (bs : List ℕ) (b : Bytes bs) (f : FileAccepted bs) where
  pub read_held : Held (load_in bs)
  unfolding load_in
  read_held =
      record {
        rows_fit = b 3;
        row-places =
            filled-length (λ i. row_from bs (row_place bs i)) (rows_said bs) most_rows zero_row f.few-rows;
        each_row =
            λ i l.
            elim (dec_lt i (rows_said bs)) [
              | yes l ↦ rw (row-used bs i l) (read-row-held bs b i (row_place bs i) (f.each_row i l))
              | no g ↦ rw (row-unused bs i (omega arith) l) zero_row-held
            ];
      }

  pub read-good : LoadGood (load_in bs)
  unfolding load_in
  read-good =
      record {
        few-rows = f.few-rows;
        each-row-good =
            λ i l. rw (row-used bs i l) (read-row-good bs b i (row_place bs i) (f.each_row i l));
        rows-zero =
            true-all_from (λ i. is_zero_row (row_at (load_in bs) i)) (rows_said bs) most_rows
            (λ i from l. ap is_zero_row (row-unused bs i from l) ∙ zero_row-zero);
      }

  -- the load is not refused where it is written in the file's version
  pub read-writes : write_fault (version_said bs) (load_in bs) ≡ Ok tt
  unfolding load_in
  read-writes = go (carries (version_said bs)) refl
    where
      check : check_load (load_in bs) ≡ Ok tt
      check = good-check_load (load_in bs) read-good

      go : (b : Bool) → carries (version_said bs) ≡ b
          → cond b (check_load (load_in bs)) (check_plain (load_in bs)) ≡ Ok tt
      go true e = check
      go false e =
          good-check_plain (load_in bs)
          (record {
            load-good = check;
            class-zero = λ i l. ap (λ row. row.class) (row-used bs i l) ∙ class-none bs (row_place bs i) e;
            head-one = λ i l. ap (λ row. row.head) (row-used bs i l) ∙ head-none bs (row_place bs i) e;
          })

  row-stands-there : (i : ℕ) → i < rows_said bs
      → Stands (row_bytes (version_said bs) (row_at (load_in bs) i)) bs (row_place bs i)
  row-stands-there i l = rw (row-used bs i l) (read-row-stands bs b i (row_place bs i) (f.each_row i l))

  row-behind-there : (i : ℕ) → i < rows_said bs
      → row_place bs (suc i) ≡ row_place bs i + length (row_bytes (version_said bs) (row_at (load_in bs) i))
  unfolding row_place
  row-behind-there i l =
      let fields = read-fields bs (row_place bs i) in
      rw (row-used bs i l)
      (row-behind bs (row_place bs i) (row_from bs (row_place bs i)) fields.steps-read fields.windows-read)

  -- the load is written as the file
  pub read-file : bs ≡ load_bytes (version_said bs) (load_in bs)
  unfolding load_in
  read-file =
      parts-file bs (load_in bs) row-behind-there
      (record {
        header = header-stands bs f.header-due;
        each_row = row-stands-there;
        end = rw (← f.count-is) (end-stands bs (end_place bs) b f.end-due);
        no_more = omega (arith, f.no_more, f.end-due.inside);
      })
