-- `load_records::rows::write_own` writes as much of the newest version's record as the version has.
use Prim.Native.Nat.{◌≤◌}
use mathlib.Core.Path.{sym, ap, ap₂, ◌∙◌}
use native.Mathlib.Omega.{arith}
use lib.ListN.{length, take}
use lib.Seq.{sets, length-take-le}
use Rattle.load_records.specs.Records.{newest}
use Rattle.load_records.proofs.LengthLaws.{row_kind-most, row_record-length, row_record-front}
use Rattle.load_records.proofs.rows.write_own.Goals as goal
use Rattle.load_records.proofs.rows.write_own.Goals.{After-row_size}

-- the version's part of the record is there
there : (c : After-row_size) → c.row_size.result ≤ length c.row_record-own.result
there c =
    let start = c.args in
    omega (
      arith,
      c.row_size.ensures,
      row_kind-most start.version,
      ap length c.row_record-own.ensures,
      row_record-length newest start.row,
    )

pub returns : goal.returns
returns c =
    let start = c.args in
    c.overwrite.ensures
    ∙ ap (sets start.out.now 0)
    (ap₂ take c.row_size.ensures c.row_record-own.ensures ∙ row_record-front start.version start.row)

pub slice_bounds-own-end : goal.slice_bounds-own-end
slice_bounds-own-end c = there c

pub slice_bounds-overwrite-end : goal.slice_bounds-overwrite-end
slice_bounds-overwrite-end c = sym (length-take-le _ _ (there (goal.at.slice_bounds-overwrite-end c).After-row_size))
