-- The contract of each call on route sheets is its relation in SheetCalls, at the call's own parameters,
-- and asks nothing. This is a statement, a part of Joined.
use Rattle.sheet_line.specs.contracts as sheet_line
use Rattle.sheet.specs.contracts as sheet
use Rattle.demands.specs.SheetCalls.{EverySheetCall}
use Rattle.demands.specs.JoinedContract.{Says, Relation, wrote}

pub record SheetContracts (relation : EverySheetCall Relation) : Type 2 where
  -- sheet_line
  pub line_at : Says sheet_line.line_at.ended (λ M 𝓤. sheet_line.line_at.spec)
      (λ κs a r s. (relation.line_at a.0.now a.1.0).meets r)
  pub line-of : Says sheet_line.line_of.ended (λ M 𝓤. sheet_line.line_of.spec)
      (λ κs a r s. (relation.line-of a.0 a.1.0).meets r)
  -- sheet
  pub read-sheet : Says sheet.read_sheet.ended (λ M 𝓤. sheet.read_sheet.spec)
      (λ κs a r s. (relation.read-sheet a.0.now).meets r)
  pub write-sheet : Says sheet.write_sheet.ended (λ M 𝓤. sheet.write_sheet.spec)
      (λ κs a r s. (relation.write-sheet a.0 a.1.0.now).meets (wrote r s.1.0.now))
