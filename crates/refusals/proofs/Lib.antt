-- Laws of the table, of the first fault, of what is found and of what a writing call gives, sameness of results, and
-- worked cases.
pub mod TableLaws
pub mod FirstMetLaws
pub mod FirstFaultLaws
pub mod FoundLaws
pub mod PassedOn
pub mod GivenLaws
pub mod GivenParts
pub mod CallLaws
pub mod WorkedHold
