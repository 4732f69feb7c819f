-- Laws that join the parts of the code to the definitions, and sameness of results.
pub mod FlagLaws
pub mod MarkLaws
pub mod AcceptedLaws
pub mod LargestLaws
pub mod PlaceLaws
pub mod PlacesRead
pub mod KeptLaws
pub mod SignLaws
pub mod MarginsRead
pub mod CallLaws
pub mod GoodLaws
