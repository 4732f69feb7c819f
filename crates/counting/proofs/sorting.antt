-- Laws of sorting, by any order, by a key and by two, and of the sum of the r smallest.
pub mod SortLaws
pub mod OrderLaws
pub mod KeyLaws
pub mod KeysLaws
pub mod InsertLaws
pub mod SmallestLaws
pub mod ThresholdLaws
pub mod PairLaws
