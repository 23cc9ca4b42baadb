pub mod FirstRound
pub mod KeyExpansion
pub mod RowWords
pub mod Sums
