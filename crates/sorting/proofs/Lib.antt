pub mod Blocks
pub mod Listings
pub mod PairRows
pub mod Ranks
pub mod RowBounds
pub mod SortedPairs
