pub mod Pairs
pub mod Sorted
