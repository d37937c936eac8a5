pub mod PairDenominators
pub mod Pairs
