pub mod OddsByNumber
pub mod OwnSets
