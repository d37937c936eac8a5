pub mod Formats
pub mod OddsRead
pub mod OwnSets
