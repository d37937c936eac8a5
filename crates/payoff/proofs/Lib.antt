pub mod ByPairs
pub mod GameLeaves
pub mod GameTables
pub mod PayoffTables
pub mod RowSums
