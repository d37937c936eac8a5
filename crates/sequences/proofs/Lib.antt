mod Few
mod FirstNodes
mod FirstSequences
mod Leading
mod Nodes
mod Own
mod Recalls
pub mod Stored
