pub mod GameFiles
pub mod Nodes
pub mod Puttings
