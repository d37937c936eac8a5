pub mod Sets
pub mod Recall
