pub mod ChainLaws
pub mod LeafLaws
pub mod Numbered
pub mod OrderLaws
pub mod GatheringLaws
