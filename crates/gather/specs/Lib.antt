pub mod Numbered
pub mod Gathered
pub mod Gathering
