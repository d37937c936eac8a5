pub mod Giving
pub mod Whole
