pub mod ChainLaws
pub mod Fills
pub mod Firsts
pub mod Products
