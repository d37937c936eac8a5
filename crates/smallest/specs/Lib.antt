pub mod Fractions
pub mod Multiples
