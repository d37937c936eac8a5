pub mod Bounded
pub mod Arrays
pub mod Divisors
pub mod Sections
