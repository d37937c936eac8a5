pub mod Strategies
pub mod Wholes
pub mod Agreement
pub mod Longest
pub mod Calls
pub mod Printed
