pub mod Capped
pub mod Lowest
pub mod Orders
pub mod Probabilities
pub mod SetFills
pub mod Weighing
