pub mod BestMoves
pub mod Responses
pub mod Worths
