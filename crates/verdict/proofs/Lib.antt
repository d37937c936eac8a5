pub mod Showing
pub mod Strategies
pub mod ValuesAnswered
pub mod VerdictAnswered
