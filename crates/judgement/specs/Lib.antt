pub mod Judgement
pub mod Strategy
