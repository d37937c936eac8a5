pub mod Judgement
mod OwnSets
