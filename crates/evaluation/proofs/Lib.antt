pub mod EvaluatedPairs
