pub mod AnswerLaws
pub mod Chains
pub mod Files
pub mod NoBuffer
pub mod OneBuffer
pub mod Passes
pub mod Rooms
pub mod Runs
