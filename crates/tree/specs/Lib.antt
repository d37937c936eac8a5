pub mod Games
pub mod Tests
pub mod Children
