pub mod State
pub mod Tests
pub mod Command
