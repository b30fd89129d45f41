pub mod Length
pub mod Row
