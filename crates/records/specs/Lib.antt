pub mod Monitor
pub mod Change
