pub mod Function
pub mod Rules
