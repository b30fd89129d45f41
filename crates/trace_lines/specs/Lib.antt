pub mod Line
pub mod Filled
