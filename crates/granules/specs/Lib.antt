pub mod Kind
pub mod Comparison
pub mod Step
