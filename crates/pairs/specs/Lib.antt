pub mod Pair
pub mod Comparison
