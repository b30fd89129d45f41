pub mod Ends
pub mod Runs
pub mod Pieces
pub mod Gate
pub mod Alike
pub mod Kept
pub mod MadeLaws
