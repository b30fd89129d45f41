pub mod Replay
pub mod Ensured
pub mod Cases
