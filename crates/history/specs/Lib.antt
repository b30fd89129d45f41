pub mod Log
pub mod History
pub mod Sound
pub mod Reachable
pub mod Cases
