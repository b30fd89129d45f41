pub mod Granule
pub mod MapWord
pub mod FrameWord
pub mod Register
