pub mod Booleans
pub mod Packing
pub mod GranuleLaws
pub mod WordTest
pub mod MapWordLaws
pub mod FrameWordLaws
pub mod RegisterLaws
pub mod Cases
