pub mod ReplayLaws
pub mod ContinueLaws
pub mod TurnLaws
pub mod PieceLaws
pub mod TailLaws
pub mod Whole
