pub mod TestLaws
pub mod CommandLaws
pub mod InPlace
