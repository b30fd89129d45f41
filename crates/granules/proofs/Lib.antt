pub mod ChangeLaws
pub mod KindLaws
pub mod StepLaws
pub mod Lent
