pub mod WordLaws
pub mod LentLaws
pub mod Cases
