pub mod FieldLaws
pub mod AskedLaws
pub mod DecodeLaws
pub mod BadLaws
pub mod UnfinishedLaws
pub mod Cases
