pub mod PairLaws
pub mod Found
pub mod ComparisonLaws
pub mod Locality
pub mod Cases
