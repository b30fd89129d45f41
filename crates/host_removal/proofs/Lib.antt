pub mod RemovalLaws
