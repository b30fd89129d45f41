pub mod AbortLaws
