pub mod HypercallLaws
