pub mod RowPasses
