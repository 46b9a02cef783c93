-- No reader has to believe any of it.
pub mod Inner
