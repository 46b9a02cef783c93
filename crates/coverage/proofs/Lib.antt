-- The laws of marks, and examples.
pub mod Marks
pub mod Exact
pub mod Examples
