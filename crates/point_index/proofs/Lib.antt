pub mod Building
pub mod Outcome
