-- The laws that the proofs cite, leaves first.
pub mod FieldCases
pub mod Cuts
pub mod CutTypes
