-- The laws that the proofs cite.
pub mod Triangles
pub mod Needles
pub mod Low
pub mod Within
