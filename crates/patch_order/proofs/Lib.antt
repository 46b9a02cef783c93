-- Laws about the definitions of specs/, which the functions' proofs cite.
pub mod Each
pub mod Last
pub mod Exactly
pub mod Whole
pub mod Front
pub mod Stands
pub mod Ours
pub mod Cases
