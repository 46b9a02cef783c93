-- Laws about the definitions of specs/, which the functions' proofs cite.
pub mod Outputs
pub mod Alike
