-- Laws about the definitions of specs/, which the functions' proofs cite.
pub mod Puts
pub mod Decimal
pub mod Lengths
pub mod Faces
pub mod Whole
pub mod Examples
