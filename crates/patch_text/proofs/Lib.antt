-- Laws about the definitions of specs/, which the functions' proofs cite.
pub mod Laid
pub mod Told
pub mod Room
