-- Laws about the definitions of specs/, which the functions' proofs cite.
pub mod Bare
pub mod Means
pub mod Shorter
pub mod Placing
