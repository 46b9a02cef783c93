-- Laws about the definitions of specs/, which the functions' proofs cite.
pub mod Closest
pub mod Nearest
pub mod Exact
pub mod Decimal
