-- Laws about the definitions of specs/, which the functions' proofs cite.
pub mod Bytes
pub mod Numeral
pub mod Shorter
pub mod Rows
