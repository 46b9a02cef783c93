-- Laws of the definitions.
pub mod Squares
pub mod Aspect
pub mod Thin
