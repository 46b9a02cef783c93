-- Laws of the definitions.
pub mod Shapes
