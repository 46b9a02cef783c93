-- Laws of the definitions, and of what the code puts and reads.
pub mod Floats
pub mod Puts
pub mod Below
