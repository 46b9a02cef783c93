pub mod Words
pub mod Boxing
