-- What the theorems speak of.
pub mod Amending
