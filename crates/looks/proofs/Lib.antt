-- The laws of looking and of turning.
pub mod Laws
pub mod Turns
