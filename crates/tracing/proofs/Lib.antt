-- The laws of the pass.
pub mod Laws
