-- What contracts inside cite, leaves first.
pub mod Parts
pub mod Seedless
