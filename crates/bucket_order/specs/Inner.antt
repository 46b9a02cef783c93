-- What contracts inside cite, leaves first.
pub mod Chains
pub mod Order
pub mod Leave
