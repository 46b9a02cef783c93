-- What contracts inside cite, leaves first.
pub mod LowBy
pub mod RefusedWithin
