-- What contracts inside cite, leaves first.
pub mod Looking
pub mod Index
