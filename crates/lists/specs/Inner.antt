-- What contracts inside cite, leaves first.
pub mod Found
