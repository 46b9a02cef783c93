-- What contracts inside cite, leaves first.
pub mod Found
pub mod Best
