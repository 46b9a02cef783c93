-- What contracts inside cite, leaves first.
pub mod Cover
pub mod Within
