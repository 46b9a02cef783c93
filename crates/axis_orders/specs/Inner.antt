-- What contracts inside cite, leaves first.
pub mod Parted
pub mod Orders
