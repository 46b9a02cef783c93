-- What a reader must believe, leaves first.
pub mod Lists
pub mod Members
pub mod Inner
