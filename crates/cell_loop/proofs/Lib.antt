pub mod Buckets
pub mod Neighbors
