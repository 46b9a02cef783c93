pub mod Counting
pub mod Insertion
pub mod Least
pub mod Percentile
pub mod Rising
