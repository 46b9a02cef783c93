pub mod Within
pub mod Examples
pub mod Scores
pub mod Completed
pub mod Growth
