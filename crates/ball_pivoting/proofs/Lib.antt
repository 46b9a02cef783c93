pub mod Reasons
pub mod Judged
pub mod Delivered
pub mod Found
pub mod Inside
pub mod Answered
pub mod Outcome
pub mod Unsplit
