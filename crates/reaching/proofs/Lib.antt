pub mod Reaching
pub mod Deciding
pub mod Growing
pub mod Rising
pub mod Positive
