-- What a reader must believe, leaves first.
pub mod Verdict
pub mod Judged
pub mod Numbered
pub mod Claims
