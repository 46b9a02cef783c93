-- What a reader must believe, leaves first.
pub mod Working
pub mod Season
pub mod Claims
