-- What contracts inside cite, leaves first.
pub mod Places
pub mod Rising
