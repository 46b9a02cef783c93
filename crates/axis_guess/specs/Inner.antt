-- What contracts inside cite.
pub mod Rising
