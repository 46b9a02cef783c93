-- What contracts inside cite.
pub mod Numbers
pub mod Axes
