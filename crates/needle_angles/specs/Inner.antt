-- What contracts inside cite.
pub mod NeedleAngles
