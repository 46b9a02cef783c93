-- What contracts inside cite.
pub mod LongEdges
