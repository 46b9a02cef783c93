-- What contracts inside cite.
pub mod SixOrders
