pub mod Rising
pub mod Deciding
pub mod Looking
