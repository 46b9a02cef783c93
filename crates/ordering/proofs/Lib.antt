pub mod Rising
pub mod Running
pub mod Slices
