pub mod Areas
pub mod Says
pub mod Frames
pub mod Parts
