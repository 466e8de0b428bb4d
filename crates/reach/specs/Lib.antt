pub mod Paths
pub mod Shape
pub mod Walk
pub mod Memory
pub mod Steps
