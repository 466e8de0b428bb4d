pub mod Kept
pub mod Graphs
