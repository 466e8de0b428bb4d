pub mod Covering
pub mod Edges
