pub mod Asks
pub mod Edges
