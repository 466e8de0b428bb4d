pub mod Ways
pub mod Uncovered
pub mod Cycles
