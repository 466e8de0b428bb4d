pub mod Edges
pub mod Spreading
pub mod Backs
pub mod Marks
pub mod Covering
