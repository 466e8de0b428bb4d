pub mod Numbering
pub mod Copies
pub mod Atoms
