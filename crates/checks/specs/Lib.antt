pub mod Named
pub mod Linked
