pub mod Placing
pub mod Steps
pub mod Copies
pub mod Leaders
pub mod Widths
pub mod Joins
