mod Digits
mod Bodies
mod Spent
pub mod Whole
