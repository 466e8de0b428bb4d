pub mod Counts
pub mod Digits
pub mod Gives
pub mod Laws
pub mod Words
