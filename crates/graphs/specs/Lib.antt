pub mod Tests
pub mod Spreads
pub mod Cover
