mod Chained
mod Counting
mod Scans
pub mod Within
