mod Parts
pub mod Within
