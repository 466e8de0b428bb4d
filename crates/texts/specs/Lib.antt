pub mod Form
pub mod Cut
pub mod Exact
pub mod Rows
