pub mod Field
pub mod Lines
pub mod Values
