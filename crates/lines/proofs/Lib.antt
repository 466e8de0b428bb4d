mod Fields
pub mod Letters
