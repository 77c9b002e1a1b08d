pub mod Members
pub mod Values
