pub mod Breaks
pub mod Samples
