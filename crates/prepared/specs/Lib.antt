pub mod Prepares
pub mod Refusals
pub mod Sums
