pub mod Falling
pub mod Held
pub mod Ready
pub mod Sums
