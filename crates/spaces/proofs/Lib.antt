pub mod Filling
pub mod Keeping
pub mod OneKind
pub mod Parts
pub mod Tabling
