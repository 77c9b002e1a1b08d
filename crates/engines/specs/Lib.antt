pub mod Covers
pub mod Faults
pub mod Members
pub mod RowCounts
pub mod Stacks
pub mod Values
