pub mod Memos
pub mod Opens
pub mod Reading
pub mod Refusals
pub mod Rules
pub mod Slices
pub mod Views
pub mod Worked
