pub mod Breaks
pub mod Lines
pub mod Machinery
pub mod Views
