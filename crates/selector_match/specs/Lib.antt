pub mod Elements
pub mod Attributes
pub mod Positions
pub mod Matching
pub mod Machinery
