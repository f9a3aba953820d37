pub mod Predefined
pub mod Rules
pub mod Counts
pub mod Extends
pub mod Named
