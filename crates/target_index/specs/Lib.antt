pub mod Pairs
pub mod Views
pub mod Counts
pub mod Holders
pub mod Changes
