pub mod Machinery
pub mod Shown
pub mod Walks
