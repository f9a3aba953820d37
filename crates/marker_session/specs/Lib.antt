pub mod Lines
pub mod Machinery
pub mod Sessions
pub mod Laws
