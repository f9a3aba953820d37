pub mod Cutting
pub mod Gathering
pub mod Keeping
pub mod Taking
pub mod Waiting
