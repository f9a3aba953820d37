pub mod Causes
pub mod Devices
pub mod Fetches
pub mod Files
pub mod Grown
pub mod Puts
