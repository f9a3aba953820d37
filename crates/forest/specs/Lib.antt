pub mod Forest
pub mod Keys
pub mod Places
pub mod Spots
pub mod Paths
pub mod Order
pub mod Changes
