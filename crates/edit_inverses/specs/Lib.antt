pub mod Places
pub mod Inverses
pub mod Versions
pub mod Laws
