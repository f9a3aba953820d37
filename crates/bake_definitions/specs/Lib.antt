pub mod Insertions
pub mod Baked
pub mod Places
pub mod Tags
pub mod Pieces
pub mod Woven
pub mod Grown
