pub mod Documents
pub mod Exchanges
pub mod Indexes
pub mod Laws
pub mod Retold
pub mod Told
pub mod Touched
pub mod Machinery
