pub mod Dressing
pub mod Walks
pub mod Machinery
pub mod Laws
