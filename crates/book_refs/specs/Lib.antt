pub mod Volumes
pub mod Given
pub mod Edited
pub mod ShowWork
pub mod Laws
pub mod Machinery
