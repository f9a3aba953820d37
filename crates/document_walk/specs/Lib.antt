pub mod Elements
pub mod Walking
pub mod Catching
pub mod TreeChanges
pub mod CatchingUp
pub mod Machinery
