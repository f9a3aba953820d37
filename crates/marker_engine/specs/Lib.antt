pub mod Census
pub mod Edited
pub mod Engines
