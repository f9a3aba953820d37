pub mod Fault
pub mod Machinery
pub mod Readings
