pub mod Lines
pub mod Scripts
pub mod Draws
pub mod Generator
pub mod Faults
pub mod Machinery
