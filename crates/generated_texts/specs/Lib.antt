pub mod Documents
pub mod References
pub mod StyleElements
pub mod Entries
pub mod Lines
pub mod Keyings
pub mod Laws
