pub mod FirstItem
pub mod Machinery
pub mod Reading
pub mod Classes
pub mod Tokens
