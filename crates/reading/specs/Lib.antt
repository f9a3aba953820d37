pub mod Characters
pub mod Punctuation
pub mod Reading
