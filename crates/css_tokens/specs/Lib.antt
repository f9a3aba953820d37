pub mod Numbers
pub mod Spans
pub mod Strings
pub mod TokenReading
pub mod Tokens
pub mod Urls
