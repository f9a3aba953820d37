pub mod AsciiCase
pub mod Digits
pub mod Filtering
pub mod Keeping
pub mod Placing
pub mod Shortening
pub mod Spanning
