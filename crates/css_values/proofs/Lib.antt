pub mod Listing
pub mod PartLists
pub mod Shortening
pub mod Solid
pub mod Words
