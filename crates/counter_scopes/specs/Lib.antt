pub mod Boxes
pub mod Counting
pub mod Scopes
pub mod Values
pub mod Laws
