pub mod Counting
pub mod KeptScopes
pub mod Reversed
pub mod Laws
