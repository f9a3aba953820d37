pub mod Properties
pub mod Sources
pub mod Laws
