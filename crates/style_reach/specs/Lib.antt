pub mod Ancestors
pub mod TouchedSheets
pub mod Reaches
pub mod Laws
