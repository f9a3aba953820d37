pub mod Contents
pub mod Declarations
pub mod Descriptors
pub mod Lists
pub mod Parts
pub mod Styles
