pub mod SameLaws
pub mod Said
pub mod Asking
pub mod Fits
pub mod Ties
pub mod InputLaws
pub mod SharedLaws
