-- What the contracts of private functions say. No promise of the crate rests on these.
pub mod Asking
pub mod Rows
