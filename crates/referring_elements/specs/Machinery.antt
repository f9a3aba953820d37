-- What the contracts of private functions say. No promise of the crate rests on it.
pub mod Additions
