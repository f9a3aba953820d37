-- What the contracts of private functions say. No promise of the crate rests on these.
pub mod Stands
pub mod Statuses
pub mod Takings
pub mod Tallies
