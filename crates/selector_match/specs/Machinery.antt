-- What the contracts of private functions say: which side and which case a flag means, where the element of a key
-- stands, how far the walks along siblings and ancestors have come, and what is kept. No promise of the crate
-- rests on these.
pub mod Sides
pub mod Lookups
pub mod Walks
pub mod Outcomes
pub mod Kept
