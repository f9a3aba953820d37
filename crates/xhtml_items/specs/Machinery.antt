-- What the contracts of private functions say: how the code reads an item, and passes over characters. No
-- promise of the crate rests on these.
pub mod Items
pub mod StopBytes
