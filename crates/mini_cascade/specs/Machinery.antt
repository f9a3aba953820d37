-- What the contracts of private functions say of the rules of a sheet, as the code files them. No promise of the crate
-- rests on these.
pub mod Shelves
