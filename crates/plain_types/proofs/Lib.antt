pub mod RowLemmas
pub mod ForestLemmas
pub mod StyleNameLemmas
pub mod TextLemmas
pub mod PlaceLemmas
pub mod NameLemmas
