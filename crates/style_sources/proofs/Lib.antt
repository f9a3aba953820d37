pub mod AboveLaws
pub mod PlacedLaws
