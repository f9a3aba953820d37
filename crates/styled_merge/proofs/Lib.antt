pub mod ShapeLaws
pub mod StyledForests
pub mod KeptCounts
mod KeptAncestors
pub mod EditCounts
pub mod ReachedLaws
pub mod ReachedLevels
pub mod StartLaws
pub mod KeptLaws
mod UnderPlaces
mod NodeReached
mod ApartNodes
mod WayNodes
pub mod StopLemmas
mod Examples
pub mod LawLemmas
