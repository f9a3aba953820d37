pub mod StyledMerges
pub mod Stays
pub mod Reached
pub mod ReachStops
pub mod Laws
pub mod StopLaws
