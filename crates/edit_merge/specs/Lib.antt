pub mod EditMerges
pub mod NodeStops
pub mod Joining
pub mod Laws
