pub mod PlaceLaws
pub mod LaneLaws
