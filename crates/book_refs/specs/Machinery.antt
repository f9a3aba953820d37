pub mod VolumeBoxes
pub mod TargetElements
