pub mod Contents
pub mod Targets
pub mod TargetLaws
pub mod Layers
