pub mod PathLaws
pub mod TreeLaws
pub mod SoundLaws
pub mod PlaceLaws
pub mod ValueLaws
pub mod InverseLaws
pub mod VersionLaws
pub mod LedPaths
pub mod SubtreeLaws
pub mod NodeFacts
mod Examples
