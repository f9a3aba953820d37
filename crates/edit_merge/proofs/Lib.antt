pub mod LevelLaws
pub mod PlaceLaws
pub mod EditLaws
pub mod ApproachLaws
pub mod JoiningLaws
mod NodeLemmas
mod Examples
