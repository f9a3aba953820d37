pub mod KeyedSources
pub mod Places
pub mod Inputs
pub mod Counters
pub mod References
pub mod Work
pub mod Laws
pub mod ReachedLaws
