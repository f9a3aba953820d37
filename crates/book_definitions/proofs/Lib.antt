pub mod AimLemmas
pub mod NameLemmas
pub mod UrlLemmas
pub mod ClosedChapters
pub mod BareEntries
pub mod TargetLaws
pub mod RekeyedVolumes
pub mod PieceLemmas
mod Examples
