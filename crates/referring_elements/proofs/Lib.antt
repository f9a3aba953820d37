mod ChangedLemmas
mod HolderLemmas
pub mod WalkLemmas
pub mod FirstHolderLemmas
pub mod NodesLeft
pub mod NodeTurns
mod FoundLemmas
mod ReferenceLemmas
