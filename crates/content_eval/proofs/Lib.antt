pub mod JoinLemmas
pub mod ReferenceLemmas
pub mod TargetIdLemmas
