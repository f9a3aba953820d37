pub mod SetLemmas
pub mod DistinctLemmas
pub mod InheritLemmas
pub mod ByNameLemmas
pub mod LookupLemmas
pub mod InstantiateLemmas
