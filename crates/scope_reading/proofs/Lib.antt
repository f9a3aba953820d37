pub mod OtherCounters
pub mod RowLemmas
pub mod PseudoLemmas
mod CreatorLemmas
pub mod OwnSets
pub mod LawLemmas
