mod KeptNodes
mod ReadLemmas
mod CreatorLemmas
mod KeyLemmas
mod Examples
pub mod LawLemmas
mod Parts
mod FewerKept
mod ReversedSets
mod IdleElements
mod AskedBoxes
pub mod ReversedLemmas
