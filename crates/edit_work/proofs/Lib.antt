mod SameInputs
mod Sums
mod Touched
mod Handed
mod HandedInputs
mod Points
pub mod LawLemmas
mod ReachedCounts
pub mod ReachedPays
pub mod ReachedLemmas
