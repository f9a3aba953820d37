pub mod LawLemmas
pub mod MissingLemmas
mod SlotLoops
