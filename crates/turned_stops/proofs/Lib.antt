mod WayLemmas
mod StopLemmas
mod ElementCounts
mod ComingLemmas
mod StayLemmas
pub mod LawLemmas
