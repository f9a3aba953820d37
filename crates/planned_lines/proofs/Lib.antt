pub mod LookedUp
pub mod PlannedLines
pub mod PutLemmas
pub mod SpanLemmas
