pub mod DumpLemmas
pub mod EncodedLemmas
mod LineLemmas
mod RunLemmas
