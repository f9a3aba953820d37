pub mod CauseLemmas
pub mod GrownLemmas
pub mod PieceLemmas
mod FetchLemmas
mod NameLemmas
mod PutLemmas
