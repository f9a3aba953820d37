mod HandedLemmas
mod EnteredLemmas
mod ToldLemmas
mod SumLemmas
pub mod LawLemmas
