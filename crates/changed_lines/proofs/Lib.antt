pub mod SameLemmas
pub mod OtherLemmas
pub mod PathLemmas
pub mod PutLemmas
pub mod DumpLemmas
pub mod ListingLemmas
