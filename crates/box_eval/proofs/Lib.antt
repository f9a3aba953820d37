pub mod ListLemmas
pub mod BoxLemmas
pub mod KeptLemmas
pub mod Agreement
pub mod CountedLemmas
pub mod ContentLemmas
pub mod OpLemmas
pub mod PlaceLemmas
pub mod ResetLemmas
pub mod ElementLemmas
pub mod EntryLemmas
pub mod DocumentLemmas
pub mod GroupLemmas
pub mod ValueLemmas
mod NeededStarts
mod BoxChangeLemmas
pub mod StartLemmas
pub mod AskingLemmas
