pub mod ViewLemmas
pub mod PairLemmas
pub mod WriteLemmas
pub mod CountLemmas
pub mod FirstLemmas
pub mod ReservedLemmas
