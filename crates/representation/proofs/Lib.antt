pub mod DraftLemmas
pub mod DigitLemmas
pub mod WrittenLemmas
pub mod RepresentLemmas
pub mod TurnLemmas
