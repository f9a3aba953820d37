pub mod Pairing
pub mod SameStandings
pub mod SameStyles
pub mod SameEvaluations
pub mod SameLines
