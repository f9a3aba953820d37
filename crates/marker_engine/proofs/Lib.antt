pub mod ApplyLemmas
pub mod Counting
pub mod Counts
pub mod LinesLeft
pub mod RekeyedCounts
pub mod Turns
