pub mod CounterLaws
pub mod DeedLaws
mod OtherLaws
pub mod SkipLaws
pub mod TurnedLaws
pub mod WayLaws
pub mod ClimbLaws
pub mod StartedLaws
pub mod LawLemmas
mod CountLaws
mod DifferLaws
pub mod WorkLemmas
mod Examples
