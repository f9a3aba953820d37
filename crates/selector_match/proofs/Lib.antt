pub mod TextLaws
mod SeatLaws
pub mod StandingLaws
mod EmptyLaws
pub mod FoldLaws
pub mod Encoding
pub mod AttributeLaws
mod PositionLaws
mod ChainLaws
pub mod StepLaws
mod WalkLaws
mod CountLaws
pub mod OutcomeLaws
