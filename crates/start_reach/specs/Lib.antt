pub mod CounterChanges
pub mod Deeds
pub mod TurnedElements
pub mod SecondMerges
pub mod Laws
