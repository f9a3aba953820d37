pub mod EntryLaws
pub mod MergeLaws
pub mod StopLaws
pub mod CountLaws
mod SkipLaws
mod TurnLists
mod EnterTurns
mod PassTurns
pub mod WalkLaws
pub mod FitTurns
mod ShallowStops
pub mod AtStops
pub mod ToldLaws
mod SettleLaws
mod EditLaws
mod PutLaws
pub mod WayStops
pub mod WayLaws
pub mod JoinWords
mod JoinLaws
mod MoveParts
mod MoveLaws
mod RoomLaws
pub mod TurnedMerges
pub mod WayOrder
pub mod TurnedStops
pub mod InputLaws
pub mod WorkLaws
pub mod LawLemmas
