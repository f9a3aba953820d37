mod Lists
mod HolderLaws
mod UnderLaws
mod KnownLaws
mod WorkLaws
mod EnteredLaws
mod PlacedLaws
mod ReachedEntered
mod ReachedPlaced
mod ExchangedNodes
mod ListedElements
mod OnceTold
mod StopLaws
mod PassedElements
mod ToldChanges
mod Examples
pub mod LawLemmas
