pub mod TestLaws
pub mod AncestorLaws
mod StyleLookups
mod StyleWalk
mod Seen
mod CompoundLaws
mod SelectorLaws
mod FeatureLaws
mod CascadeLaws
mod Alike
mod Replaced
mod RowLaws
mod TakenLaws
mod EditLaws
mod SheetLaws
mod AttributeLaws
pub mod AuthorLaws
mod DocumentLaws
pub mod UntouchedLaws
mod WithinLaws
