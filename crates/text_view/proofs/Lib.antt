pub mod WritingLaws
pub mod LineLaws
pub mod ByteLaws
pub mod SplitLaws
pub mod TurnLaws
pub mod NameLaws
pub mod PieceLaws
pub mod EnterLaws
pub mod KeyLaws
pub mod LeftToWalk
pub mod WalkLaws
mod Examples
