mod BookLaws
mod CommandLaws
mod EditLaws
mod FaultLaws
mod HistoryLaws
mod LineLaws
mod OneLaws
mod OperandLaws
pub mod PathLaws
mod PuttingLaws
mod ReadLaws
mod SectionLaws
pub mod TotalLaws
mod WordLaws
