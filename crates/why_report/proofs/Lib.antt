pub mod CounterLaws
pub mod SourceLaws
pub mod KeyLaws
pub mod CreatorLaws
pub mod ExplainLaws
