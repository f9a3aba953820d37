pub mod ChangedTargets
pub mod MergedNodes
pub mod ExchangedNodes
pub mod Laws
pub mod ToldLaws
