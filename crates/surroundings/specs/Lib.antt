pub mod Surroundings
pub mod StyledEvaluators
pub mod MergedLevels
pub mod Laws
