pub mod Histories
pub mod StepsTaken
