pub mod LineLaws
pub mod LineWalk
pub mod Roots
