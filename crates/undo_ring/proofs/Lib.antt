pub mod Moves
pub mod EngineFacts
