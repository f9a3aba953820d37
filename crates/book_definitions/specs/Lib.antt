pub mod Chapters
pub mod Aims
pub mod Texts
pub mod Lines
pub mod Fresh
pub mod Laws
pub mod BoxLaws
