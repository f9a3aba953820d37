pub mod PutLines
pub mod Spans
