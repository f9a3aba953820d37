pub mod Indexes
pub mod Former
pub mod Found
pub mod References
pub mod ElementsById
pub mod Machinery
