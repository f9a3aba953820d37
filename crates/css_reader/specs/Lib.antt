pub mod Blocks
pub mod Declarations
pub mod Features
pub mod FoundRules
pub mod Grammar
pub mod Rules
pub mod Sheets
