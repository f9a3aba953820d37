pub mod Accounts
pub mod Causes
