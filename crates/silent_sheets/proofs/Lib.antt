pub mod Chosen
pub mod Matched
pub mod SilentStyles
pub mod SilentRecords
pub mod SilentLines
pub mod Joined
pub mod SilencingText
