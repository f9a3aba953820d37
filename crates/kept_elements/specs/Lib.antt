pub mod Changes
pub mod Evaluations
pub mod Known
pub mod Machinery
pub mod News
pub mod RenewalSteps
pub mod Renewals
