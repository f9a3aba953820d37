pub mod Chains
pub mod DecimalLaws
pub mod FallbackLaws
