pub mod ScopeChanges
pub mod Laws
