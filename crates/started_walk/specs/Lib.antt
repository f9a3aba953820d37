pub mod Countings
pub mod Exchanges
pub mod Laws
pub mod Settled
pub mod Twice
pub mod Walks
