pub mod ShownTexts
pub mod Changes
pub mod Replays
pub mod Dumps
pub mod Listings
pub mod Laws
