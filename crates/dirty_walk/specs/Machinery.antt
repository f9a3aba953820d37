-- What the contracts of private functions say: lists as the code makes them. No promise of the crate rests on these.
pub mod FormerLists
pub mod KeptPieces
pub mod ReferenceLists
pub mod ReferenceExchanges
pub mod PlaceReadings
pub mod EditedArenas
pub mod NamedElements
pub mod DocumentWalks
pub mod SecondWalks
pub mod CountedEdits
pub mod SomeNews
