pub mod CounterStyles
pub mod Identifiers
pub mod PredefinedStyles
pub mod Representation
pub mod SheetCharacters
pub mod SheetText
pub mod Words
