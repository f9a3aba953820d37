pub mod BoxPieces
