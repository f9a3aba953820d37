-- What the contracts of private functions say: the parts of a line as they are read, what is read so far, and
-- what is built so far. No promise of the crate rests on these.
pub mod LineFaults
pub mod Operands
pub mod Putting
pub mod Reading
pub mod Words
