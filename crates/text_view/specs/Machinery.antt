-- What the contracts of private functions say: how the code writes lines as their texts come, and goes over a document.
-- No promise of the crate rests on these.
pub mod Walking
pub mod Writing
