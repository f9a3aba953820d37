-- What the contracts of private functions say: where the walk stands in the merge. No promise of the crate rests on this.
pub mod Standing
