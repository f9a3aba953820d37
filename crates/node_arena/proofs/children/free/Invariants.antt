use Rattle.std.proofs.Common.{◌≡◌, ◌<◌, ℕ, None, slice_get, Some}
use Rattle.slab.specs.Slab.{get}
use Rattle.node_arena.proofs.children.free.Given as goal

abbrev pub invariant-loop-key : goal.invariant-loop-key
invariant-loop-key l = record {
  gone : (at key : ℕ) → at < l.key-index → slice_get l.keys at ≡ Some key → get l.nodes key ≡ None;
  others : (key : ℕ) → ((at : ℕ) → at < l.key-index → slice_get l.keys at ≡ Some key → ⊥) → get l.nodes key ≡ get l.fn.nodes key;
}
