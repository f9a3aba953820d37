use Rattle.std.proofs.Common.{◌≡◌, take}
use Rattle.node_arena.specs.Edits.{without_attr}
use Rattle.node_arena.proofs.attrs.without_attr.Given as goal

abbrev pub invariant-loop-attr : goal.invariant-loop-attr
invariant-loop-attr l = l.list ≡ without_attr l.name (take l.attr-index l.attrs)
