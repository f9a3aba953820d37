use Rattle.std.proofs.Common.{◌≡◌, None, take, find, chars}
use Rattle.plain_types.specs.Attributes.{is_named}
use Rattle.node_arena.proofs.arena.Arena.attr.Given as goal

abbrev pub invariant-loop-attr : goal.invariant-loop-attr
invariant-loop-attr l = find (is_named (chars l.name)) (take l.attr-index l.attr-items) ≡ None
