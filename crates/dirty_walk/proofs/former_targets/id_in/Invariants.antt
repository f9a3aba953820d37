use Rattle.std.proofs.Common.{◌≡◌, None, codes, take}
use Rattle.std.specs.Prelude.{find}
use Rattle.plain_types.specs.Attributes.{is_named}
use Rattle.dirty_walk.proofs.former_targets.id_in.Given as goal

abbrev pub invariant-loop-attr : goal.invariant-loop-attr
invariant-loop-attr l = find (is_named (codes "id")) (take l.attr-index l.attrs) ≡ None
