use Rattle.std.proofs.Common.{◌≡◌, drop, map}
use Rattle.std.specs.Map.{lookup}
use Rattle.std.specs.Str.{bytes_eq}
use Rattle.xhtml_items.specs.Tokens.{entry}
use Rattle.xhtml_items.proofs.references.look_up.Given as goal

abbrev pub invariant-loop-key : goal.invariant-loop-key
invariant-loop-key l = lookup (bytes_eq l.name) (map entry l.table) ≡ lookup (bytes_eq l.name) (map entry (drop l.key-index l.table))
