use Rattle.std.proofs.Common.{take}
use Rattle.xhtml_items.proofs.Names.{Seen}
use Rattle.xhtml_items.proofs.attributes.are_distinct.Given as goal

abbrev pub invariant-loop-attr : goal.invariant-loop-attr
invariant-loop-attr l = Seen l.seen (take l.attr-index l.attrs)
