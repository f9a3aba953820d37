use Rattle.plain_types.specs.Tree.{HasDistinctNames}
use Rattle.cascade_rows.proofs.documents.attrs_of.Given as goal

abbrev pub invariant-loop-name : goal.invariant-loop-name
invariant-loop-name l = HasDistinctNames l.attrs
