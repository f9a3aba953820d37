use Rattle.std.proofs.Common.{sym, ◌∙◌}
use Rattle.xhtml_reader.proofs.Texts.{none_there, with_no_text}
use Rattle.xhtml_reader.proofs.open_tree.OpenTree.put_text.Goals as goal

pub returns-else-not-is_empty-clause-built : goal.returns-else-not-is_empty-clause-built
returns-else-not-is_empty-clause-built c = with_no_text _ _ (none_there _ _ c.as_str.ensures.bytes (sym c.is_empty.ensures ∙ c.if-not-is_empty.false))

pub returns-else-not-is_empty-clause-characters : goal.returns-else-not-is_empty-clause-characters
returns-else-not-is_empty-clause-characters c = none_there _ _ c.as_str.ensures.bytes (sym c.is_empty.ensures ∙ c.if-not-is_empty.false)
