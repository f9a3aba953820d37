use Rattle.std.proofs.Common.{sym, ◌∙◌}
use Rattle.xhtml_reader.proofs.Texts.{empty_same, third}
use Rattle.xhtml_reader.proofs.open_tree.OpenTree.accepts_element.Goals as goal

pub returns-then-accepts_node : goal.returns-then-accepts_node
returns-then-accepts_node c =
    third _ _ _ _ (sym c.is_inside.ensures ∙ c.if-is_inside.false) (sym c.accepts_node.ensures ∙ c.if-accepts_node.true)
    (c.is_empty.ensures ∙ empty_same _ _ c.as_str.ensures.bytes)
