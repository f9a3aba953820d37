use Rattle.std.proofs.Common.{[], refl}
use Rattle.std.proofs.lemmas.Bool.{false≢true}
use Rattle.plain_types.specs.Rows.{row}
use Rattle.plain_types.specs.declared.node.Node.TheVariants.{Text}
use Rattle.node_arena.proofs.FromTree.{shown-element, shown-text}
use Rattle.node_arena.proofs.arena.has_element_root.Goals as goal

pub returns-in-Element : goal.returns-in-Element
returns-in-Element c = ((λ _. shown-element c.args.tree.now c.in-Element.name c.in-Element.attrs (row 0 (Text [])) c.len-count.ensures.sound (c.in-Element.ensures.shown (row 0 (Text [])))), (λ _. refl))

pub returns-in-Text : goal.returns-in-Text
returns-in-Text c = ((λ never. absurd (false≢true never)), (λ root. absurd (shown-text c.args.tree.now c.in-Text.characters (row 0 (Text [])) c.len-count.ensures.sound (c.in-Text.ensures.shown (row 0 (Text []))) root)))
