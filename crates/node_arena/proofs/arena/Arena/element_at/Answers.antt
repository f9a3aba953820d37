use Rattle.std.proofs.Common.{Some, is_some, sym, ap, ◌∙◌}
use Rattle.plain_types.specs.declared.node.Node.TheVariants.{Element, Text}
use Rattle.node_arena.proofs.KeyAtLaws.{element-found, no-element-found}
use Rattle.node_arena.proofs.arena.Arena.element_at.Goals as goal

pub returns-in_err-key-clause-found : goal.returns-in_err-key-clause-found
returns-in_err-key-clause-found c = ap (λ o. is_some o) c.from_residual.ensures ∙ sym (no-element-found c.args.self.now.tree c.args.path.now (sym c.at.ensures.link ∙ c.in_err-key.was))

pub returns-in-Element-clause-found : goal.returns-in-Element-clause-found
returns-in-Element-clause-found c =
    sym (element-found c.args.self.now.tree c.args.path.now c.in_ok-key.key (Element c.in-Element.name c.in-Element.attrs) c.entry.ensures.document.distinct (sym c.at.ensures.link ∙ c.in_ok-key.was) (ap Some (sym c.in-Element.is) ∙ c.entry.ensures.says.node))

pub returns-in-Text-clause-found : goal.returns-in-Text-clause-found
returns-in-Text-clause-found c =
    sym (element-found c.args.self.now.tree c.args.path.now c.in_ok-key.key (Text c.in-Text.field-0) c.entry.ensures.document.distinct (sym c.at.ensures.link ∙ c.in_ok-key.was) (ap Some (sym c.in-Text.is) ∙ c.entry.ensures.says.node))
