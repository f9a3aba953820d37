use Rattle.std.proofs.Common.{◌∙◌, ◌∷◌, [], sym}
use Rattle.forest.proofs.PathLaws.{key_at-child, key_at-past}
use Rattle.edit_merge.proofs.stops.child_at.Goals as goal

pub returns-in_err-at : goal.returns-in_err-at
returns-in_err-at c = record {
  link = c.from_residual.ensures ∙ sym (key_at-past c.args.arena.now.tree c.args.parent.now (c.args.index ∷ []) (sym c.at.ensures.link ∙ c.in_err-at.was));
}

pub returns : goal.returns
returns c = record {
  link =
      c.child.ensures.link
      ∙ sym (key_at-child c.args.arena.now.tree c.args.parent.now c.in_ok-at.field-0 c.args.index c.arena_holds_document.ensures.document.distinct (sym c.at.ensures.link ∙ c.in_ok-at.was));
}
