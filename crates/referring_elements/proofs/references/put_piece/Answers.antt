use Rattle.std.proofs.Common.{◌++◌, ◌∷◌, ◌∙◌, [], append-nil, ap, sym}
use Rattle.std.specs.Option.{option_map_or}
use Rattle.target_index.specs.declared.change.IndexChange.TheVariants.{Refer}
use Rattle.referring_elements.proofs.references.put_piece.Goals as goal

pub returns-in_default : goal.returns-in_default
returns-in_default c = record {
  ok = sym (append-nil c.args.changes.now) ∙ ap (λ id. c.args.changes.now ++ option_map_or (λ i. Refer i c.args.key ∷ []) id []) c.in_default.ensures.id;
}

pub returns : goal.returns
returns c = record {
  ok = c.in_ok-push.ensures.ok ∙ ap (λ id. c.args.changes.now ++ Refer id c.args.key ∷ []) c.in_ok-id.ensures.characters ∙ ap (λ id. c.args.changes.now ++ option_map_or (λ i. Refer i c.args.key ∷ []) id []) c.in-Some.ensures.id;
}
