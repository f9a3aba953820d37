use Rattle.std.proofs.Common.{◌++◌, ◌∷◌, ◌∙◌, [], append-nil, ap, sym}
use Rattle.std.specs.Option.{option_map_or}
use Rattle.std.specs.Str.{chars}
use Rattle.target_index.specs.declared.change.IndexChange.TheVariants.{Hold}
use Rattle.dirty_walk.proofs.index.put_id_change.Goals as goal

pub returns-in_default : goal.returns-in_default
unfolding chars
returns-in_default c = record {
  ok = sym (append-nil c.args.changes.now) ∙ ap (λ id. c.args.changes.now ++ option_map_or (λ i. Hold i c.args.key ∷ []) id []) c.in_default.ensures.characters;
}

pub returns : goal.returns
unfolding chars
returns c = record {
  ok = c.in_ok-push.ensures.ok ∙ ap (λ id. c.args.changes.now ++ Hold id c.args.key ∷ []) c.in_ok-id.ensures.characters ∙ ap (λ id. c.args.changes.now ++ option_map_or (λ i. Hold i c.args.key ∷ []) id []) c.in-Some.ensures.characters;
}
