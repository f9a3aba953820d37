use Rattle.std.proofs.Common.{◌++◌, ◌∷◌, ◌∙◌, ℕ, List, [], append-nil, ap, sym}
use Rattle.std.specs.Option.{option_map_or}
use Rattle.dirty_walk.specs.declared.reference_exchange.Reference.{Reference}
use Rattle.dirty_walk.proofs.reference_exchange.put_piece.Goals as goal

abbrev referring : ℕ → List ℕ → List Reference
referring key id = record { key = key; id = id } ∷ []

pub returns-in_default : goal.returns-in_default
returns-in_default c = record {
  ok = sym (append-nil c.args.references.now) ∙ ap (λ id. c.args.references.now ++ option_map_or (referring c.args.key) id []) c.in_default.ensures.id;
}

pub returns : goal.returns
returns c = record {
  ok = c.in_ok-push.ensures.ok
      ∙ ap (λ id. c.args.references.now ++ referring c.args.key id) c.in_ok-id.ensures.characters
      ∙ ap (λ id. c.args.references.now ++ option_map_or (referring c.args.key) id []) c.in-Some.ensures.id;
}
