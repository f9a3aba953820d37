use Rattle.std.proofs.Common.{◌≡◌, ◌∷◌, [], sym, subst, true}
use Rattle.plain_types.specs.declared.box_kind.BoxKind.TheVariants as kind
use Rattle.content_eval.specs.declared.place.Place.{Place}
use Rattle.box_eval.specs.Boxes.{box_of, has_pseudo_box}
use Rattle.box_eval.specs.Elements.{items_of}
use Rattle.box_eval.specs.Scopes.{HasNoneOf}
use Rattle.box_eval.proofs.ElementLemmas.{cond_some, new_after, new_inherited}
use Rattle.box_eval.proofs.element.form_after.Goals as goal

pub form_box-requires : goal.form_box-requires
form_box-requires c =
    let inputs = c.args.inputs.now in
    let style = c.args.style.now in
    let has : has_pseudo_box style.after ≡ true = cond_some c.in-Some.items.now (items_of style.after.content) (has_pseudo_box style.after) c.in-Some.ensures.items in
    let new = new_inherited (box_of inputs.key kind.After) inputs (new_after inputs.key style inputs has c.requires.new) in
    record { new = subst (λ (place : Place). HasNoneOf (place.creator ∷ []) place.set) (sym c.in_ok-place-in-Some.ensures.place) new }
