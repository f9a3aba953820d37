use Rattle.std.proofs.Common.{◌∷◌, [], sym, subst}
use Rattle.plain_types.specs.declared.box_kind.BoxKind.TheVariants as kind
use Rattle.content_eval.specs.declared.place.Place.{Place}
use Rattle.box_eval.specs.Boxes.{box_of}
use Rattle.box_eval.specs.Scopes.{HasNoneOf}
use Rattle.box_eval.proofs.ElementLemmas.{new_element, new_inherited}
use Rattle.box_eval.proofs.element.count_own.Goals as goal

pub count_box-requires : goal.count_box-requires
count_box-requires c =
    let inputs = c.args.inputs.now in
    let new = new_inherited (box_of inputs.key kind.Element) inputs (new_element inputs.key c.args.style.now inputs c.requires.new) in
    record { new = subst (λ (place : Place). HasNoneOf (place.creator ∷ []) place.set) (sym c.in_ok-place.ensures.place) new }
