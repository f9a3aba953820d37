use Rattle.std.proofs.Common.{◌≡◌, ◌∙◌, ◌∷◌, [], ap, sym, subst}
use Rattle.plain_types.specs.declared.box_id.BoxId.{BoxId}
use Rattle.plain_types.specs.declared.box_kind.BoxKind.TheVariants as kind
use Rattle.box_eval.specs.declared.counting.Counted.{Counted}
use Rattle.box_eval.specs.declared.entry.Entry.{Entry}
use Rattle.box_eval.specs.declared.formed.Formed.{Formed}
use Rattle.box_eval.specs.Boxes.{box_of}
use Rattle.box_eval.specs.Elements.{before_of, behind_marker, by_parent, entry_of, handed_in, inherited_by, inside, marker_formed, marker_of, own_counted, past_formed, pseudo_formed, styled_by}
use Rattle.box_eval.specs.Scopes.{HasNoneOf}
use Rattle.box_eval.proofs.EntryLemmas.{before_new, entry_same}
use Rattle.box_eval.proofs.element.eval_element.Goals as goal

pub form_before-requires : goal.form_before-requires
form_before-requires g c =
    let inputs = c.args.inputs.now in
    let table = c.args.table.now in
    let element = styled_by inputs c.args.attrs.now c.args.style.now in
    let handed = handed_in inputs [] in
    let box : BoxId = box_of inputs.key kind.Marker in
    let own : Counted = c.in_ok-own.own in
    let marker : Formed = c.in_ok-marker.marker in
    let own_is : own ≡ own_counted table by_parent inputs.key element handed = c.in_ok-own.ensures.own in
    let marker_is : marker ≡ marker_of table by_parent inputs.key element handed = c.in_ok-marker.ensures.marker ∙ ap (λ (counted : Counted). marker_formed table by_parent inputs.key element (inside counted.set inputs.depth)) own_is in
    let behind : past_formed box marker (inside own.set inputs.depth) ≡ behind_marker table by_parent inputs.key element handed =
    ap (λ formed. past_formed box formed (inside own.set inputs.depth)) marker_is ∙ ap (λ (counted : Counted). past_formed box (marker_of table by_parent inputs.key element handed) (inside counted.set inputs.depth)) own_is in
    record { new = λ has. subst (λ next. HasNoneOf (box_of inputs.key kind.Before ∷ []) (inherited_by next)) (sym behind) (before_new table element inputs [] c.requires.new has) }

pub returns : goal.returns
returns g c =
    let inputs = c.args.inputs.now in
    let table = c.args.table.now in
    let element = styled_by inputs c.args.attrs.now c.args.style.now in
    let handed = handed_in inputs [] in
    let box : BoxId = box_of inputs.key kind.Marker in
    let own : Counted = c.in_ok-own.own in
    let marker : Formed = c.in_ok-marker.marker in
    let before : Formed = c.in_ok-before.before in
    let own_is : own ≡ own_counted table by_parent inputs.key element handed = c.in_ok-own.ensures.own in
    let marker_is : marker ≡ marker_of table by_parent inputs.key element handed = c.in_ok-marker.ensures.marker ∙ ap (λ (counted : Counted). marker_formed table by_parent inputs.key element (inside counted.set inputs.depth)) own_is in
    let behind : past_formed box marker (inside own.set inputs.depth) ≡ behind_marker table by_parent inputs.key element handed =
    ap (λ formed. past_formed box formed (inside own.set inputs.depth)) marker_is ∙ ap (λ (counted : Counted). past_formed box (marker_of table by_parent inputs.key element handed) (inside counted.set inputs.depth)) own_is in
    let before_is : before ≡ before_of table by_parent inputs.key element handed = c.in_ok-before.ensures.before ∙ ap (pseudo_formed table by_parent inputs.key element kind.Before element.style.before) behind in
    let make : Counted → Formed → Formed → Entry = λ counted marker before. record { own = counted.set; changes = counted.changes; marker = marker.made; before = before.made; depth = before.depth } in
    let entry : make own marker before ≡ entry_of table by_parent inputs.key element handed =
    ap (λ counted. make counted marker before) own_is
    ∙ ap (λ formed. make (own_counted table by_parent inputs.key element handed) formed before) marker_is
    ∙ ap (make (own_counted table by_parent inputs.key element handed) (marker_of table by_parent inputs.key element handed)) before_is in
    record {
      entry = λ earlier fits. entry ∙ sym (entry_same table element inputs earlier fits c.requires.new);
      by_parent = entry;
      step = c.tick.ensures.step;
    }
