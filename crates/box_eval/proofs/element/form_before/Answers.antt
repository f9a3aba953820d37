use Rattle.std.proofs.Common.{◌≡◌, ◌∙◌, ap, sym, cond, false}
use Rattle.plain_types.specs.declared.box_kind.BoxKind.TheVariants as kind
use Rattle.box_eval.specs.Boxes.{box_of, has_pseudo_box}
use Rattle.box_eval.specs.Elements.{content_of, formed_box, inside, items_of, by_parent, no_box, past_formed, pseudo_counted, styled_by}
use Rattle.box_eval.proofs.ElementLemmas.{cond_none, past_depth}
use Rattle.box_eval.proofs.element.form_before.Goals as goal

pub returns-in-None : goal.returns-in-None
returns-in-None c =
    let inputs = c.args.inputs.now in
    let style = c.args.style.now.before in
    let table = c.args.table.now in
    let element = styled_by inputs c.args.attrs.now c.args.style.now in
    let marker = c.args.marker.now in
    let around = inside c.args.own.now inputs.depth in
    let handed = past_formed (box_of inputs.key kind.Marker) marker around in
    let counted = pseudo_counted table by_parent inputs.key element kind.Before style handed in
    let made = formed_box counted.changes (content_of table by_parent inputs.key element kind.Before style counted.set handed) in
    let missing : has_pseudo_box style ≡ false = cond_none (items_of style.content) (has_pseudo_box style) c.in-None.ensures.items in
    record {
      before =
          ap no_box (sym (past_depth (box_of inputs.key kind.Marker) marker.made marker.depth around))
          ∙ sym (ap (λ has. cond has made (no_box handed.depth)) missing);
    }
