use Rattle.std.proofs.Common.{◌≡◌, ◌∙◌, List, [], ap, sym}
use Rattle.std.specs.Prelude.{unwrap_or}
use Rattle.std.specs.Option.{option_map_or}
use Rattle.box_eval.specs.declared.made.Made.{Made}
use Rattle.plain_types.specs.declared.box_id.BoxId.{BoxId}
use Rattle.plain_types.specs.declared.box_kind.BoxKind.TheVariants as kind
use Rattle.plain_types.specs.declared.counter.Counter.{Counter}
use Rattle.box_eval.specs.declared.entry.Closing.{Closing}
use Rattle.box_eval.specs.declared.formed.Formed.{Formed}
use Rattle.box_eval.specs.Boxes.{box_of}
use Rattle.box_eval.specs.Elements.{by_parent, closing_of, handed_in, past_formed, styled_by}
use Rattle.box_eval.proofs.EntryLemmas.{closing_any, closing_same, exit_is}
use Rattle.box_eval.proofs.element.close_element.Goals as goal

pub returns : goal.returns
returns g c =
    let inputs = c.args.inputs.now in
    let element = styled_by inputs c.args.attrs.now c.args.style.now in
    let box : BoxId = box_of inputs.key kind.After in
    let after : Formed = c.in_ok-after.after in
    let close : Formed → Closing = λ formed. record { after = formed.made; exit = unwrap_or (past_formed box formed (handed_in inputs [])).preceding []; depth = formed.depth } in
    let with_exit : List Counter → Closing = λ exit. record { after = after.made; exit = exit; depth = after.depth } in
    let exits : c.in_ok-exit.exit ≡ unwrap_or (past_formed box after (handed_in inputs [])).preceding [] =
    c.in_ok-exit.ensures.exit ∙ ap (λ preceding. option_map_or (λ (made : Made). made.set) after.made (unwrap_or preceding [])) c.as_ref.ensures.value ∙ sym (exit_is box after.made after.depth (handed_in inputs [])) in
    let closing : record { after = after.made; exit = c.in_ok-exit.exit; depth = after.depth } ≡ closing_of c.args.table.now by_parent inputs.key element (handed_in inputs []) = ap with_exit exits ∙ ap close c.in_ok-after.ensures.after in
    record {
      closing = λ earlier fits. closing ∙ closing_any c.args.table.now inputs.key element (handed_in inputs []) earlier ∙ sym (closing_same c.args.table.now element inputs earlier fits c.requires.new);
      by_parent = closing;
      step = c.tick.ensures.step;
    }
