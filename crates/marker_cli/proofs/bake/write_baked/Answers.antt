use Rattle.std.proofs.Common.{◌≡◌, ◌∙◌, ap, arith, refl, sym}
use Rattle.std.specs.Prelude.{Ok}
use Rattle.std.specs.Str.{chars}
use Rattle.bake_book.specs.Dressing.{dressed_document}
use Rattle.bake_definitions.specs.Places.{left_out}
use Rattle.baked_text.specs.Walks.{saturated}
use Rattle.marker_cli.specs.declared.status.FileAt.TheVariants.{Word}
use Rattle.marker_cli.specs.Bake.{with_left_out}
use Rattle.marker_cli.specs.Turns.{text_in}
use Rattle.marker_cli.proofs.BakeLemmas.{baked_as, most_of_baking, reads_as_tree}
use Rattle.marker_cli.proofs.EndsLemmas.{at_start, at_text, at_value, at_written, caused_as, caused_within, ends_no_text, ends_not_given, ends_not_written, ends_same, ends_stopped, ends_whole, part_status_is, reads_after}
use Rattle.marker_cli.proofs.ReadLemmas.{handed_refuses, put_stops}
use Rattle.ports.proofs.CauseLemmas.{raises_more}
use Rattle.marker_cli.proofs.bake.write_baked.Goals as goal

pub returns-in_err-text-clause-told : goal.returns-in_err-text-clause-told
returns-in_err-text-clause-told g c files reading baked told reads bakes =
    ends_stopped c.from_residual.result c.from_residual.ensures
    (ends_no_text files _ _ _ (at_start _ _) (c.in_err-text.ensures.told files told) (λ failed. failed))

pub returns-in_err-style-clause-told : goal.returns-in_err-style-clause-told
returns-in_err-style-clause-told g c files reading baked told reads bakes =
    ends_stopped c.from_residual-in_err-style.result c.from_residual-in_err-style.ensures
    (ends_no_text files _ _ _ (at_text files _ _ _ (at_start _ _) (c.in_ok-text.ensures.told files told))
    (c.in_err-style.ensures.told files (c.in_ok-text.ensures.held ∙ told))
    (λ failed. reads_after c.in_ok-text.ensures.honest c.in_ok-text.ensures.faults failed))

pub returns-in_err-tree-clause-told : goal.returns-in_err-tree-clause-told
returns-in_err-tree-clause-told g c files reading baked told reads bakes =
    let text : text_in (Word 1) (files (chars c.args.document.now)) ≡ Ok c.in_ok-text.text = c.in_ok-text.ensures.told files told in
    let style : text_in (Word 2) (files (chars c.args.sheet.now)) ≡ Ok c.in_ok-style.style = c.in_ok-style.ensures.told files (c.in_ok-text.ensures.held ∙ told) in
    ends_stopped c.from_residual-in_err-tree.result c.from_residual-in_err-tree.ensures
    (ends_not_given _ (at_text files _ _ _ (at_text files _ _ _ (at_start _ _) text) style)
    (c.in_err-tree.ensures.tree reading (rw c.as_str.ensures.characters (reads c.in_ok-text.text c.in_ok-style.style text style))))

pub returns-in_err-tree-clause-cause : goal.returns-in_err-tree-clause-cause
returns-in_err-tree-clause-cause g c =
    caused_as _ _ _ _ (part_status_is c.from_residual-in_err-tree.result c.from_residual-in_err-tree.ensures) (caused_within _ _ _ _ _ c.in_err-tree.ensures.cause)

pub returns-in_err-left_out-clause-told : goal.returns-in_err-left_out-clause-told
returns-in_err-left_out-clause-told g c files reading baked told reads bakes =
    let text : text_in (Word 1) (files (chars c.args.document.now)) ≡ Ok c.in_ok-text.text = c.in_ok-text.ensures.told files told in
    let style : text_in (Word 2) (files (chars c.args.sheet.now)) ≡ Ok c.in_ok-style.style = c.in_ok-style.ensures.told files (c.in_ok-text.ensures.held ∙ told) in
    let tree = c.in_ok-tree.ensures.tree reading (rw c.as_str.ensures.characters (reads c.in_ok-text.text c.in_ok-style.style text style)) in
    let is = bakes c.in_ok-text.text c.in_ok-style.style c.in_ok-tree.tree text style (reads_as_tree reading c.in_ok-tree.tree tree) in
    ends_stopped c.from_residual-in_err-left_out.result c.from_residual-in_err-left_out.ensures
    (ends_not_written (at_value _ (at_text files _ _ _ (at_text files _ _ _ (at_start _ _) text) style) tree) c.in_err-left_out.ensures.cause
    (c.in_err-left_out.ensures.failed baked (baked_as is (sym c.as_str-2.ensures.characters) (sym c.as_str-3.ensures.characters) refl)))

pub returns-clause-told : goal.returns-clause-told
returns-clause-told g c files reading baked told reads bakes =
    let text : text_in (Word 1) (files (chars c.args.document.now)) ≡ Ok c.in_ok-text.text = c.in_ok-text.ensures.told files told in
    let style : text_in (Word 2) (files (chars c.args.sheet.now)) ≡ Ok c.in_ok-style.style = c.in_ok-style.ensures.told files (c.in_ok-text.ensures.held ∙ told) in
    let tree = c.in_ok-tree.ensures.tree reading (rw c.as_str.ensures.characters (reads c.in_ok-text.text c.in_ok-style.style text style)) in
    let is = bakes c.in_ok-text.text c.in_ok-style.style c.in_ok-tree.tree text style (reads_as_tree reading c.in_ok-tree.tree tree) in
    let count : c.in_ok-left_out.left_out ≡ saturated (left_out (dressed_document c.in_ok-style.style c.in_ok-tree.tree)) =
    c.in_ok-left_out.ensures.left_out ∙ ap (λ sheet. saturated (left_out (dressed_document sheet c.in_ok-tree.tree))) c.as_str-3.ensures.characters in
    ends_same refl (c.told_left_out.ensures.status ∙ ap with_left_out count)
    (ends_whole (at_written (at_value _ (at_text files _ _ _ (at_text files _ _ _ (at_start _ _) text) style) tree)
    (c.in_ok-left_out.ensures.ok baked (baked_as is (sym c.as_str-2.ensures.characters) (sym c.as_str-3.ensures.characters) refl))))

pub returns-clause-steps : goal.returns-clause-steps
returns-clause-steps g c files reading told reads =
    let text : text_in (Word 1) (files (chars c.args.document.now)) ≡ Ok c.in_ok-text.text = c.in_ok-text.ensures.told files told in
    let style : text_in (Word 2) (files (chars c.args.sheet.now)) ≡ Ok c.in_ok-style.style = c.in_ok-style.ensures.told files (c.in_ok-text.ensures.held ∙ told) in
    let most = most_of_baking reading c.in_ok-tree.tree (c.in_ok-tree.ensures.tree reading (rw c.as_str.ensures.characters (reads c.in_ok-text.text c.in_ok-style.style text style))) in
    omega (arith, most, c.in_ok-left_out.ensures.steps)

pub returns-in_err-left_out-clause-steps : goal.returns-in_err-left_out-clause-steps
returns-in_err-left_out-clause-steps g c files reading told reads =
    let text : text_in (Word 1) (files (chars c.args.document.now)) ≡ Ok c.in_ok-text.text = c.in_ok-text.ensures.told files told in
    let style : text_in (Word 2) (files (chars c.args.sheet.now)) ≡ Ok c.in_ok-style.style = c.in_ok-style.ensures.told files (c.in_ok-text.ensures.held ∙ told) in
    let most = most_of_baking reading c.in_ok-tree.tree (c.in_ok-tree.ensures.tree reading (rw c.as_str.ensures.characters (reads c.in_ok-text.text c.in_ok-style.style text style))) in
    omega (arith, most, c.in_err-left_out.ensures.steps)

pub returns-clause-reads : goal.returns-clause-reads
returns-clause-reads g c files told whole =
    raises_more _ _ _ _ _ _ (c.in_ok-text.ensures.came files told) (c.in_ok-style.ensures.came files (c.in_ok-text.ensures.held ∙ told)) refl

pub returns-in_err-text-clause-refused : goal.returns-in_err-text-clause-refused
returns-in_err-text-clause-refused g c = handed_refuses c.from_residual.result _ c.from_residual.ensures c.in_err-text.ensures.stops

pub returns-in_err-style-clause-refused : goal.returns-in_err-style-clause-refused
returns-in_err-style-clause-refused g c = handed_refuses c.from_residual-in_err-style.result _ c.from_residual-in_err-style.ensures c.in_err-style.ensures.stops

pub returns-in_err-tree-clause-refused : goal.returns-in_err-tree-clause-refused
returns-in_err-tree-clause-refused g c = handed_refuses c.from_residual-in_err-tree.result _ c.from_residual-in_err-tree.ensures c.in_err-tree.ensures.stops

pub returns-in_err-left_out-clause-refused : goal.returns-in_err-left_out-clause-refused
returns-in_err-left_out-clause-refused g c =
    handed_refuses c.from_residual-in_err-left_out.result _ c.from_residual-in_err-left_out.ensures (put_stops _ c.in_err-left_out.ensures.cause)
