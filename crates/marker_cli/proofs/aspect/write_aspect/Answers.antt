use Rattle.std.proofs.Common.{◌≡◌, ◌∙◌, refl, sym, arith}
use Rattle.std.specs.Prelude.{Ok}
use Rattle.std.specs.Str.{chars}
use Rattle.marker_cli.specs.declared.status.FileAt.TheVariants.{Word}
use Rattle.marker_cli.specs.declared.status.Status.TheVariants as status
use Rattle.marker_cli.specs.Aspects.{aspect_bytes}
use Rattle.marker_cli.specs.Output.{ends, writes}
use Rattle.marker_cli.specs.Turns.{text_in}
use Rattle.marker_cli.proofs.EndsLemmas.{at_same, at_start, at_text, at_value, caused_as, caused_within, ends_no_text, ends_not_given, ends_put, ends_stopped, part_status_is, reads_after}
use Rattle.marker_cli.proofs.TreeLemmas.{most_of}
use Rattle.ports.proofs.CauseLemmas.{raises_more}
use Rattle.marker_cli.proofs.ReadLemmas.{on_ok}
use Rattle.marker_cli.proofs.aspect.write_aspect.Goals as goal

pub returns-in_err-text-clause-told : goal.returns-in_err-text-clause-told
returns-in_err-text-clause-told g c files reading told reads =
    ends_stopped c.from_residual.result c.from_residual.ensures
    (ends_no_text files _ _ _ (at_start _ _) (c.in_err-text.ensures.told files told) (λ failed. failed))

pub returns-in_err-style-clause-told : goal.returns-in_err-style-clause-told
returns-in_err-style-clause-told g c files reading told reads =
    ends_stopped c.from_residual-in_err-style.result c.from_residual-in_err-style.ensures
    (ends_no_text files _ _ _ (at_text files _ _ _ (at_start _ _) (c.in_ok-text.ensures.told files told))
    (c.in_err-style.ensures.told files (c.in_ok-text.ensures.held ∙ told))
    (λ failed. reads_after c.in_ok-text.ensures.honest c.in_ok-text.ensures.faults failed))

pub returns-in_err-tree-clause-told : goal.returns-in_err-tree-clause-told
returns-in_err-tree-clause-told g c files reading told reads =
    let text : text_in (Word 1) (files (chars c.args.document.now)) ≡ Ok c.in_ok-text.text = c.in_ok-text.ensures.told files told in
    let style : text_in (Word 2) (files (chars c.args.sheet.now)) ≡ Ok c.in_ok-style.style = c.in_ok-style.ensures.told files (c.in_ok-text.ensures.held ∙ told) in
    ends_stopped c.from_residual-in_err-tree.result c.from_residual-in_err-tree.ensures
    (ends_not_given _ (at_text files _ _ _ (at_text files _ _ _ (at_start _ _) text) style)
    (c.in_err-tree.ensures.tree reading (rw c.as_str.ensures.characters (reads c.in_ok-text.text c.in_ok-style.style text style))))

pub returns-in_err-tree-clause-cause : goal.returns-in_err-tree-clause-cause
returns-in_err-tree-clause-cause g c =
    caused_as _ _ _ _ (part_status_is c.from_residual-in_err-tree.result c.from_residual-in_err-tree.ensures) (caused_within _ _ _ _ _ c.in_err-tree.ensures.cause)

pub returns-clause-told : goal.returns-clause-told
returns-clause-told g c files reading told reads =
    let text : text_in (Word 1) (files (chars c.args.document.now)) ≡ Ok c.in_ok-text.text = c.in_ok-text.ensures.told files told in
    let style : text_in (Word 2) (files (chars c.args.sheet.now)) ≡ Ok c.in_ok-style.style = c.in_ok-style.ensures.told files (c.in_ok-text.ensures.held ∙ told) in
    ends_put c.put_aspect.result
    (at_same (λ i. writes (aspect_bytes c.args.aspect.now (sym c.as_str-2.ensures.characters i) c.in_ok-tree.tree) (ends status.Ok))
    (at_value _ (at_text files _ _ _ (at_text files _ _ _ (at_start _ _) text) style)
    (c.in_ok-tree.ensures.tree reading (rw c.as_str.ensures.characters (reads c.in_ok-text.text c.in_ok-style.style text style)))))
    c.put_aspect.ensures.ok c.put_aspect.ensures.failed c.put_aspect.ensures.cause

pub returns-clause-steps : goal.returns-clause-steps
returns-clause-steps g c files reading told reads =
    let text : text_in (Word 1) (files (chars c.args.document.now)) ≡ Ok c.in_ok-text.text = c.in_ok-text.ensures.told files told in
    let style : text_in (Word 2) (files (chars c.args.sheet.now)) ≡ Ok c.in_ok-style.style = c.in_ok-style.ensures.told files (c.in_ok-text.ensures.held ∙ told) in
    let most = most_of reading c.in_ok-tree.tree (c.in_ok-tree.ensures.tree reading (rw c.as_str.ensures.characters (reads c.in_ok-text.text c.in_ok-style.style text style))) in
    omega (arith, most, c.put_aspect.ensures.steps)

pub returns-clause-reads : goal.returns-clause-reads
returns-clause-reads g c files told =
    on_ok c.put_aspect.result (raises_more _ _ _ _ _ _ (c.in_ok-text.ensures.came files told) (c.in_ok-style.ensures.came files (c.in_ok-text.ensures.held ∙ told)) refl)
