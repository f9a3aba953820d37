use Rattle.std.proofs.Common.{◌≡◌, ◌∙◌, ap, arith, inl, inr, refl, subst, sym}
use Rattle.std.specs.Prelude.{Ok}
use Rattle.std.specs.Str.{chars}
use Rattle.marker_cli.specs.declared.status.FileAt.TheVariants.{Word}
use Rattle.marker_cli.specs.Edit.{play}
use Rattle.marker_cli.specs.Ends.{part_status}
use Rattle.marker_cli.specs.Turns.{text_in}
use Rattle.marker_cli.specs.Versions.{Versions, begun}
use Rattle.marker_cli.proofs.EndsLemmas.{at_same, at_start, at_text, at_value, caused_more, ends_no_memory, ends_no_text, ends_not_given, ends_part, ends_stopped, reads_after}
use Rattle.marker_cli.proofs.PlayLemmas.{given_commands}
use Rattle.std.proofs.lemmas.Result.{on_ok_weaker}
use Rattle.ports.proofs.CauseLemmas.{raises_more, rose_above_after, rose_after}
use Rattle.marker_cli.specs.Run.{commands_in, commands_size}
use Rattle.marker_cli.proofs.ReadLemmas.{raised_as}
use Rattle.marker_cli.proofs.StepLemmas.{most_of_script, script_as}
use Rattle.edit_inverses.specs.Versions.{Version}
use Rattle.edit_work.specs.KeyedSources.{KeyedSource}
use Rattle.node_arena.specs.Document.{IsKeyedDocument}
use Rattle.marker_cli.specs.Editors.{document_of, versions_of}
use Rattle.marker_cli.proofs.PlayedLemmas.{script_still, script_taken_as, script_within, version_there}
use Rattle.marker_cli.proofs.edit.edit.Goals as goal

pub returns-in_err-text-clause-told : goal.returns-in_err-text-clause-told
returns-in_err-text-clause-told g c files reading read told reads reads_script =
    ends_stopped c.from_residual.result c.from_residual.ensures
    (ends_no_text files _ _ _ (at_start _ _) (c.in_err-text.ensures.told files told) (λ failed. failed))

pub returns-in_err-style-clause-told : goal.returns-in_err-style-clause-told
returns-in_err-style-clause-told g c files reading read told reads reads_script =
    ends_stopped c.from_residual-in_err-style.result c.from_residual-in_err-style.ensures
    (ends_no_text files _ _ _ (at_text files _ _ _ (at_start _ _) (c.in_ok-text.ensures.told files told))
    (c.in_err-style.ensures.told files (c.in_ok-text.ensures.held ∙ told))
    (λ failed. reads_after c.in_ok-text.ensures.honest c.in_ok-text.ensures.faults failed))

pub returns-in_err-lines-clause-told : goal.returns-in_err-lines-clause-told
returns-in_err-lines-clause-told g c files reading read told reads reads_script =
    let held = c.in_ok-style.ensures.held ∙ c.in_ok-text.ensures.held ∙ told in
    ends_stopped c.from_residual-in_err-lines.result c.from_residual-in_err-lines.ensures
    (ends_no_text files _ _ _ (at_text files _ _ _ (at_text files _ _ _ (at_start _ _) (c.in_ok-text.ensures.told files told))
    (c.in_ok-style.ensures.told files (c.in_ok-text.ensures.held ∙ told)))
    (c.in_err-lines.ensures.told files held)
    (λ failed. reads_after c.in_ok-text.ensures.honest c.in_ok-text.ensures.faults (reads_after c.in_ok-style.ensures.honest c.in_ok-style.ensures.faults failed)))

pub returns-in_err-tree-clause-told : goal.returns-in_err-tree-clause-told
returns-in_err-tree-clause-told g c files reading read told reads reads_script =
    let text : text_in (Word 1) (files (chars c.args.document.now)) ≡ Ok c.in_ok-text.text = c.in_ok-text.ensures.told files told in
    let style : text_in (Word 2) (files (chars c.args.sheet.now)) ≡ Ok c.in_ok-style.style = c.in_ok-style.ensures.told files (c.in_ok-text.ensures.held ∙ told) in
    let lines : text_in (Word 3) (files (chars c.args.script.now)) ≡ Ok c.in_ok-lines.lines = c.in_ok-lines.ensures.told files (c.in_ok-style.ensures.held ∙ c.in_ok-text.ensures.held ∙ told) in
    ends_stopped c.from_residual-in_err-tree.result c.from_residual-in_err-tree.ensures
    (ends_not_given _ (at_text files _ _ _ (at_text files _ _ _ (at_text files _ _ _ (at_start _ _) text) style) lines)
    (c.in_err-tree.ensures.tree reading (rw c.as_str.ensures.characters (reads c.in_ok-text.text c.in_ok-style.style text style))))

pub returns-in_err-commands-clause-told : goal.returns-in_err-commands-clause-told
returns-in_err-commands-clause-told g c files reading read told reads reads_script =
    let text : text_in (Word 1) (files (chars c.args.document.now)) ≡ Ok c.in_ok-text.text = c.in_ok-text.ensures.told files told in
    let style : text_in (Word 2) (files (chars c.args.sheet.now)) ≡ Ok c.in_ok-style.style = c.in_ok-style.ensures.told files (c.in_ok-text.ensures.held ∙ told) in
    let lines : text_in (Word 3) (files (chars c.args.script.now)) ≡ Ok c.in_ok-lines.lines = c.in_ok-lines.ensures.told files (c.in_ok-style.ensures.held ∙ c.in_ok-text.ensures.held ∙ told) in
    ends_stopped c.from_residual-in_err-commands.result c.from_residual-in_err-commands.ensures
    (ends_not_given _ (at_value _ (at_text files _ _ _ (at_text files _ _ _ (at_text files _ _ _ (at_start _ _) text) style) lines)
    (c.in_ok-tree.ensures.tree reading (rw c.as_str.ensures.characters (reads c.in_ok-text.text c.in_ok-style.style text style))))
    (c.in_err-commands.ensures.commands read (rw (c.as_str-2.ensures.characters, c.script_kind.ensures) (reads_script c.in_ok-text.text c.in_ok-style.style c.in_ok-lines.lines text style lines))))

pub returns-in_err-editor-clause-told : goal.returns-in_err-editor-clause-told
returns-in_err-editor-clause-told g c files reading read told reads reads_script =
    let text : text_in (Word 1) (files (chars c.args.document.now)) ≡ Ok c.in_ok-text.text = c.in_ok-text.ensures.told files told in
    let style : text_in (Word 2) (files (chars c.args.sheet.now)) ≡ Ok c.in_ok-style.style = c.in_ok-style.ensures.told files (c.in_ok-text.ensures.held ∙ told) in
    let lines : text_in (Word 3) (files (chars c.args.script.now)) ≡ Ok c.in_ok-lines.lines = c.in_ok-lines.ensures.told files (c.in_ok-style.ensures.held ∙ c.in_ok-text.ensures.held ∙ told) in
    ends_stopped c.from_residual-in_err-editor.result c.from_residual-in_err-editor.ensures
    (ends_no_memory (at_value _ (at_value _ (at_text files _ _ _ (at_text files _ _ _ (at_text files _ _ _ (at_start _ _) text) style) lines)
    (c.in_ok-tree.ensures.tree reading (rw c.as_str.ensures.characters (reads c.in_ok-text.text c.in_ok-style.style text style))))
    (c.in_ok-commands.ensures.commands read (rw (c.as_str-2.ensures.characters, c.script_kind.ensures) (reads_script c.in_ok-text.text c.in_ok-style.style c.in_ok-lines.lines text style lines)))) refl)

pub returns-clause-told : goal.returns-clause-told
returns-clause-told g c files reading read told reads reads_script =
    let text : text_in (Word 1) (files (chars c.args.document.now)) ≡ Ok c.in_ok-text.text = c.in_ok-text.ensures.told files told in
    let style : text_in (Word 2) (files (chars c.args.sheet.now)) ≡ Ok c.in_ok-style.style = c.in_ok-style.ensures.told files (c.in_ok-text.ensures.held ∙ told) in
    let lines : text_in (Word 3) (files (chars c.args.script.now)) ≡ Ok c.in_ok-lines.lines = c.in_ok-lines.ensures.told files (c.in_ok-style.ensures.held ∙ c.in_ok-text.ensures.held ∙ told) in
    ends_part _ _
    (at_same (λ i. play files (sym c.in_ok-editor.ensures.depth i) (sym c.as_slice.ensures.items i)
    (sym (c.in_ok-editor.ensures.versions ∙ ap (λ sheet. begun (record { document = c.in_ok-tree.tree; sheet = sheet })) c.as_str-3.ensures.characters) i))
    (at_value _ (at_value _ (at_text files _ _ _ (at_text files _ _ _ (at_text files _ _ _ (at_start _ _) text) style) lines)
    (c.in_ok-tree.ensures.tree reading (rw c.as_str.ensures.characters (reads c.in_ok-text.text c.in_ok-style.style text style))))
    (c.in_ok-commands.ensures.commands read (rw (c.as_str-2.ensures.characters, c.script_kind.ensures) (reads_script c.in_ok-text.text c.in_ok-style.style c.in_ok-lines.lines text style lines)))))
    (c.play.ensures.told files (c.in_ok-lines.ensures.held ∙ c.in_ok-style.ensures.held ∙ c.in_ok-text.ensures.held ∙ told))
    (λ failed. reads_after (c.in_ok-lines.ensures.honest ∙ c.in_ok-style.ensures.honest ∙ c.in_ok-text.ensures.honest) (omega (arith, c.in_ok-text.ensures.faults, c.in_ok-style.ensures.faults, c.in_ok-lines.ensures.faults)) failed)
    (λ failed. failed)

pub returns-clause-commands : goal.returns-clause-commands
returns-clause-commands g c files read told reads_script tells =
    let text : text_in (Word 1) (files (chars c.args.document.now)) ≡ Ok c.in_ok-text.text = c.in_ok-text.ensures.told files told in
    let style : text_in (Word 2) (files (chars c.args.sheet.now)) ≡ Ok c.in_ok-style.style = c.in_ok-style.ensures.told files (c.in_ok-text.ensures.held ∙ told) in
    let lines : text_in (Word 3) (files (chars c.args.script.now)) ≡ Ok c.in_ok-lines.lines = c.in_ok-lines.ensures.told files (c.in_ok-style.ensures.held ∙ c.in_ok-text.ensures.held ∙ told) in
    given_commands read _ (c.in_ok-commands.ensures.commands read (rw (c.as_str-2.ensures.characters, c.script_kind.ensures) (reads_script c.in_ok-text.text c.in_ok-style.style c.in_ok-lines.lines text style lines)))

pub returns-clause-reads : goal.returns-clause-reads
returns-clause-reads g c files read told reads_script =
    let text : text_in (Word 1) (files (chars c.args.document.now)) ≡ Ok c.in_ok-text.text = c.in_ok-text.ensures.told files told in
    let style : text_in (Word 2) (files (chars c.args.sheet.now)) ≡ Ok c.in_ok-style.style = c.in_ok-style.ensures.told files (c.in_ok-text.ensures.held ∙ told) in
    let held = c.in_ok-style.ensures.held ∙ c.in_ok-text.ensures.held ∙ told in
    let lines : text_in (Word 3) (files (chars c.args.script.now)) ≡ Ok c.in_ok-lines.lines = c.in_ok-lines.ensures.told files held in
    let given = given_commands read _ (c.in_ok-commands.ensures.commands read (rw (c.as_str-2.ensures.characters, c.script_kind.ensures) (reads_script c.in_ok-text.text c.in_ok-style.style c.in_ok-lines.lines text style lines))) in
    on_ok_weaker c.play.result
    (λ played. raises_more _ _ _ _ _ _ (c.in_ok-text.ensures.came files told)
    (raises_more _ _ _ _ _ _ (c.in_ok-style.ensures.came files (c.in_ok-text.ensures.held ∙ told))
    (raises_more _ _ _ _ _ _ (c.in_ok-lines.ensures.came files held)
    (raised_as (ap (λ r. commands_size files (commands_in r)) given ∙ ap (λ cs. commands_size files cs) (sym c.as_slice.ensures.items)) played) refl) refl) refl)
    (c.play.ensures.reads files (c.in_ok-lines.ensures.held ∙ held))

pub returns-clause-cause : goal.returns-clause-cause
returns-clause-cause g c =
    caused_more (part_status c.play.result)
    (λ rose. rose_after _ _ _ (omega (arith, c.in_ok-text.ensures.faults, c.in_ok-style.ensures.faults, c.in_ok-lines.ensures.faults)) rose)
    (λ rose. rose_above_after 16777216 _ _ _ (omega (arith, c.in_ok-text.ensures.taken, c.in_ok-style.ensures.taken, c.in_ok-lines.ensures.taken)) rose)
    (λ rose. rose)
    c.play.ensures.cause

pub returns-in_err-editor-clause-steps : goal.returns-in_err-editor-clause-steps
returns-in_err-editor-clause-steps g c files reading read told reads reads_script =
    let text : text_in (Word 1) (files (chars c.args.document.now)) ≡ Ok c.in_ok-text.text = c.in_ok-text.ensures.told files told in
    let style : text_in (Word 2) (files (chars c.args.sheet.now)) ≡ Ok c.in_ok-style.style = c.in_ok-style.ensures.told files (c.in_ok-text.ensures.held ∙ told) in
    let held = c.in_ok-style.ensures.held ∙ c.in_ok-text.ensures.held ∙ told in
    let lines : text_in (Word 3) (files (chars c.args.script.now)) ≡ Ok c.in_ok-lines.lines = c.in_ok-lines.ensures.told files held in
    let most = most_of_script files _ _ _ c.args.depth reading read _ _ _ _ _ text style lines
    (c.in_ok-tree.ensures.tree reading (rw c.as_str.ensures.characters (reads c.in_ok-text.text c.in_ok-style.style text style)))
    (c.in_ok-commands.ensures.commands read (rw (c.as_str-2.ensures.characters, c.script_kind.ensures) (reads_script c.in_ok-text.text c.in_ok-style.style c.in_ok-lines.lines text style lines))) in
    omega (arith, most, c.in_err-editor.ensures.steps)

pub returns-clause-steps : goal.returns-clause-steps
returns-clause-steps g c files reading read told reads reads_script =
    let text : text_in (Word 1) (files (chars c.args.document.now)) ≡ Ok c.in_ok-text.text = c.in_ok-text.ensures.told files told in
    let style : text_in (Word 2) (files (chars c.args.sheet.now)) ≡ Ok c.in_ok-style.style = c.in_ok-style.ensures.told files (c.in_ok-text.ensures.held ∙ told) in
    let held = c.in_ok-style.ensures.held ∙ c.in_ok-text.ensures.held ∙ told in
    let lines : text_in (Word 3) (files (chars c.args.script.now)) ≡ Ok c.in_ok-lines.lines = c.in_ok-lines.ensures.told files held in
    let most = most_of_script files _ _ _ c.args.depth reading read _ _ _ _ _ text style lines
    (c.in_ok-tree.ensures.tree reading (rw c.as_str.ensures.characters (reads c.in_ok-text.text c.in_ok-style.style text style)))
    (c.in_ok-commands.ensures.commands read (rw (c.as_str-2.ensures.characters, c.script_kind.ensures) (reads_script c.in_ok-text.text c.in_ok-style.style c.in_ok-lines.lines text style lines))) in
    let same = script_as files _ _ _ _ _ _ c.in_ok-editor.ensures.depth c.as_slice.ensures.items
    (c.in_ok-editor.ensures.versions ∙ ap (λ sheet. begun (record { document = c.in_ok-tree.tree; sheet = sheet })) c.as_str-3.ensures.characters) in
    let played = c.play.ensures.steps files (c.in_ok-lines.ensures.held ∙ held) in
    omega (arith, most, same, c.in_ok-editor.ensures.steps, played)

pub returns-in_err-text-clause-within_work : goal.returns-in_err-text-clause-within_work
returns-in_err-text-clause-within_work g c files reading read told reads reads_script = script_still files _ _ _ c.args.depth reading read _ _ (omega arith)

pub returns-in_err-style-clause-within_work : goal.returns-in_err-style-clause-within_work
returns-in_err-style-clause-within_work g c files reading read told reads reads_script = script_still files _ _ _ c.args.depth reading read _ _ (omega arith)

pub returns-in_err-lines-clause-within_work : goal.returns-in_err-lines-clause-within_work
returns-in_err-lines-clause-within_work g c files reading read told reads reads_script = script_still files _ _ _ c.args.depth reading read _ _ (omega arith)

pub returns-in_err-tree-clause-within_work : goal.returns-in_err-tree-clause-within_work
returns-in_err-tree-clause-within_work g c files reading read told reads reads_script = script_still files _ _ _ c.args.depth reading read _ _ (omega arith)

pub returns-in_err-commands-clause-within_work : goal.returns-in_err-commands-clause-within_work
returns-in_err-commands-clause-within_work g c files reading read told reads reads_script = script_still files _ _ _ c.args.depth reading read _ _ (omega arith)

pub returns-in_err-editor-clause-within_work : goal.returns-in_err-editor-clause-within_work
returns-in_err-editor-clause-within_work g c files reading read told reads reads_script =
    let text : text_in (Word 1) (files (chars c.args.document.now)) ≡ Ok c.in_ok-text.text = c.in_ok-text.ensures.told files told in
    let style : text_in (Word 2) (files (chars c.args.sheet.now)) ≡ Ok c.in_ok-style.style = c.in_ok-style.ensures.told files (c.in_ok-text.ensures.held ∙ told) in
    let held = c.in_ok-style.ensures.held ∙ c.in_ok-text.ensures.held ∙ told in
    let lines : text_in (Word 3) (files (chars c.args.script.now)) ≡ Ok c.in_ok-lines.lines = c.in_ok-lines.ensures.told files held in
    script_within files _ _ _ c.args.depth reading read _ _ _ _ _ _ _ text style lines
    (c.in_ok-tree.ensures.tree reading (rw c.as_str.ensures.characters (reads c.in_ok-text.text c.in_ok-style.style text style)))
    (c.in_ok-commands.ensures.commands read (rw (c.as_str-2.ensures.characters, c.script_kind.ensures) (reads_script c.in_ok-text.text c.in_ok-style.style c.in_ok-lines.lines text style lines)))
    (inl c.in_err-editor.ensures.steps)

pub returns-clause-within_work : goal.returns-clause-within_work
returns-clause-within_work g c files reading read told reads reads_script =
    let text : text_in (Word 1) (files (chars c.args.document.now)) ≡ Ok c.in_ok-text.text = c.in_ok-text.ensures.told files told in
    let style : text_in (Word 2) (files (chars c.args.sheet.now)) ≡ Ok c.in_ok-style.style = c.in_ok-style.ensures.told files (c.in_ok-text.ensures.held ∙ told) in
    let held = c.in_ok-style.ensures.held ∙ c.in_ok-text.ensures.held ∙ told in
    let lines : text_in (Word 3) (files (chars c.args.script.now)) ≡ Ok c.in_ok-lines.lines = c.in_ok-lines.ensures.told files held in
    let version : Version = record { document = c.in_ok-tree.tree; sheet = c.in_ok-style.style } in
    let is : versions_of c.in_ok-editor.editor ≡ begun version =
    c.in_ok-editor.ensures.versions ∙ ap (λ sheet. begun (record { document = c.in_ok-tree.tree; sheet = sheet })) c.as_str-3.ensures.characters in
    let played = c.play.ensures.takes files (c.in_ok-lines.ensures.held ∙ held) in
    script_within files _ _ _ c.args.depth reading read _ _ _ _ _ _ _ text style lines
    (c.in_ok-tree.ensures.tree reading (rw c.as_str.ensures.characters (reads c.in_ok-text.text c.in_ok-style.style text style)))
    (c.in_ok-commands.ensures.commands read (rw (c.as_str-2.ensures.characters, c.script_kind.ensures) (reads_script c.in_ok-text.text c.in_ok-style.style c.in_ok-lines.lines text style lines)))
    (inr (record {
      source = document_of c.in_ok-editor.editor;
      keyed = subst (λ (source : KeyedSource). IsKeyedDocument source.tree) c.engine.ensures.document c.engine_holds_document.ensures;
      version_is = sym (version_there c.in_ok-editor.editor) ∙ ap (λ (versions : Versions). versions.present) is;
      taken = played.0;
      takes = script_taken_as files _ _ _ _ _ _ _ played.0 c.in_ok-editor.ensures.depth c.as_slice.ensures.items is played.1;
      all = omega (arith, c.in_ok-editor.ensures.steps, played.2);
    }))
