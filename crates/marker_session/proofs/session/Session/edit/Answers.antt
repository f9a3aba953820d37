use Rattle.std.proofs.Common.{◌≡◌, ◌≤◌, ◌+◌, ◌*◌, ℕ, Ok, IfOk, length, subst, sym}
use Rattle.changed_lines.specs.Changes.{changed_lines}
use Rattle.dirty_walk.specs.Books.{StyledDocument, keyed_source}
use Rattle.dirty_walk.specs.WorkBounds.{IsWithinWork}
use Rattle.document_walk.specs.Elements.{element_count}
use Rattle.marker_engine.specs.Edited.{edited}
use Rattle.marker_engine.specs.Engines.{source_of}
use Rattle.plain_types.specs.declared.edit.Edit.{Edit}
use Rattle.ports.proofs.GrownLemmas.{on_err}
use Rattle.marker_session.specs.Lines.{StopsOnEdit, PaysForChangedLines}
use Rattle.marker_session.specs.Sessions.{OpenDocument}
use Rattle.marker_session.proofs.session.Session.edit.Goals as goal

-- where an edit is done, the document that it makes of the old one is the new one
of_done : (edit : Edit) (old new : StyledDocument) (before after : ℕ) → edited (source_of old) edit ≡ Ok (source_of new)
    → IfOk (edited (source_of old) edit) (λ source. after ≤ before + ((12 * element_count source.tree + 2 * element_count (source_of old).tree) + length (changed_lines (keyed_source old) (keyed_source new))))
    → PaysForChangedLines old new before after
of_done edit old new before after done within = rw done at within

-- the document is not changed any more once its lines are told
pub returns-clause-within_work : goal.returns-clause-within_work
returns-clause-within_work g c =
    subst (λ (new : StyledDocument). IsWithinWork c.args.edit.now (keyed_source c.args.self.now.styled) (keyed_source new) c.args.steps.now c.apply_and_tell.new.steps)
    (sym c.list.ensures.styled)
    (subst (λ (old : OpenDocument). IsWithinWork c.args.edit.now (keyed_source old.styled) (keyed_source c.apply_and_tell.new.self) c.args.steps.now c.apply_and_tell.new.steps)
    c.self.view_is c.in_ok-told.ensures.within_work)

pub returns-clause-line_steps : goal.returns-clause-line_steps
returns-clause-line_steps g c =
    subst (λ (new : StyledDocument). PaysForChangedLines c.args.self.now.styled new c.args.steps.now c.apply_and_tell.new.steps)
    (sym c.list.ensures.styled)
    (subst (λ (old : OpenDocument). PaysForChangedLines old.styled c.apply_and_tell.new.self c.args.steps.now c.apply_and_tell.new.steps)
    c.self.view_is (of_done c.args.edit.now c.self.inside.engine c.apply_and_tell.new.self c.args.steps.now c.apply_and_tell.new.steps c.in_ok-told.ensures.ok c.apply_and_tell.ensures.line_steps))

pub returns-in_err-told-clause-stops : goal.returns-in_err-told-clause-stops
returns-in_err-told-clause-stops g c =
    on_err _
    (subst (λ (old : OpenDocument). StopsOnEdit c.args.edit.now old.styled c.args.steps.now c.apply_and_tell.new.steps) c.self.view_is
    (record { within_work = c.in_err-told.ensures.stops_within_work; most = c.apply_and_tell.ensures.steps }))
