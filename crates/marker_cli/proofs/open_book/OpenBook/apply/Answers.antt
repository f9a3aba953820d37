use Rattle.std.proofs.Common.{◌≡◌, ◌≤◌, ◌+◌, IfErr, IfSome, subst, ◌∙◌, ap}
use Rattle.std.specs.Prelude.{None, Err}
use Rattle.std.proofs.lemmas.Result.{on_ok_weaker}
use Rattle.marker_engine.specs.Edited.{edit_fault}
use Rattle.marker_engine.specs.declared.edit_fault.EditFault.TheVariants as faults
use Rattle.node_arena.specs.Edits.{place_fault}
use Rattle.marker_cli.specs.EditSteps.{edit_steps}
use Rattle.marker_cli.specs.Machinery.Takings.{TakesEdit}
use Rattle.marker_cli.specs.OpenBooks.{OpenBook, edited_book, version_in}
use Rattle.marker_cli.specs.OpenVolumes.{OpenVolume, book_of, present_document, with_document}
use Rattle.marker_cli.proofs.OpenBookLemmas.{chapter_took, edit_done, edit_left, edit_placed, edit_refused, edit_unmade, edit_within}
use Rattle.marker_cli.proofs.open_book.OpenBook.apply.Goals as goal

pub returns-clause-place : goal.returns-clause-place
returns-clause-place g c =
    on_ok_weaker c.apply-outcome.result
    (λ is. subst (λ (book : OpenBook). place_fault c.args.edit.now book.present.tree ≡ None) (ap book_of c.self.view_is)
    (edit_placed c.self.inside.volume c.self.inside.present c.self.invariant c.args.edit.now c.apply-outcome.new.self is))
    c.apply-outcome.ensures.ok

pub returns-clause-done : goal.returns-clause-done
returns-clause-done g c =
    on_ok_weaker c.apply-outcome.result
    (λ is. edit_done c.self.inside.volume c.self.inside.present c.self.invariant c.args.edit.now c.apply-outcome.new.self is ∙ ap (edited_book c.args.edit.now) (ap book_of c.self.view_is))
    c.apply-outcome.ensures.ok

pub returns-clause-refused : goal.returns-clause-refused
returns-clause-refused g c =
    subst (λ (book : OpenBook). IfSome (place_fault c.args.edit.now book.present.tree) (λ fault. c.apply-outcome.result ≡ Err (edit_fault fault))) (ap book_of c.self.view_is)
    (edit_refused c.self.inside.volume c.self.inside.present c.self.invariant c.args.edit.now c.apply-outcome.result c.apply-outcome.ensures.refused)

pub returns-clause-memory : goal.returns-clause-memory
returns-clause-memory g c =
    subst (λ (book : OpenBook). place_fault c.args.edit.now book.present.tree ≡ None → IfErr c.apply-outcome.result (λ fault. fault ≡ faults.Memory)) (ap book_of c.self.view_is)
    (edit_unmade c.self.inside.volume c.self.inside.present c.self.invariant c.args.edit.now c.apply-outcome.result c.apply-outcome.ensures.memory)

pub returns-clause-steps : goal.returns-clause-steps
returns-clause-steps g c =
    subst (λ (book : OpenBook). c.apply-outcome.new.steps ≤ c.args.steps.now + edit_steps (version_in book.present) c.args.edit.now) (ap book_of c.self.view_is)
    (edit_within c.self.inside.volume c.self.inside.present c.self.invariant c.args.edit.now c.apply-outcome.new.steps c.args.steps.now c.apply-outcome.ensures.steps c.apply-outcome.ensures.no_steps)

pub returns-clause-left : goal.returns-clause-left
returns-clause-left g c =
    let new : OpenVolume = record { chapters = c.apply-outcome.new.self; place = c.self.inside.present } in
    on_ok_weaker c.apply-outcome.result
    (λ is. subst (λ (volume : OpenVolume). new ≡ with_document volume (present_document new)) c.self.view_is
    (edit_left c.self.inside.volume c.self.inside.present c.self.invariant c.args.edit.now c.apply-outcome.new.self is))
    c.apply-outcome.ensures.ok

pub returns-clause-takes : goal.returns-clause-takes
returns-clause-takes g c =
    let new : OpenVolume = record { chapters = c.apply-outcome.new.self; place = c.self.inside.present } in
    subst (λ (volume : OpenVolume). TakesEdit c.apply-outcome.result c.args.edit.now (present_document volume) (present_document new) c.args.steps.now c.apply-outcome.new.steps) c.self.view_is
    (chapter_took c.self.inside.volume c.self.inside.present c.self.invariant c.args.edit.now c.apply-outcome.result c.apply-outcome.new.self c.apply-outcome.new.steps c.args.steps.now
    c.volume_holds_chapters.ensures.volume c.volume_holds_chapters-2.ensures.volume c.inserts_one_tree.ensures c.apply-outcome.ensures.ok c.apply-outcome.ensures.within_work
    c.apply-outcome.ensures.stops_within_work
    (edit_within c.self.inside.volume c.self.inside.present c.self.invariant c.args.edit.now c.apply-outcome.new.steps c.args.steps.now c.apply-outcome.ensures.steps c.apply-outcome.ensures.no_steps)
    c.apply-outcome.ensures.failed)
