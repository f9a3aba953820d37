use Rattle.std.proofs.Common.{◌≡◌, ◌↔◌, ◌∙◌, [], Err, ap, subst, OnOk, OnErr, IfSome, slice_get}
use Rattle.std.proofs.lemmas.Result.{on_err_weaker, on_ok_weaker}
use Rattle.circular_buffer.specs.Buffer.{Buffer}
use Rattle.dirty_walk.specs.Books.{keyed_source}
use Rattle.dirty_walk.specs.WorkBounds.{IsWithinWork, StopsWithinWork}
use Rattle.node_arena.specs.Edits.{IsEdited}
use Rattle.undo_ring.specs.Histories.{AreRings, EditHistory, in_rings, future, version_of}
use Rattle.undo_ring.specs.declared.undo_fault.UndoFault.TheVariants.{Nothing}
use Rattle.plain_types.specs.declared.edit.Edit.{Edit}
use Rattle.undo_ring.proofs.Moves.{IsRedone, either, no_edits, same_history, still_rings, told_none, told_steps_forth, redone_ok}
use Rattle.undo_ring.proofs.history.History.redo.Goals as goal

pub invariant_of-self : goal.invariant_of-self
invariant_of-self g c =
    either c.take_step.result
    (redone_ok c.take_step.result c.self.inside.engine c.take_step.new.engine c.args.self.now (c.self.inside.undos, c.self.inside.redos) (c.take_step.new.to, c.take_step.new.from) c.self.invariant c.self.view_is c.take_step.ensures.ok)
    c.take_step.ensures.failed
    (λ both. both.0)
    (λ same. still_rings c.self.inside.engine c.take_step.new.engine c.self.inside.undos c.take_step.new.to c.self.inside.redos c.take_step.new.from c.self.invariant same.0 same.2 same.1)

pub returns-clause-past : goal.returns-clause-past
returns-clause-past g c =
    on_ok_weaker c.take_step.result (λ both. both.1.past)
    (redone_ok c.take_step.result c.self.inside.engine c.take_step.new.engine c.args.self.now (c.self.inside.undos, c.self.inside.redos) (c.take_step.new.to, c.take_step.new.from) c.self.invariant c.self.view_is c.take_step.ensures.ok)

pub returns-clause-future : goal.returns-clause-future
returns-clause-future g c =
    on_ok_weaker c.take_step.result (λ both. both.1.future)
    (redone_ok c.take_step.result c.self.inside.engine c.take_step.new.engine c.args.self.now (c.self.inside.undos, c.self.inside.redos) (c.take_step.new.to, c.take_step.new.from) c.self.invariant c.self.view_is c.take_step.ensures.ok)

pub returns-clause-nothing : goal.returns-clause-nothing
returns-clause-nothing g c =
    subst (λ (old : EditHistory). (c.take_step.result ≡ Err Nothing) ↔ (future old ≡ [])) c.self.view_is
    (told_none c.self.inside.redos.items (version_of c.self.inside.engine) c.take_step.ensures.nothing)

pub returns-clause-failed : goal.returns-clause-failed
returns-clause-failed g c =
    on_err_weaker c.take_step.result
    (λ same. same_history c.self.inside.engine c.take_step.new.engine c.self.inside.undos c.take_step.new.to c.self.inside.redos c.take_step.new.from same.0 same.2 same.1 ∙ c.self.view_is)
    c.take_step.ensures.failed

pub returns-clause-depth : goal.returns-clause-depth
returns-clause-depth g c =
    either c.take_step.result
    (redone_ok c.take_step.result c.self.inside.engine c.take_step.new.engine c.args.self.now (c.self.inside.undos, c.self.inside.redos) (c.take_step.new.to, c.take_step.new.from) c.self.invariant c.self.view_is c.take_step.ensures.ok)
    c.take_step.ensures.failed
    (λ both. both.1.depth)
    (λ same. ap (λ (b : Buffer Edit). b.capacity) same.2 ∙ ap (λ (h : EditHistory). h.depth) c.self.view_is)

pub returns-clause-keys : goal.returns-clause-keys
returns-clause-keys g c =
    subst (λ (old : EditHistory). OnOk c.take_step.result (IfSome (slice_get old.redos 0) (λ edit. IsEdited edit old.book.tree c.take_step.new.engine.tree))) c.self.view_is c.take_step.ensures.keys

pub returns-clause-within_work : goal.returns-clause-within_work
returns-clause-within_work g c =
    subst (λ (old : EditHistory). OnOk c.take_step.result (IfSome (slice_get old.redos 0) (λ edit. IsWithinWork edit (keyed_source old.book) (keyed_source c.take_step.new.engine) c.args.steps.now c.take_step.new.steps))) c.self.view_is c.take_step.ensures.within_work

pub returns-clause-stops_within_work : goal.returns-clause-stops_within_work
returns-clause-stops_within_work g c =
    subst (λ (old : EditHistory). OnErr c.take_step.result (IfSome (slice_get old.redos 0) (λ edit. StopsWithinWork edit (keyed_source old.book) c.args.steps.now c.take_step.new.steps))) c.self.view_is c.take_step.ensures.stops_within_work

pub returns-clause-steps : goal.returns-clause-steps
returns-clause-steps g c = told_steps_forth (in_rings c.self.inside.engine c.self.inside.undos c.self.inside.redos) c.args.self.now c.take_step.new.steps c.args.steps.now c.self.view_is c.take_step.ensures.steps

pub returns-clause-no_steps : goal.returns-clause-no_steps
returns-clause-no_steps g c =
    subst (λ (old : EditHistory). future old ≡ [] → c.take_step.new.steps ≡ c.args.steps.now) c.self.view_is
    (λ none. c.take_step.ensures.no_steps (no_edits c.self.inside.redos.items (version_of c.self.inside.engine) none))
