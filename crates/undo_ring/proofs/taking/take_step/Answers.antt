use Rattle.std.proofs.Common.{◌≡◌, ◌≤◌, ◌+◌, Option, Some, None, IfSome, IsSomeAnd, [], refl, sym, ap, subst, ◌∙◌, inl, arith}
use Rattle.circular_buffer.specs.Buffer.{Buffer}
use Rattle.dirty_walk.specs.Books.{StyledDocument, keyed_source}
use Rattle.dirty_walk.specs.WorkBounds.{IsWithinWork, StopsWithinWork}
use Rattle.edit_inverses.specs.Laws.{IsAllowed}
use Rattle.forest.specs.Forest.{Forest}
use Rattle.forest.specs.Keys.{Keyed, without_keys}
use Rattle.std.specs.Str.{chars}
use Rattle.node_arena.specs.Edits.{IsEdited, place_fault}
use Rattle.plain_types.specs.declared.edit.Edit.{Edit}
use Rattle.plain_types.specs.declared.node.Node.{Node}
use Rattle.ports.proofs.GrownLemmas.{on_err}
use Rattle.undo_ring.specs.Histories.{version_of}
use Rattle.undo_ring.specs.StepsTaken.{TakesStep, most_steps}
use Rattle.undo_ring.proofs.Moves.{first_place, none_is, not_nothing, some_edits, step_by}
use Rattle.undo_ring.proofs.taking.take_step.Goals as goal

pub returns-in_default-clause-nothing : goal.returns-in_default-clause-nothing
returns-in_default-clause-nothing g c = ((λ e. none_is c.args.from.now.items (sym c.in_default.ensures)), (λ none. refl))

pub inverse_of-requires : goal.inverse_of-requires
inverse_of-requires g c =
    ap (λ (tree : Forest (Keyed Node)). place_fault c.in-Some.edit.now (without_keys tree)) (c.arena.ensures.tree ∙ ap (λ (book : StyledDocument). book.tree) c.book.ensures.book)
    ∙ first_place c.args.from.now.items c.in-Some.edit.now (version_of c.args.engine.now) (sym c.in-Some.ensures) c.requires

pub do_edit-requires : goal.do_edit-requires
do_edit-requires g c = first_place c.args.from.now.items c.in-Some.edit.now (version_of c.args.engine.now) (sym c.in-Some.ensures) c.requires

pub returns-in_err-inverse-clause-nothing : goal.returns-in_err-inverse-clause-nothing
returns-in_err-inverse-clause-nothing g c =
    ((λ e. absurd (not_nothing c.from_residual.result c.from_residual.ensures e)), (λ none. absurd (some_edits c.args.from.now.items c.in-Some.edit.now (sym c.in-Some.ensures) none)))

pub returns-in_err-inverse-clause-stops_within_work : goal.returns-in_err-inverse-clause-stops_within_work
returns-in_err-inverse-clause-stops_within_work g c =
    on_err c.from_residual.result
    (subst (λ (o : Option Edit). IfSome o (λ edit. StopsWithinWork edit (keyed_source c.args.engine.now) c.args.steps.now c.args.steps.now)) c.in-Some.ensures (inl refl))

pub returns-in_err-inverse-clause-steps : goal.returns-in_err-inverse-clause-steps
returns-in_err-inverse-clause-steps g c =
    subst (λ (o : Option Edit). IfSome o (λ edit. c.args.steps.now ≤ c.args.steps.now + most_steps edit (version_of c.args.engine.now))) c.in-Some.ensures (omega arith)

pub returns-clause-ok : goal.returns-clause-ok
returns-clause-ok g c =
    subst (λ (o : Option Edit). IsSomeAnd o (λ edit. TakesStep edit c.args.engine.now c.do_edit.new.engine c.args.from.now c.pop_front-done.new.self c.args.to.now c.push_front-last.new.self)) c.in-Some.ensures
    (step_by c.in-Some.edit.now c.in_ok-inverse.inverse c.args.engine.now c.do_edit.new.engine c.arena.result.now.tree (chars c.sheet.result.now)
    c.args.from.now c.pop_front-done.new.self c.args.to.now c.push_front-last.new.self
    (c.arena.ensures.tree ∙ ap (λ (book : StyledDocument). book.tree) c.book.ensures.book) c.sheet.ensures.text c.in_ok-inverse.ensures.allowed c.in_ok-inverse.ensures.inverse
    c.in_ok-do_edit.ensures.done c.pop_front-done.ensures.items c.push_front-last.ensures.items)

pub returns-clause-keys : goal.returns-clause-keys
returns-clause-keys g c =
    subst (λ (o : Option Edit). IfSome o (λ edit. IsEdited edit c.args.engine.now.tree c.do_edit.new.engine.tree)) c.in-Some.ensures c.in_ok-do_edit.ensures.keys

pub returns-clause-nothing : goal.returns-clause-nothing
returns-clause-nothing g c = ((λ e. absurd (cc)), (λ none. absurd (some_edits c.args.from.now.items c.in-Some.edit.now (sym c.in-Some.ensures) none)))

pub returns-clause-within_work : goal.returns-clause-within_work
returns-clause-within_work g c =
    subst (λ (o : Option Edit). IfSome o (λ edit. IsWithinWork edit (keyed_source c.args.engine.now) (keyed_source c.do_edit.new.engine) c.args.steps.now c.do_edit.new.steps)) c.in-Some.ensures c.in_ok-do_edit.ensures.within_work

pub returns-clause-steps : goal.returns-clause-steps
returns-clause-steps g c =
    subst (λ (o : Option Edit). IfSome o (λ edit. c.do_edit.new.steps ≤ c.args.steps.now + most_steps edit (version_of c.args.engine.now))) c.in-Some.ensures c.do_edit.ensures.steps

pub returns-in_err-do_edit-clause-nothing : goal.returns-in_err-do_edit-clause-nothing
returns-in_err-do_edit-clause-nothing g c =
    ((λ e. absurd (not_nothing c.from_residual-in_err-do_edit.result c.from_residual-in_err-do_edit.ensures e)), (λ none. absurd (some_edits c.args.from.now.items c.in-Some.edit.now (sym c.in-Some.ensures) none)))

pub returns-in_err-do_edit-clause-steps : goal.returns-in_err-do_edit-clause-steps
returns-in_err-do_edit-clause-steps g c =
    subst (λ (o : Option Edit). IfSome o (λ edit. c.do_edit.new.steps ≤ c.args.steps.now + most_steps edit (version_of c.args.engine.now))) c.in-Some.ensures c.do_edit.ensures.steps

pub returns-in_err-do_edit-clause-stops_within_work : goal.returns-in_err-do_edit-clause-stops_within_work
returns-in_err-do_edit-clause-stops_within_work g c =
    on_err c.from_residual-in_err-do_edit.result
    (subst (λ (o : Option Edit). IfSome o (λ edit. StopsWithinWork edit (keyed_source c.args.engine.now) c.args.steps.now c.do_edit.new.steps)) c.in-Some.ensures c.in_err-do_edit.ensures.stops_within_work)
