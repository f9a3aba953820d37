use Rattle.std.proofs.Common.{◌≡◌, ◌≤◌, ◌+◌, ◌*◌, [], ◌∷◌, take, None, Some, Ok, Err, IfOk, IfErr, OnOk, OnErr, refl, sym, ap, subst, ◌∙◌, inl, arith}
use Rattle.circular_buffer.specs.Buffer.{Buffer}
use Rattle.dirty_walk.specs.Books.{StyledDocument, keyed_source}
use Rattle.dirty_walk.specs.WorkBounds.{IsWithinWork, StopsWithinWork}
use Rattle.document_walk.specs.Elements.{element_count}
use Rattle.std.specs.Str.{chars}
use Rattle.edit_inverses.specs.Versions.{AreSameVersions, versions_after}
use Rattle.forest.specs.Forest.{Forest}
use Rattle.forest.specs.Keys.{Keyed, without_keys}
use Rattle.marker_engine.specs.Edited.{edit_fault, edited}
use Rattle.marker_engine.specs.Engines.{source_of}
use Rattle.marker_engine.specs.declared.edit_fault.EditFault.TheVariants.{Memory}
use Rattle.node_arena.specs.Edits.{IsEdited, place_fault}
use Rattle.plain_types.specs.declared.node.Node.{Node}
use Rattle.ports.proofs.GrownLemmas.{on_err}
use Rattle.undo_ring.specs.Histories.{AreRings, EditHistory, future, in_rings, past, present, version_of}
use Rattle.undo_ring.proofs.Moves.{applied_by}
use Rattle.undo_ring.proofs.EngineFacts.{allowed_ok, done_is, err_all, err_is, handed_on, not_refused, ok_all, refusal, told_not_allowed, told_refused, untold_allowed}
use Rattle.undo_ring.proofs.history.History.apply.Goals as goal

-- The edit is refused.

pub returns-in-Some-clause-refused : goal.returns-in-Some-clause-refused
returns-in-Some-clause-refused g c =
    subst (λ (told : EditHistory). IfErr (edited (source_of told.book) c.args.edit.now) (λ cause. refusal c.in-Some.fault ≡ refusal (edit_fault cause))) c.self.view_is
    (told_refused (edited (source_of c.self.inside.engine) c.args.edit.now) c.in-Some.fault c.in-Some.ensures.refused)

pub returns-in-Some-clause-memory : goal.returns-in-Some-clause-memory
returns-in-Some-clause-memory g c =
    subst (λ (told : EditHistory). IfOk (edited (source_of told.book) c.args.edit.now) (λ source. c.in-Some.fault ≡ Memory)) c.self.view_is
    (told_not_allowed _ (edited (source_of c.self.inside.engine) c.args.edit.now) c.in-Some.fault c.in-Some.ensures.allowed)

pub returns-in-Some-clause-steps : goal.returns-in-Some-clause-steps
returns-in-Some-clause-steps g c = ok_all _ (edited (source_of c.args.self.now.book) c.args.edit.now) (λ source. omega arith)

pub returns-in-Some-clause-no_steps : goal.returns-in-Some-clause-no_steps
returns-in-Some-clause-no_steps g c = err_all _ (edited (source_of c.args.self.now.book) c.args.edit.now) (λ cause. refl)

pub returns-in-Some-clause-stops_within_work : goal.returns-in-Some-clause-stops_within_work
returns-in-Some-clause-stops_within_work g c = inl refl

-- It has its place.

pub inverse_of-requires : goal.inverse_of-requires
inverse_of-requires g c =
    ap (λ (tree : Forest (Keyed Node)). place_fault c.args.edit.now (without_keys tree)) (c.arena.ensures.tree ∙ ap (λ (book : StyledDocument). book.tree) c.book.ensures.book)
    ∙ untold_allowed c.args.edit.now (source_of c.self.inside.engine) c.in_default.ensures.refused

pub returns-in_err-inverse-clause-refused : goal.returns-in_err-inverse-clause-refused
returns-in_err-inverse-clause-refused g c =
    subst (λ (told : EditHistory). IfErr (edited (source_of told.book) c.args.edit.now) (λ cause. c.from_residual.result ≡ Err (edit_fault cause))) c.self.view_is
    (not_refused _ c.args.edit.now (source_of c.self.inside.engine) (untold_allowed c.args.edit.now (source_of c.self.inside.engine) c.in_default.ensures.refused))

pub returns-in_err-inverse-clause-memory : goal.returns-in_err-inverse-clause-memory
returns-in_err-inverse-clause-memory g c = ok_all _ (edited (source_of c.args.self.now.book) c.args.edit.now) (λ source. err_is Memory c.from_residual.result c.from_residual.ensures)

pub returns-in_err-inverse-clause-steps : goal.returns-in_err-inverse-clause-steps
returns-in_err-inverse-clause-steps g c = ok_all _ (edited (source_of c.args.self.now.book) c.args.edit.now) (λ source. omega arith)

pub returns-in_err-inverse-clause-no_steps : goal.returns-in_err-inverse-clause-no_steps
returns-in_err-inverse-clause-no_steps g c = err_all _ (edited (source_of c.args.self.now.book) c.args.edit.now) (λ cause. refl)

pub returns-in_err-inverse-clause-stops_within_work : goal.returns-in_err-inverse-clause-stops_within_work
returns-in_err-inverse-clause-stops_within_work g c = on_err c.from_residual.result (inl refl)

-- Memory is wanting in the engine.

pub invariant_of-self : goal.invariant_of-self
invariant_of-self g c = subst (λ (book : StyledDocument). AreRings book c.self.inside.undos c.self.inside.redos) (sym c.in_err-apply.ensures.failed) c.self.invariant

pub returns-in_err-apply-clause-refused : goal.returns-in_err-apply-clause-refused
returns-in_err-apply-clause-refused g c =
    subst (λ (told : EditHistory). IfErr (edited (source_of told.book) c.args.edit.now) (λ cause. c.from_residual-in_err-apply.result ≡ Err (edit_fault cause))) c.self.view_is
    (not_refused _ c.args.edit.now (source_of c.self.inside.engine) (untold_allowed c.args.edit.now (source_of c.self.inside.engine) c.in_default.ensures.refused))

pub returns-in_err-apply-clause-memory : goal.returns-in_err-apply-clause-memory
returns-in_err-apply-clause-memory g c =
    subst (λ (told : EditHistory). IfOk (edited (source_of told.book) c.args.edit.now) (λ source. IfErr c.from_residual-in_err-apply.result (λ fault. fault ≡ Memory))) c.self.view_is
    (handed_on (edited (source_of c.self.inside.engine) c.args.edit.now) c.in_err-apply.field-0.0 Memory c.from_residual-in_err-apply.result c.in_err-apply.ensures.memory c.from_residual-in_err-apply.ensures)

pub returns-in_err-apply-clause-failed : goal.returns-in_err-apply-clause-failed
returns-in_err-apply-clause-failed g c =
    on_err c.from_residual-in_err-apply.result (ap (λ (book : StyledDocument). in_rings book c.self.inside.undos c.self.inside.redos) c.in_err-apply.ensures.failed ∙ c.self.view_is)

pub returns-in_err-apply-clause-steps : goal.returns-in_err-apply-clause-steps
returns-in_err-apply-clause-steps g c =
    subst (λ (told : EditHistory). IfOk (edited (source_of told.book) c.args.edit.now) (λ source. c.apply.new.steps ≤ c.args.steps.now + (12 * element_count source.tree + 2 * element_count (source_of told.book).tree))) c.self.view_is c.apply.ensures.steps

pub returns-in_err-apply-clause-no_steps : goal.returns-in_err-apply-clause-no_steps
returns-in_err-apply-clause-no_steps g c =
    subst (λ (told : EditHistory). IfErr (edited (source_of told.book) c.args.edit.now) (λ cause. c.apply.new.steps ≡ c.args.steps.now)) c.self.view_is c.apply.ensures.no_steps

pub returns-in_err-apply-clause-stops_within_work : goal.returns-in_err-apply-clause-stops_within_work
returns-in_err-apply-clause-stops_within_work g c =
    on_err c.from_residual-in_err-apply.result
    (subst (λ (told : EditHistory). StopsWithinWork c.args.edit.now (keyed_source told.book) c.args.steps.now c.apply.new.steps) c.self.view_is c.in_err-apply.ensures.stops_within_work)

-- It is done.

pub returns-clause-past : goal.returns-clause-past
returns-clause-past g c =
    subst (λ (told : EditHistory). AreSameVersions (versions_after c.push_front-oldest.new.self.items (version_of c.apply.new.self)) (take told.depth (present told ∷ past told))) c.self.view_is
    (applied_by c.args.edit.now c.in_ok-inverse.inverse c.self.inside.engine c.apply.new.self c.arena.result.now.tree (chars c.sheet.result.now)
    c.self.inside.undos c.push_front-oldest.new.self c.self.inside.redos c.clear.new.self
    (c.arena.ensures.tree ∙ ap (λ (book : StyledDocument). book.tree) c.book.ensures.book) c.sheet.ensures.text c.in_ok-inverse.ensures.allowed c.in_ok-inverse.ensures.inverse
    c.self.invariant
    (done_is c.args.edit.now c.self.inside.engine c.apply.new.self (untold_allowed c.args.edit.now (source_of c.self.inside.engine) c.in_default.ensures.refused) c.in_ok-apply.ensures.ok)
    c.push_front-oldest.ensures.items c.clear.ensures).1

pub invariant_of-self-2 : goal.invariant_of-self-2
invariant_of-self-2 g c =
    (applied_by c.args.edit.now c.in_ok-inverse.inverse c.self.inside.engine c.apply.new.self c.arena.result.now.tree (chars c.sheet.result.now)
    c.self.inside.undos c.push_front-oldest.new.self c.self.inside.redos c.clear.new.self
    (c.arena.ensures.tree ∙ ap (λ (book : StyledDocument). book.tree) c.book.ensures.book) c.sheet.ensures.text c.in_ok-inverse.ensures.allowed c.in_ok-inverse.ensures.inverse
    c.self.invariant
    (done_is c.args.edit.now c.self.inside.engine c.apply.new.self (untold_allowed c.args.edit.now (source_of c.self.inside.engine) c.in_default.ensures.refused) c.in_ok-apply.ensures.ok)
    c.push_front-oldest.ensures.items c.clear.ensures).0

pub returns-clause-present : goal.returns-clause-present
returns-clause-present g c = subst (λ (told : EditHistory). edited (source_of told.book) c.args.edit.now ≡ Ok (source_of c.apply.new.self)) c.self.view_is c.in_ok-apply.ensures.ok

pub returns-clause-keys : goal.returns-clause-keys
returns-clause-keys g c = subst (λ (told : EditHistory). IsEdited c.args.edit.now told.book.tree c.apply.new.self.tree) c.self.view_is c.in_ok-apply.ensures.keys

pub returns-clause-refused : goal.returns-clause-refused
returns-clause-refused g c =
    subst (λ (told : EditHistory). IfErr (edited (source_of told.book) c.args.edit.now) (λ cause. Ok tt ≡ Err (edit_fault cause))) c.self.view_is
    (not_refused _ c.args.edit.now (source_of c.self.inside.engine) (untold_allowed c.args.edit.now (source_of c.self.inside.engine) c.in_default.ensures.refused))

pub returns-clause-steps : goal.returns-clause-steps
returns-clause-steps g c =
    subst (λ (told : EditHistory). IfOk (edited (source_of told.book) c.args.edit.now) (λ source. c.apply.new.steps ≤ c.args.steps.now + (12 * element_count source.tree + 2 * element_count (source_of told.book).tree))) c.self.view_is c.apply.ensures.steps

pub returns-clause-no_steps : goal.returns-clause-no_steps
returns-clause-no_steps g c =
    subst (λ (told : EditHistory). IfErr (edited (source_of told.book) c.args.edit.now) (λ cause. c.apply.new.steps ≡ c.args.steps.now)) c.self.view_is c.apply.ensures.no_steps

pub returns-clause-within_work : goal.returns-clause-within_work
returns-clause-within_work g c =
    subst (λ (told : EditHistory). IsWithinWork c.args.edit.now (keyed_source told.book) (keyed_source c.apply.new.self) c.args.steps.now c.apply.new.steps) c.self.view_is c.in_ok-apply.ensures.within_work
