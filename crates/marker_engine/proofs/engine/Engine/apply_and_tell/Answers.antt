use Rattle.std.proofs.Common.{◌≡◌, ◌≤◌, ◌+◌, ◌*◌, ◌∙◌, ap, arith, inl, length, refl, sym, subst}
use Rattle.std.proofs.lemmas.Result.{IfOk-weaker}
use Rattle.dirty_walk.specs.Books.{StyledDocument, keyed_source}
use Rattle.dirty_walk.specs.Plans.{IsPlannedBy, settled_after}
use Rattle.dirty_walk.specs.WorkBounds.{IsWithinWork, StopsWithinWork}
use Rattle.changed_lines.specs.Changes.{changed_lines}
use Rattle.ports.proofs.GrownLemmas.{on_err}
use Rattle.marker_engine.proofs.ApplyLemmas.{allowed_by, fewer_within_work, no_fault, planned_from, same_evaluated}
use Rattle.marker_engine.proofs.engine.Engine.apply_and_tell.Goals as goal

pub returns-in-Some-clause-keeps : goal.returns-in-Some-clause-keeps
returns-in-Some-clause-keeps g c = (same_evaluated c.self.inside.book c.args.self.now (sym c.self.view_is) c.self.invariant).1

pub invariant_of-self : goal.invariant_of-self
invariant_of-self g c = same_evaluated c.self.inside.book c.plan.new.self c.in_err-plan.ensures.err c.self.invariant

pub returns-in_err-plan-clause-keeps : goal.returns-in_err-plan-clause-keeps
returns-in_err-plan-clause-keeps g c = (same_evaluated c.self.inside.book c.plan.new.self c.in_err-plan.ensures.err c.self.invariant).1

pub returns-in_err-plan-clause-steps : goal.returns-in_err-plan-clause-steps
returns-in_err-plan-clause-steps g c =
    allowed_by c.args.edit.now c.self.inside.book c.args.self.now (λ after before. c.plan.new.steps ≤ c.args.steps.now + (13 * after + 2 * before))
    (no_fault c.args.edit.now c.arena.result.now.tree c.self.inside.book c.args.self.now c.allows.result c.allows.ensures.fault c.arena.ensures.tree c.self.view_is c.in_default.is)
    c.self.view_is (omega (arith, c.plan.ensures.steps))

pub returns-clause-steps : goal.returns-clause-steps
returns-clause-steps g c =
    allowed_by c.args.edit.now c.self.inside.book c.args.self.now (λ after before. c.commit.new.steps ≤ c.args.steps.now + (13 * after + 2 * before))
    (no_fault c.args.edit.now c.arena.result.now.tree c.self.inside.book c.args.self.now c.allows.result c.allows.ensures.fault c.arena.ensures.tree c.self.view_is c.in_default.is)
    c.self.view_is (let size = c.in_ok-plan.ensures.size in let puts = c.in_ok-plan.ensures.puts in omega (arith, size, puts, c.plan.ensures.steps, c.changed_lines-told.ensures.steps, c.commit.ensures.steps))

pub returns-in_err-plan-clause-line_steps : goal.returns-in_err-plan-clause-line_steps
returns-in_err-plan-clause-line_steps g c =
    allowed_by c.args.edit.now c.self.inside.book c.args.self.now
    (λ after before. c.plan.new.steps ≤ c.args.steps.now + ((12 * after + 2 * before) + length (changed_lines (keyed_source c.args.self.now) (keyed_source c.plan.new.self))))
    (no_fault c.args.edit.now c.arena.result.now.tree c.self.inside.book c.args.self.now c.allows.result c.allows.ensures.fault c.arena.ensures.tree c.self.view_is c.in_default.is)
    c.self.view_is (omega (arith, c.plan.ensures.steps))

-- the lines are those between the document before the edit and the one that is settled
pub returns-clause-line_steps : goal.returns-clause-line_steps
unfolding settled_after
returns-clause-line_steps g c =
    let from =
    planned_from c.args.edit.now c.self.inside.book c.plan.new.self c.in_ok-plan.plan
    c.arena-2.result.now.tree c.edited_arena.result.now.tree
    c.arena_holds_document.ensures.document c.arena-2.ensures.tree c.arena_holds_document-2.ensures.document c.edited_arena.ensures.tree
    (no_fault c.args.edit.now c.arena.result.now.tree c.self.inside.book c.self.inside.book c.allows.result c.allows.ensures.fault c.arena.ensures.tree refl c.in_default.is)
    c.inserts_one_tree.ensures c.in_ok-plan.ensures.document c.self.invariant c.in_ok-plan.ensures.kept c.in_ok-plan.ensures.planned in
    let lines : changed_lines (keyed_source c.self.inside.book) (keyed_source c.plan.new.self) ≡ changed_lines (keyed_source c.args.self.now) (keyed_source c.commit.new.self) =
    ap (λ (new : StyledDocument). changed_lines (keyed_source c.self.inside.book) (keyed_source new)) (sym c.commit.ensures.settled)
    ∙ ap (λ (old : StyledDocument). changed_lines (keyed_source old) (keyed_source c.commit.new.self)) c.self.view_is in
    let told = c.changed_lines-told.ensures.line_steps c.args.edit.now c.self.inside.book from in
    let size = c.in_ok-plan.ensures.size in
    allowed_by c.args.edit.now c.self.inside.book c.args.self.now
    (λ after before. c.commit.new.steps ≤ c.args.steps.now + ((12 * after + 2 * before) + length (changed_lines (keyed_source c.args.self.now) (keyed_source c.commit.new.self))))
    (no_fault c.args.edit.now c.arena.result.now.tree c.self.inside.book c.args.self.now c.allows.result c.allows.ensures.fault c.arena.ensures.tree c.self.view_is c.in_default.is)
    c.self.view_is (omega (arith, size, told, ap length lines, c.plan.ensures.steps, c.commit.ensures.steps))

pub invariant_of-self-2 : goal.invariant_of-self-2
unfolding settled_after
invariant_of-self-2 g c = (ap (λ (styled : StyledDocument). styled.settled) c.commit.ensures.settled, c.commit.ensures.keeps)

pub returns-in-Some-clause-stops_within_work : goal.returns-in-Some-clause-stops_within_work
returns-in-Some-clause-stops_within_work g c = inl refl

pub returns-in_err-plan-clause-stops_within_work : goal.returns-in_err-plan-clause-stops_within_work
returns-in_err-plan-clause-stops_within_work g c =
    on_err _
    (subst (λ (old : StyledDocument). StopsWithinWork c.args.edit.now (keyed_source old) c.args.steps.now c.plan.new.steps) c.self.view_is c.in_err-plan.ensures.stops_within_work)

pub returns-clause-within_work : goal.returns-clause-within_work
returns-clause-within_work g c =
    subst (λ (old : StyledDocument). IsWithinWork c.args.edit.now (keyed_source old) (keyed_source c.commit.new.self) c.args.steps.now c.commit.new.steps) c.self.view_is
    (subst (λ (new : StyledDocument). IsWithinWork c.args.edit.now (keyed_source c.self.inside.book) (keyed_source new) c.args.steps.now c.commit.new.steps) (sym c.commit.ensures.settled)
    (fewer_within_work c.args.edit.now (keyed_source c.self.inside.book) (keyed_source (settled_after c.plan.new.self c.in_ok-plan.plan)) c.args.steps.now c.commit.new.steps
    _ (omega (arith, c.changed_lines-told.ensures.steps, c.commit.ensures.steps)) c.in_ok-plan.ensures.within_work))

pub changed_lines-told-requires : goal.changed_lines-told-requires
changed_lines-told-requires g c = record {
  planned = (
    c.args.edit.now,
    c.self.inside.book,
    planned_from c.args.edit.now c.self.inside.book c.plan.new.self c.in_ok-plan.plan
        c.arena-2.result.now.tree c.edited_arena.result.now.tree
        c.arena_holds_document.ensures.document c.arena-2.ensures.tree c.arena_holds_document-2.ensures.document c.edited_arena.ensures.tree
        (no_fault c.args.edit.now c.arena.result.now.tree c.self.inside.book c.self.inside.book c.allows.result c.allows.ensures.fault c.arena.ensures.tree refl c.in_default.is)
        c.inserts_one_tree.ensures c.in_ok-plan.ensures.document c.self.invariant c.in_ok-plan.ensures.kept c.in_ok-plan.ensures.planned,
  );
}

pub returns-clause-told : goal.returns-clause-told
unfolding settled_after
returns-clause-told g c =
    IfOk-weaker c.changed_lines-told.result _ _
    (λ lines are.
    are c.args.edit.now c.self.inside.book
    (planned_from c.args.edit.now c.self.inside.book c.plan.new.self c.in_ok-plan.plan
    c.arena-2.result.now.tree c.edited_arena.result.now.tree
    c.arena_holds_document.ensures.document c.arena-2.ensures.tree c.arena_holds_document-2.ensures.document c.edited_arena.ensures.tree
    (no_fault c.args.edit.now c.arena.result.now.tree c.self.inside.book c.self.inside.book c.allows.result c.allows.ensures.fault c.arena.ensures.tree refl c.in_default.is)
    c.inserts_one_tree.ensures c.in_ok-plan.ensures.document c.self.invariant c.in_ok-plan.ensures.kept c.in_ok-plan.ensures.planned)
    ∙ ap (λ (new : StyledDocument). changed_lines (keyed_source c.self.inside.book) (keyed_source new)) (sym c.commit.ensures.settled)
    ∙ ap (λ (old : StyledDocument). changed_lines (keyed_source old) (keyed_source c.commit.new.self)) c.self.view_is)
    c.changed_lines-told.ensures.lines

pub edited_arena-requires : goal.edited_arena-requires
unfolding IsPlannedBy
edited_arena-requires g c = record { planned = c.in_ok-plan.ensures.planned.0 }
