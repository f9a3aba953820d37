-- What is known of an engine and its book while an edit is done.
use Rattle.std.proofs.Common.{◌≡◌, ◌≤◌, ◌∙◌, ℕ, Option, None, IfOk, ap, arith, sym, subst}
use Rattle.dirty_walk.specs.declared.plan.Plan.{Plan}
use Rattle.dirty_walk.specs.Books.{StyledDocument}
use Rattle.dirty_walk.specs.PlannedEntries.{IsPlannedFrom}
use Rattle.dirty_walk.specs.Plans.{IsPlannedBy, settled_after}
use Rattle.dirty_walk.specs.WorkBounds.{IsWithinWork}
use Rattle.edit_merge.specs.Laws.{InsertsOneTree}
use Rattle.edit_work.specs.KeyedSources.{KeyedSource}
use Rattle.node_arena.specs.Document.{IsKeyedDocument}
use Rattle.forest.specs.Forest.{Forest}
use Rattle.forest.specs.Keys.{Keyed, without_keys}
use Rattle.node_arena.specs.Edits as edits
use Rattle.node_arena.specs.declared.place_fault.PlaceFault.{PlaceFault}
use Rattle.plain_types.specs.declared.edit.Edit.{Edit}
use Rattle.plain_types.specs.declared.node.Node.{Node}
use Rattle.document_walk.specs.Elements.{element_count}
use Rattle.marker_engine.specs.Edited.{edited}
use Rattle.marker_engine.specs.Engines.{IsEvaluated, source_of}

-- one book that is another is evaluated as that is
pub same_evaluated : (old new : StyledDocument) → new ≡ old → IsEvaluated old → IsEvaluated new
same_evaluated old new is evaluated = subst IsEvaluated (sym is) evaluated

-- no fault is that of the told document, where it is that of the arena's
pub no_fault : (edit : Edit) (tree : Forest (Keyed Node)) (old told : StyledDocument) (fault : Option PlaceFault) → fault ≡ edits.place_fault edit (without_keys tree) → tree ≡ old.tree → old ≡ told
    → fault ≡ None → edits.place_fault edit (without_keys told.tree) ≡ None
no_fault edit tree old told fault is same view none =
    sym (is ∙ ap (λ (t : Forest (Keyed Node)). edits.place_fault edit (without_keys t)) (same ∙ ap (λ (styled : StyledDocument). styled.tree) view)) ∙ none

-- what bounds numbers by the elements of both documents, for an edit that is allowed
pub allowed_by : (edit : Edit) (old told : StyledDocument) (bound : ℕ → ℕ → Type 0) → edits.place_fault edit (without_keys told.tree) ≡ None → old ≡ told
    → bound (element_count (edits.edited edit (without_keys old.tree))) (element_count (without_keys old.tree))
    → IfOk (edited (source_of told) edit) (λ source. bound (element_count source.tree) (element_count (source_of told).tree))
allowed_by edit old told bound allowed view within =
    rw (edited, allowed)
    (subst (λ (styled : StyledDocument). bound (element_count (edits.edited edit (without_keys styled.tree))) (element_count (without_keys styled.tree))) view within)

-- fewer steps are within the work of an edit too
pub fewer_within_work : (edit : Edit) (before after : KeyedSource) (from now more : ℕ) → now ≤ more → IsWithinWork edit before after from more → IsWithinWork edit before after from now
fewer_within_work edit before after from now more few within = omega (arith, few, within)

-- the plan of an edit that is allowed is that of the edit
pub planned_from : (edit : Edit) (old book : StyledDocument) (plan : Plan) (before after : Forest (Keyed Node)) → IsKeyedDocument before → before ≡ old.tree → IsKeyedDocument after → after ≡ book.tree
    → edits.place_fault edit (without_keys old.tree) ≡ None → InsertsOneTree edit → edits.IsEdited edit old.tree (settled_after book plan).tree
    → IsEvaluated old → book.kept ≡ old.kept → IsPlannedBy book plan → IsPlannedFrom edit old book plan
unfolding settled_after
planned_from edit old book plan before after was was_is is is_is allowed fragment edited evaluated kept planned = record {
  done = record {
    before = subst IsKeyedDocument was_is was;
    after = subst IsKeyedDocument is_is is;
    allowed = allowed;
    fragment = fragment;
    edited = edited;
  };
  keeps = evaluated.1;
  kept = kept;
  planned = planned;
}
