use Rattle.std.proofs.Common.{◌≡◌, ◌∙◌, ℕ, ap, subst, List}
use Rattle.std.proofs.lemmas.Result.{IfOk-weaker}
use Rattle.forest.specs.Forest.{Forest}
use Rattle.forest.specs.Keys.{Keyed}
use Rattle.plain_types.specs.declared.node.Node.{Node}
use Rattle.content_eval.specs.Targets.{Known}
use Rattle.generated_texts.specs.References.{known_targets}
use Rattle.kept_elements.specs.declared.flat_texts.FlatTexts.{FlatTexts}
use Rattle.kept_elements.specs.Changes.{AreChanges}
use Rattle.kept_elements.specs.Evaluations.{all_kept_of}
use Rattle.referring_elements.specs.References.{said_of}
use Rattle.kept_elements.specs.Known.{known_by}
use Rattle.kept_elements.proofs.KnownLemmas.{same_known}
use Rattle.dirty_walk.proofs.evaluation.document_changes.Goals as goal

pub returns-clause-changes : goal.returns-clause-changes
returns-clause-changes g c =
    let table = c.args.table.now in
    let tree = c.in_ok-named.named.arena.now.tree in
    let records = c.args.records.now in
    let known : known_by tree records c.as_slice.result.now ≡ known_targets table tree (said_of records) =
    ap (λ (flats : List (ℕ × FlatTexts)). known_by tree records flats) (c.as_slice.ensures.items ∙ c.in_ok-flats.ensures.texts) ∙ same_known table tree records in
    IfOk-weaker c.changes_with.result _ _
    (λ changes are. subst (λ (known : Known). AreChanges c.args.board.now.held (all_kept_of table known records) changes.items)
    (known ∙ ap (λ (t : Forest (Keyed Node)). known_targets table t (said_of records)) c.in_ok-named.ensures.tree) are)
    c.changes_with.ensures.changes
