use Rattle.std.proofs.Common.{◌∙◌, ℕ, List, Option, subst}
use Rattle.std.proofs.Math.Path.{fun_ext}
use Rattle.std.proofs.lemmas.Result.{IfOk-weaker}
use Rattle.generated_texts.specs.References.{kept_at}
use Rattle.surroundings.specs.declared.told.Told.{Told}
use Rattle.kept_elements.specs.declared.flat_texts.FlatTexts.{FlatTexts}
use Rattle.kept_elements.specs.declared.kept.Kept.{Kept}
use Rattle.kept_elements.specs.Changes.{AreChanges}
use Rattle.kept_elements.specs.Machinery.Renewals.{read_in, renewed_kept, renewed_known}
use Rattle.kept_elements.proofs.renewed_texts.changes_to.Goals as goal

pub returns-clause-changes : goal.returns-clause-changes
returns-clause-changes g c =
    let tree = c.args.lookup.now.arena.now.tree in
    let table = c.args.table.now in
    let held = c.args.board.now.held in
    let listed = c.args.listed.now in
    let read : ℕ → Option Kept = read_in c.args.held.now in
    let told = c.args.told.now in
    IfOk-weaker c.changes_again.result _ _
    (λ changes are.
    subst (λ (flats : List (ℕ × FlatTexts)). AreChanges held (renewed_kept table (renewed_known tree (kept_at listed) (kept_at flats) read) (kept_at listed) told) changes.items)
    (c.as_slice.ensures.items ∙ c.in_ok-flats.ensures.texts)
    (subst (λ (looked : ℕ → Option Told). AreChanges held (renewed_kept table (renewed_known tree (kept_at listed) (kept_at c.as_slice.result.now) read) looked told) changes.items)
    (fun_ext (λ key. c.in_ok-records.ensures.kept key)) are))
    c.changes_again.ensures.changes
