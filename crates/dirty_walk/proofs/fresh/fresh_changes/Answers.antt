use Rattle.std.proofs.Common.{◌∙◌, ℕ, List, ap, arith, length, subst, sym}
use Rattle.kept_elements.specs.declared.kept.Kept.{Kept}
use Rattle.generated_texts.specs.StyleElements.{author_sheet}
use Rattle.kept_elements.specs.declared.kept_change.KeptChange.{KeptChange}
use Rattle.kept_elements.specs.Changes.{AreBelow, AreChanges}
use Rattle.referring_elements.specs.Indexes.{TellsReferences}
use Rattle.referring_elements.specs.References.{AreOnce, said_of}
use Rattle.surroundings.specs.declared.told.Told.{Told}
use Rattle.kept_elements.specs.Evaluations.{document_kept, document_told}
use Rattle.dirty_walk.proofs.BookLemmas.{kept_are}
use Rattle.dirty_walk.proofs.ReferenceLemmas.{are_once}
use Rattle.kept_elements.proofs.ChangeLemmas.{below-more}
use Rattle.kept_elements.proofs.RenewalLemmas.{renews}
use Rattle.kept_elements.proofs.ToldLemmas.{told_once}
use Rattle.dirty_walk.proofs.fresh.fresh_changes.Goals as goal

pub returns-clause-changes : goal.returns-clause-changes
returns-clause-changes g c =
    let document = c.args.document.now in
    let styles = document.styles.now in
    let tree = document.arena.now.tree in
    renews c.args.board.now.held (document_kept (author_sheet styles.sheet tree) tree) c.in_ok-changes.changes.items
    (subst (λ (kept : List (ℕ × Kept)). AreChanges c.args.board.now.held kept c.in_ok-changes.changes.items)
    (kept_are tree styles c.as_slice-records.result.now styles.sheet document.styles_are (c.as_slice-records.ensures.items ∙ c.in_ok-told.ensures.told))
    c.in_ok-changes.ensures.changes)

pub index_with-requires : goal.index_with-requires
index_with-requires g c =
    let tree = c.args.document.now.arena.now.tree in
    let author = author_sheet c.args.document.now.styles.now.sheet tree in
    record {
      once = subst AreOnce (sym (c.as_slice-records.ensures.items ∙ c.in_ok-told.ensures.told)) (are_once (document_told author tree) (told_once author tree c.arena_holds_document.ensures.document.distinct));
    }

pub returns-clause-refers : goal.returns-clause-refers
returns-clause-refers g c =
    let tree = c.args.document.now.arena.now.tree in
    subst (λ (told : List (ℕ × Told)). TellsReferences c.in_ok-index.index (record { tree = tree; said = said_of told }))
    (c.as_slice-records.ensures.items ∙ c.in_ok-told.ensures.told)
    (c.in_ok-index.ensures.references tree)

pub returns-in_err-changes-clause-steps : goal.returns-in_err-changes-clause-steps
returns-in_err-changes-clause-steps g c =
    omega (arith, c.document_told.ensures.steps, c.in_ok-told.ensures.count, ap length c.as_slice-records.ensures.items, c.document_changes.ensures.steps)

pub returns-in_err-room-clause-steps : goal.returns-in_err-room-clause-steps
returns-in_err-room-clause-steps g c =
    omega (arith, c.document_told.ensures.steps, c.in_ok-told.ensures.count, ap length c.as_slice-records.ensures.items, c.document_changes.ensures.steps)

pub returns-in_err-reserve-clause-steps : goal.returns-in_err-reserve-clause-steps
returns-in_err-reserve-clause-steps g c =
    omega (arith, c.document_told.ensures.steps, c.in_ok-told.ensures.count, ap length c.as_slice-records.ensures.items, c.document_changes.ensures.steps)

pub returns-clause-room : goal.returns-clause-room
returns-clause-room g c =
    below-more c.in_ok-room.room c.reserve.new.self.room c.in_ok-changes.changes.items c.in_ok-reserve.ensures.room
    (subst (λ (items : List (ℕ × KeptChange)). AreBelow c.in_ok-room.room items) c.as_slice.ensures.value c.in_ok-room.ensures.room)

pub returns-clause-steps : goal.returns-clause-steps
returns-clause-steps g c =
    omega (arith, c.document_told.ensures.steps, c.in_ok-told.ensures.count, ap length c.as_slice-records.ensures.items, c.document_changes.ensures.steps)
