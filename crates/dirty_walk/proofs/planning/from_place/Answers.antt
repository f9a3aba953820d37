use Rattle.std.proofs.Common.{◌≡◌, ◌∙◌, List, None, ℕ, refl, subst, sym}
use Rattle.std.specs.FinMap.{FinMap}
use Rattle.std.specs.Ordering.{nat_cmp}
use Rattle.forest.specs.Forest.{Forest}
use Rattle.forest.specs.Keys.{Keyed}
use Rattle.plain_types.specs.declared.edit.Edit.{Edit}
use Rattle.plain_types.specs.declared.node.Node.{Node}
use Rattle.node_arena.specs.Edits.{edited_sheet}
use Rattle.generated_texts.specs.StyleElements.{author_sheet}
use Rattle.merged_walk.specs.declared.stop.Stop.{Stop}
use Rattle.target_index.specs.declared.index.Index.{Index}
use Rattle.referring_elements.specs.Indexes.{TellsReferences}
use Rattle.started_walk.specs.declared.counting.Counting.{Counting}
use Rattle.started_walk.specs.Countings.{Counts}
use Rattle.kept_elements.specs.declared.kept.Kept.{Kept}
use Rattle.kept_elements.specs.Changes.{Renews}
use Rattle.kept_elements.specs.Evaluations.{document_kept, evaluated_document}
use Rattle.dirty_walk.specs.declared.document_styles.DocumentStyles.{DocumentStyles}
use Rattle.dirty_walk.specs.declared.edited_arena.EditedArena.{EditedArena}
use Rattle.dirty_walk.specs.declared.local_stops.LocalStops.{LocalStops}
use Rattle.dirty_walk.specs.declared.read_ahead.ReadAhead.{ReadAhead}
use Rattle.dirty_walk.specs.DocumentStyles.{document_styles}
use Rattle.dirty_walk.specs.Machinery.CountedEdits.{IsWithinCounted, IsWithinCountedElements, IsWithinEdit, IsWithinEditElements}
use Rattle.dirty_walk.specs.Countings.{IsSomeCountedEdit, StandsCounted}
use Rattle.dirty_walk.proofs.PlaceLemmas.{AreNamed, its_stops, sheet_now, styles_after, styles_now}
use Rattle.dirty_walk.proofs.planning.from_place.Goals as goal

module _ (document : EditedArena) (held : FinMap nat_cmp Kept) (ahead : ReadAhead) (index : Index) (counting : Counting) (local : LocalStops)
    (place : StandsCounted document.edit.now document.styles.now held local document.arena.now.tree ahead index counting) where
  abbrev edit : Edit
  edit = document.edit.now

  abbrev styles : DocumentStyles
  styles = document.styles.now

  abbrev tree : Forest (Keyed Node)
  tree = document.arena.now.tree

  styles_are : styles ≡ document_styles styles.sheet tree
  styles_are = styles_now edit styles held local tree place.stands.before

  styles_stay : styles ≡ document_styles (edited_sheet edit styles.sheet) tree
  styles_stay = styles_after edit styles held local tree place.stands.before None refl

  -- the text of the sheet is that of the edited document
  under_edited : (P : List ℕ → Type 0) → P styles.sheet → P (edited_sheet edit styles.sheet)
  under_edited P holds = subst P (sym (sheet_now edit styles held local tree place.stands.before)) holds

  module _ (named : List Stop) (names : AreNamed edit local tree named) where
    abbrev some_edit : StandsCounted edit styles held local tree ahead index counting → IsSomeCountedEdit styles.sheet held named tree ahead index counting
    some_edit there = record {
      edit = edit;
      old = there.stands.before.old;
      at = there.stands.before.at;
      stops_are = its_stops edit styles held local tree there.stands.before named names;
      read = there.stands.read;
      counts = there.counts;
    }

    -- the steps of walks from the place
    within : (before now : ℕ) → IsWithinCounted styles.sheet held named tree ahead index counting before now → IsWithinEdit edit styles held local tree ahead index counting before now
    within before now few = λ there. few (some_edit there)

    within_elements : (before now : ℕ) → IsWithinCountedElements styles.sheet held named tree ahead index counting before now
        → IsWithinEditElements edit styles held local tree ahead index counting before now
    within_elements before now few = λ there. few (some_edit there)

pub invariant_of-styled-clause-styles_are : goal.invariant_of-styled-clause-styles_are
invariant_of-styled-clause-styles_are g c =
    styles_are c.args.document.now c.args.board.now.held c.args.ahead.now c.args.index.now c.args.counting.now c.args.local c.requires.place

pub changes_at_place-requires : goal.changes_at_place-requires
changes_at_place-requires g c = record {
  place = some_edit c.args.document.now c.args.board.now.held c.args.ahead.now c.args.index.now c.args.counting.now c.args.local c.requires.place c.as_slice-stops.result.now (λ old told. c.as_slice-stops.ensures.value ∙ c.name_inserted_root.ensures.stops old told) c.requires.place;
  indexed = c.requires.indexed;
}

pub returns-in_err-changes-clause-most : goal.returns-in_err-changes-clause-most
returns-in_err-changes-clause-most g c =
    within c.args.document.now c.args.board.now.held c.args.ahead.now c.args.index.now c.args.counting.now c.args.local c.requires.place c.as_slice-stops.result.now (λ old told. c.as_slice-stops.ensures.value ∙ c.name_inserted_root.ensures.stops old told)
    c.args.steps.now c.changes_at_place.new.steps c.changes_at_place.ensures.most

pub returns-in_err-changes-clause-steps : goal.returns-in_err-changes-clause-steps
returns-in_err-changes-clause-steps g c =
    within_elements c.args.document.now c.args.board.now.held c.args.ahead.now c.args.index.now c.args.counting.now c.args.local c.requires.place c.as_slice-stops.result.now (λ old told. c.as_slice-stops.ensures.value ∙ c.name_inserted_root.ensures.stops old told)
    c.args.steps.now c.changes_at_place.new.steps c.changes_at_place.ensures.steps

pub returns-clause-styles : goal.returns-clause-styles
returns-clause-styles g c =
    styles_stay c.args.document.now c.args.board.now.held c.args.ahead.now c.args.index.now c.args.counting.now c.args.local c.requires.place

pub returns-clause-changes : goal.returns-clause-changes
returns-clause-changes g c =
    let tree = c.args.document.now.arena.now.tree in
    under_edited c.args.document.now c.args.board.now.held c.args.ahead.now c.args.index.now c.args.counting.now c.args.local c.requires.place
    (λ (text : List ℕ). Renews c.args.board.now.held (document_kept (author_sheet text tree) tree) c.in_ok-changes.changes.items)
    c.in_ok-changes.ensures.changes

pub returns-clause-counts : goal.returns-clause-counts
returns-clause-counts g c =
    let tree = c.args.document.now.arena.now.tree in
    under_edited c.args.document.now c.args.board.now.held c.args.ahead.now c.args.index.now c.args.counting.now c.args.local c.requires.place
    (λ (text : List ℕ). Counts (record { tree = tree; sheet = text }) c.changes_at_place.new.counting)
    c.in_ok-changes.ensures.counts

pub returns-clause-refers : goal.returns-clause-refers
returns-clause-refers g c =
    let tree = c.args.document.now.arena.now.tree in
    under_edited c.args.document.now c.args.board.now.held c.args.ahead.now c.args.index.now c.args.counting.now c.args.local c.requires.place
    (λ (text : List ℕ). TellsReferences c.changes_at_place.new.index (evaluated_document (author_sheet text tree) tree))
    c.in_ok-changes.ensures.refers

pub returns-clause-few : goal.returns-clause-few
returns-clause-few g c =
    within c.args.document.now c.args.board.now.held c.args.ahead.now c.args.index.now c.args.counting.now c.args.local c.requires.place c.as_slice-stops.result.now (λ old told. c.as_slice-stops.ensures.value ∙ c.name_inserted_root.ensures.stops old told)
    c.args.steps.now _ c.in_ok-changes.ensures.few

pub returns-clause-most : goal.returns-clause-most
returns-clause-most g c =
    within c.args.document.now c.args.board.now.held c.args.ahead.now c.args.index.now c.args.counting.now c.args.local c.requires.place c.as_slice-stops.result.now (λ old told. c.as_slice-stops.ensures.value ∙ c.name_inserted_root.ensures.stops old told)
    c.args.steps.now c.changes_at_place.new.steps c.changes_at_place.ensures.most

pub returns-clause-steps : goal.returns-clause-steps
returns-clause-steps g c =
    within_elements c.args.document.now c.args.board.now.held c.args.ahead.now c.args.index.now c.args.counting.now c.args.local c.requires.place c.as_slice-stops.result.now (λ old told. c.as_slice-stops.ensures.value ∙ c.name_inserted_root.ensures.stops old told)
    c.args.steps.now c.changes_at_place.new.steps c.changes_at_place.ensures.steps
