use Rattle.std.proofs.Common.{◌≡◌, ◌∙◌, ◌≤◌, ◌+◌, ◌*◌, true, false, None, IfSome, refl, unwrap_or, ap, sym, subst, arith, inr, length, List, ℕ}
use Rattle.std.specs.Prelude.{IfNone}
use Rattle.std.specs.FinMap.{FinMap, get}
use Rattle.std.specs.Option.{is_none}
use Rattle.std.specs.Ordering.{nat_cmp}
use Rattle.forest.specs.Forest.{Forest}
use Rattle.forest.specs.Keys.{Keyed, without_keys}
use Rattle.plain_types.specs.declared.edit.Edit.{Edit}
use Rattle.plain_types.specs.declared.node.Node.{Node}
use Rattle.node_arena.proofs.KeyLaws.{committed, reverted, still_settled}
use Rattle.node_arena.specs.Document.{IsKeyedDocument}
use Rattle.node_arena.specs.Edits.{IsEdited, edited, edited_sheet, place_fault}
use Rattle.generated_texts.specs.References.{kept_at}
use Rattle.generated_texts.specs.StyleElements.{author_sheet, style_texts}
use Rattle.document_walk.specs.Elements.{element_count}
use Rattle.snapshot_board.specs.Records.{put_all, take_all}
use Rattle.kept_elements.specs.declared.kept.Kept.{Kept}
use Rattle.dirty_walk.specs.Books.{StyledDocument, keyed_source}
use Rattle.started_walk.specs.Countings.{Counts}
use Rattle.kept_elements.specs.Changes.{AreOthers, TellShown, puts_of}
use Rattle.kept_elements.specs.Evaluations.{document_kept, evaluated_document}
use Rattle.target_index.specs.declared.index.Index.{Index}
use Rattle.referring_elements.specs.Indexes.{IsIndexOf, TellsReferences}
use Rattle.edit_merge.specs.Laws.{InsertsOneTree, IsDone}
use Rattle.style_reach.specs.Reaches.{reach}
use Rattle.style_reach.specs.declared.extent.Reach.TheVariants.{All}
use Rattle.styled_merge.specs.Laws.{looks_beside}
use Rattle.styled_merge.specs.ReachStops.{reach_stops}
use Rattle.dirty_walk.specs.Exchanges.{elements_in, leaving, taken_keys}
use Rattle.dirty_walk.specs.FormerTargets.{AreFormerTargetsOf}
use Rattle.dirty_walk.specs.ReadAhead.{WasReadOf}
use Rattle.dirty_walk.specs.declared.read_ahead.ReadAhead.{ReadAhead}
use Rattle.referring_elements.specs.declared.former.FormerTarget.{FormerTarget}
use Rattle.dirty_walk.specs.Plans.{settled_after, IsPlannedBy}
use Rattle.dirty_walk.specs.WorkBounds.{IsWithinWork, StopsWithinWork}
use Rattle.dirty_walk.proofs.PlanLemmas.{as_read, its_keys, its_text, same_document, under_its_text}
use Rattle.dirty_walk.proofs.SettlingLemmas.{few, few_puts, has_room, keeps_all, of_elements}
use Rattle.dirty_walk.proofs.WorkLemmas.{leads, stands_counted, within_elements, within_work}
use Rattle.dirty_walk.proofs.book.Book.plan.Goals as goal

-- the edit that is allowed, prepared and committed is done
done_by : (edit : Edit) (old after new : Forest (Keyed Node)) (styled : StyledDocument) → IsKeyedDocument old → IsKeyedDocument new → old ≡ styled.tree → place_fault edit (without_keys styled.tree) ≡ None
    → InsertsOneTree edit → IsEdited edit old after → new ≡ after → IsDone edit old new
done_by edit old after new styled before document same allowed fragment edits is = record {
  before = before;
  after = document;
  allowed = ap (λ (tree : Forest (Keyed Node)). place_fault edit (without_keys tree)) same ∙ allowed;
  fragment = fragment;
  edited = subst (λ (tree : Forest (Keyed Node)). IsEdited edit old tree) (sym is) edits;
}

-- what was read ahead of what a book stands for was read of its document
was_read : (edit : Edit) (inside seen : StyledDocument) → inside ≡ seen → (ahead : ReadAhead) (index : Index) → ahead.takes.now ≡ taken_keys edit (elements_in (leaving edit seen.tree))
    → AreFormerTargetsOf edit seen.tree ahead.former.now → TellsReferences index (evaluated_document (author_sheet inside.sheet inside.tree) inside.tree)
    → WasReadOf edit (author_sheet inside.sheet inside.tree) inside.tree ahead index
was_read edit inside seen is ahead index takes former tells = record {
  takes = takes ∙ ap (λ (styled : StyledDocument). taken_keys edit (elements_in (leaving edit styled.tree))) (sym is);
  former = subst (λ (styled : StyledDocument). AreFormerTargetsOf edit styled.tree ahead.former.now) (sym is) former;
  tells = tells;
}

ahead_of : (P : StyledDocument → Type 0) (inside seen : StyledDocument) → inside ≡ seen → P seen → P inside
ahead_of P inside seen is holds = subst P (sym is) holds

pub invariant_of-document-clause-read : goal.invariant_of-document-clause-read
invariant_of-document-clause-read g c = as_read c.self.inside.styles c.self.inside.styles.sheet c.self.inside.arena.tree c.self.invariant.styles_are

pub evaluated-requires-clause-before : goal.evaluated-requires-clause-before
evaluated-requires-clause-before g c = record {
  old = c.self.inside.arena.tree;
  done = done_by c.args.edit.now c.self.inside.arena.tree _ c.commit-reversal.new.self.tree c.args.self.now c.arena_holds_document.ensures.document c.arena_holds_document-2.ensures.document
      (ap (λ (styled : StyledDocument). styled.tree) c.self.view_is) c.requires.allowed c.inserts_one_tree.ensures c.in_ok-prepared.ensures.edits c.commit-reversal.ensures.tree;
  gone_are = c.as_slice-gone.ensures.items ∙ c.in_ok-gone.ensures.gone ∙ ap (λ (styled : StyledDocument). elements_in (leaving c.args.edit.now styled.tree)) (sym c.self.view_is);
  indexed = c.self.invariant.indexed;
}

pub evaluated-requires-clause-place : goal.evaluated-requires-clause-place
evaluated-requires-clause-place g c =
    let none : is_none c.self.inside.planned ≡ true = ap (λ (styled : StyledDocument). styled.settled) c.self.view_is ∙ c.requires.settled in
    let ahead : ReadAhead = record { takes = c.as_slice.result; former = c.as_slice-2.result } in
    let done =
    done_by c.args.edit.now c.self.inside.arena.tree _ c.commit-reversal.new.self.tree c.args.self.now c.arena_holds_document.ensures.document c.arena_holds_document-2.ensures.document
    (ap (λ (styled : StyledDocument). styled.tree) c.self.view_is) c.requires.allowed c.inserts_one_tree.ensures c.in_ok-prepared.ensures.edits c.commit-reversal.ensures.tree in
    stands_counted c.args.edit.now c.self.inside.styles c.self.inside.board.held c.self.inside.arena.tree c.commit-reversal.new.self.tree c.in_ok-gone.field-0.stops c.self.invariant.styles_are done (c.self.invariant.kept none)
    (edited_sheet c.args.edit.now c.self.inside.styles.sheet) refl ahead c.self.inside.index
    (was_read c.args.edit.now _ c.args.self.now c.self.view_is ahead c.self.inside.index (c.as_slice.ensures.items ∙ c.in_ok-gone.ensures.takes)
    (subst (λ (former : List FormerTarget). AreFormerTargetsOf c.args.edit.now c.args.self.now.tree former) (sym c.as_slice-2.ensures.items) c.in_ok-gone.ensures.former) c.self.invariant.refers)
    c.self.inside.counting c.self.invariant.counts
    (ahead_of (λ styled. IfSome c.in_ok-gone.field-0.stops (λ local. local.extent ≡ reach (looks_beside styled.sheet styled.tree) styled.tree c.args.edit.now)) _ _ c.self.view_is c.in_ok-gone.ensures.extent)
    c.in_ok-gone.ensures.local
    (ahead_of (λ styled. IfSome c.in_ok-gone.field-0.stops (λ local. local.stops.items ≡ reach_stops local.extent c.args.edit.now 0 styled.tree)) _ _ c.self.view_is c.in_ok-gone.ensures.stops)

pub invariant_of-self : goal.invariant_of-self
invariant_of-self g c =
    let none : is_none c.self.inside.planned ≡ true = ap (λ (styled : StyledDocument). styled.settled) c.self.view_is ∙ c.requires.settled in
    same_document _ _ _ _ _ _ _ _ _ _ _ none c.prepare.ensures.tree (λ were. still_settled _ _ were c.prepare.ensures.tree c.in_err-prepared.ensures.err) refl (omega arith) (λ id key. refl) (λ id key. refl) (λ source counts. counts) c.self.invariant

pub invariant_of-self-in-Ok : goal.invariant_of-self-in-Ok
invariant_of-self-in-Ok g c =
    let none : is_none c.self.inside.planned ≡ true = ap (λ (styled : StyledDocument). styled.settled) c.self.view_is ∙ c.requires.settled in
    let old = c.self.inside.arena.tree in
    let tree = c.commit-reversal.new.self.tree in
    let text = edited_sheet c.args.edit.now c.self.inside.styles.sheet in
    let done =
    done_by c.args.edit.now old _ tree c.args.self.now c.arena_holds_document.ensures.document c.arena_holds_document-2.ensures.document
    (ap (λ (styled : StyledDocument). styled.tree) c.self.view_is) c.requires.allowed c.inserts_one_tree.ensures c.in_ok-prepared.ensures.edits c.commit-reversal.ensures.tree in
    let taken = (c.in_ok-gone.ensures.takes ∙ ap (λ (styled : StyledDocument). taken_keys c.args.edit.now (elements_in (leaving c.args.edit.now styled.tree))) (sym c.self.view_is)) in
    record {
      agent_is = c.self.invariant.agent_is;
      styles_are = under_its_text c.replace_styles.new.styles text tree (c.replace_styles.ensures ∙ c.in-Ok.ensures.styles);
      kept = λ settled. cc;
      room = has_room c.args.edit.now old tree done c.self.inside.styles.sheet text c.self.inside.board.held c.in-Ok.made.changes.items c.in_ok-gone.field-0.takes (c.self.invariant.kept none) c.in-Ok.ensures.changes taken
          c.self.inside.board.room c.evaluated.new.board.room c.self.invariant.room c.evaluated.ensures.grown c.in-Ok.ensures.room;
      indexed = subst (λ (index : Index). IsIndexOf index tree) (sym c.replace_index.ensures) c.in-Ok.ensures.indexed;
      refers =
          subst (λ (index : Index). TellsReferences index (evaluated_document (author_sheet c.replace_styles.new.styles.sheet tree) tree)) (sym c.replace_index.ensures)
          (subst (λ (t : List ℕ). TellsReferences (unwrap_or c.in-Ok.made.index c.evaluated.new.index) (evaluated_document (author_sheet t tree) tree))
          (sym (its_text c.replace_styles.new.styles text (style_texts tree) (c.replace_styles.ensures ∙ c.in-Ok.ensures.styles)))
          c.in-Ok.ensures.refers);
      counts =
          subst (λ (t : List ℕ). Counts (record { tree = tree; sheet = t }) c.evaluated.new.counting)
          (sym (its_text c.replace_styles.new.styles text (style_texts tree) (c.replace_styles.ensures ∙ c.in-Ok.ensures.styles)))
          c.in-Ok.ensures.counts;
      back = c.commit-reversal.ensures.reversal;
      keys =
          committed _ _ _ _ _ (its_keys c.self.inside.arena c.self.inside.planned none c.self.invariant.keys) c.prepare.ensures.tree c.in_ok-prepared.ensures.reserves
          c.commit-reversal.ensures.tree c.commit-reversal.ensures.before c.commit-reversal.ensures.used;
    }

pub invariant_of-self-in-Err : goal.invariant_of-self-in-Err
invariant_of-self-in-Err g c =
    let none : is_none c.self.inside.planned ≡ true = ap (λ (styled : StyledDocument). styled.settled) c.self.view_is ∙ c.requires.settled in
    same_document _ _ _ _ _ _ _ _ _ _ _ none (c.revert.ensures.tree ∙ c.commit-reversal.ensures.before ∙ c.prepare.ensures.tree)
    (λ were.
    reverted _ _ _
    (committed _ _ _ _ _ were c.prepare.ensures.tree c.in_ok-prepared.ensures.reserves c.commit-reversal.ensures.tree c.commit-reversal.ensures.before c.commit-reversal.ensures.used)
    c.revert.ensures.tree c.revert.ensures.freed)
    c.evaluated.ensures.held c.evaluated.ensures.grown c.in-Err.ensures.err c.in-Err.ensures.references c.in-Err.ensures.stays_counted c.self.invariant

pub returns-in-Ok-clause-planned : goal.returns-in-Ok-clause-planned
unfolding IsPlannedBy settled_after
returns-in-Ok-clause-planned g c =
    let none : is_none c.self.inside.planned ≡ true = ap (λ (styled : StyledDocument). styled.settled) c.self.view_is ∙ c.requires.settled in
    let old = c.self.inside.arena.tree in
    let tree = c.commit-reversal.new.self.tree in
    let before = c.self.inside.styles.sheet in
    let text = edited_sheet c.args.edit.now before in
    let held = c.self.inside.board.held in
    let puts = c.in-Ok.made.changes.items in
    let takes = c.in_ok-gone.field-0.takes in
    let sheet = its_text c.replace_styles.new.styles text (style_texts tree) (c.replace_styles.ensures ∙ c.in-Ok.ensures.styles) in
    let done =
    done_by c.args.edit.now old _ tree c.args.self.now c.arena_holds_document.ensures.document c.arena_holds_document-2.ensures.document
    (ap (λ (styled : StyledDocument). styled.tree) c.self.view_is) c.requires.allowed c.inserts_one_tree.ensures c.in_ok-prepared.ensures.edits c.commit-reversal.ensures.tree in
    let taken = (c.in_ok-gone.ensures.takes ∙ ap (λ (styled : StyledDocument). taken_keys c.args.edit.now (elements_in (leaving c.args.edit.now styled.tree))) (sym c.self.view_is)) in
    let kept = c.self.invariant.kept none in (
      refl,
      λ key.
          ap (λ (map : FinMap nat_cmp Kept). get (put_all (puts_of puts) (take_all takes map)) key) c.evaluated.ensures.held
          ∙ keeps_all c.args.edit.now old tree done before text held puts takes kept c.in-Ok.ensures.changes taken key
          ∙ ap (λ (text : List ℕ). kept_at (document_kept (author_sheet text tree) tree) key) (sym sheet),
      of_elements c.args.edit.now old tree done before text held puts takes kept c.in-Ok.ensures.changes taken,
      subst (λ (map : FinMap nat_cmp Kept). AreOthers map (puts_of puts)) (sym c.evaluated.ensures.held)
          c.in-Ok.ensures.changes.others,
      subst (λ (map : FinMap nat_cmp Kept). TellShown map puts) (sym c.evaluated.ensures.held)
          c.in-Ok.ensures.changes.shown,
    )

pub returns-in-Ok-clause-kept : goal.returns-in-Ok-clause-kept
returns-in-Ok-clause-kept g c = c.evaluated.ensures.held ∙ ap (λ (styled : StyledDocument). styled.kept) c.self.view_is

pub returns-in-Ok-clause-document : goal.returns-in-Ok-clause-document
unfolding settled_after
returns-in-Ok-clause-document g c =
    let was = ap (λ (styled : StyledDocument). styled.tree) c.self.view_is in
    subst (λ (old : Forest (Keyed Node)). IsEdited c.args.edit.now old c.commit-reversal.new.self.tree) was
    (subst (λ (new : Forest (Keyed Node)). IsEdited c.args.edit.now c.self.inside.arena.tree new) (sym c.commit-reversal.ensures.tree) c.in_ok-prepared.ensures.edits)

pub returns-in-Ok-clause-sheet : goal.returns-in-Ok-clause-sheet
unfolding settled_after
returns-in-Ok-clause-sheet g c =
    its_text c.replace_styles.new.styles (edited_sheet c.args.edit.now c.self.inside.styles.sheet) (style_texts c.commit-reversal.new.self.tree) (c.replace_styles.ensures ∙ c.in-Ok.ensures.styles)
    ∙ ap (λ (styled : StyledDocument). edited_sheet c.args.edit.now styled.sheet) c.self.view_is

pub returns-in-Ok-clause-steps : goal.returns-in-Ok-clause-steps
returns-in-Ok-clause-steps g c =
    let none : is_none c.self.inside.planned ≡ true = ap (λ (styled : StyledDocument). styled.settled) c.self.view_is ∙ c.requires.settled in
    let ahead : ReadAhead = record { takes = c.as_slice.result; former = c.as_slice-2.result } in
    let done =
    done_by c.args.edit.now c.self.inside.arena.tree _ c.commit-reversal.new.self.tree c.args.self.now c.arena_holds_document.ensures.document c.arena_holds_document-2.ensures.document
    (ap (λ (styled : StyledDocument). styled.tree) c.self.view_is) c.requires.allowed c.inserts_one_tree.ensures c.in_ok-prepared.ensures.edits c.commit-reversal.ensures.tree in
    let same : element_count (without_keys c.commit-reversal.new.self.tree) ≡ element_count (edited c.args.edit.now (without_keys c.args.self.now.tree)) =
    ap (λ (tree : Forest (Keyed Node)). element_count (without_keys tree)) c.commit-reversal.ensures.tree
    ∙ ap element_count c.in_ok-prepared.ensures.edits.tree
    ∙ ap (λ (styled : StyledDocument). element_count (edited c.args.edit.now (without_keys styled.tree))) c.self.view_is in
    let was : element_count (without_keys c.self.inside.arena.tree) ≡ element_count (without_keys c.args.self.now.tree) = ap (λ (styled : StyledDocument). element_count (without_keys styled.tree)) c.self.view_is in
    let taken : c.evaluated.new.steps ≤ c.args.steps.now + (11 * element_count (without_keys c.commit-reversal.new.self.tree) + element_count (without_keys c.self.inside.arena.tree)) =
    within_elements c.args.edit.now c.self.inside.styles c.self.inside.board.held c.self.inside.arena.tree c.commit-reversal.new.self.tree c.in_ok-gone.field-0.stops c.self.invariant.styles_are done (c.self.invariant.kept none)
    (edited_sheet c.args.edit.now c.self.inside.styles.sheet) refl ahead c.self.inside.index
    (was_read c.args.edit.now _ c.args.self.now c.self.view_is ahead c.self.inside.index (c.as_slice.ensures.items ∙ c.in_ok-gone.ensures.takes)
    (subst (λ (former : List FormerTarget). AreFormerTargetsOf c.args.edit.now c.args.self.now.tree former) (sym c.as_slice-2.ensures.items) c.in_ok-gone.ensures.former) c.self.invariant.refers)
    c.self.inside.counting c.self.invariant.counts
    (ahead_of (λ styled. IfSome c.in_ok-gone.field-0.stops (λ local. local.extent ≡ reach (looks_beside styled.sheet styled.tree) styled.tree c.args.edit.now)) _ _ c.self.view_is c.in_ok-gone.ensures.extent)
    c.in_ok-gone.ensures.local
    (ahead_of (λ styled. IfSome c.in_ok-gone.field-0.stops (λ local. local.stops.items ≡ reach_stops local.extent c.args.edit.now 0 styled.tree)) _ _ c.self.view_is c.in_ok-gone.ensures.stops)
    c.args.steps.now c.evaluated.new.steps c.evaluated.ensures.steps c.evaluated.ensures.whole in
    omega (arith, same, was, taken)

pub returns-in-Ok-clause-puts : goal.returns-in-Ok-clause-puts
returns-in-Ok-clause-puts g c =
    let none : is_none c.self.inside.planned ≡ true = ap (λ (styled : StyledDocument). styled.settled) c.self.view_is ∙ c.requires.settled in
    let old = c.self.inside.arena.tree in
    let tree = c.commit-reversal.new.self.tree in
    let before = c.self.inside.styles.sheet in
    let text = edited_sheet c.args.edit.now before in
    let puts = c.in-Ok.made.changes.items in
    let takes = c.in_ok-gone.field-0.takes in
    let done =
    done_by c.args.edit.now old _ tree c.args.self.now c.arena_holds_document.ensures.document c.arena_holds_document-2.ensures.document
    (ap (λ (styled : StyledDocument). styled.tree) c.self.view_is) c.requires.allowed c.inserts_one_tree.ensures c.in_ok-prepared.ensures.edits c.commit-reversal.ensures.tree in
    let taken = (c.in_ok-gone.ensures.takes ∙ ap (λ (styled : StyledDocument). taken_keys c.args.edit.now (elements_in (leaving c.args.edit.now styled.tree))) (sym c.self.view_is)) in
    let same : element_count (without_keys tree) ≡ element_count (edited c.args.edit.now (without_keys c.args.self.now.tree)) =
    ap (λ (tree : Forest (Keyed Node)). element_count (without_keys tree)) c.commit-reversal.ensures.tree
    ∙ ap element_count c.in_ok-prepared.ensures.edits.tree
    ∙ ap (λ (styled : StyledDocument). element_count (edited c.args.edit.now (without_keys styled.tree))) c.self.view_is in
    let count : length puts ≤ element_count (without_keys tree) =
    few_puts c.args.edit.now old tree done before text c.self.inside.board.held puts takes (c.self.invariant.kept none) c.in-Ok.ensures.changes taken in
    omega (arith, same, count)

pub returns-in-Ok-clause-size : goal.returns-in-Ok-clause-size
returns-in-Ok-clause-size g c =
    let none : is_none c.self.inside.planned ≡ true = ap (λ (styled : StyledDocument). styled.settled) c.self.view_is ∙ c.requires.settled in
    let old = c.self.inside.arena.tree in
    let tree = c.commit-reversal.new.self.tree in
    let before = c.self.inside.styles.sheet in
    let text = edited_sheet c.args.edit.now before in
    let puts = c.in-Ok.made.changes.items in
    let takes = c.in_ok-gone.field-0.takes in
    let done =
    done_by c.args.edit.now old _ tree c.args.self.now c.arena_holds_document.ensures.document c.arena_holds_document-2.ensures.document
    (ap (λ (styled : StyledDocument). styled.tree) c.self.view_is) c.requires.allowed c.inserts_one_tree.ensures c.in_ok-prepared.ensures.edits c.commit-reversal.ensures.tree in
    let taken = (c.in_ok-gone.ensures.takes ∙ ap (λ (styled : StyledDocument). taken_keys c.args.edit.now (elements_in (leaving c.args.edit.now styled.tree))) (sym c.self.view_is)) in
    let same : element_count (without_keys tree) ≡ element_count (edited c.args.edit.now (without_keys c.args.self.now.tree)) =
    ap (λ (tree : Forest (Keyed Node)). element_count (without_keys tree)) c.commit-reversal.ensures.tree
    ∙ ap element_count c.in_ok-prepared.ensures.edits.tree
    ∙ ap (λ (styled : StyledDocument). element_count (edited c.args.edit.now (without_keys styled.tree))) c.self.view_is in
    let was : element_count (without_keys old) ≡ element_count (without_keys c.args.self.now.tree) = ap (λ (styled : StyledDocument). element_count (without_keys styled.tree)) c.self.view_is in
    let count : length puts + length takes ≤ element_count (without_keys tree) + element_count (without_keys old) =
    few c.args.edit.now old tree done before text c.self.inside.board.held puts takes (c.self.invariant.kept none) c.in-Ok.ensures.changes taken in
    omega (arith, same, was, count)

pub returns-clause-steps : goal.returns-clause-steps
returns-clause-steps g c =
    let none : is_none c.self.inside.planned ≡ true = ap (λ (styled : StyledDocument). styled.settled) c.self.view_is ∙ c.requires.settled in
    let ahead : ReadAhead = record { takes = c.as_slice.result; former = c.as_slice-2.result } in
    let done =
    done_by c.args.edit.now c.self.inside.arena.tree _ c.commit-reversal.new.self.tree c.args.self.now c.arena_holds_document.ensures.document c.arena_holds_document-2.ensures.document
    (ap (λ (styled : StyledDocument). styled.tree) c.self.view_is) c.requires.allowed c.inserts_one_tree.ensures c.in_ok-prepared.ensures.edits c.commit-reversal.ensures.tree in
    let same : element_count (without_keys c.commit-reversal.new.self.tree) ≡ element_count (edited c.args.edit.now (without_keys c.args.self.now.tree)) =
    ap (λ (tree : Forest (Keyed Node)). element_count (without_keys tree)) c.commit-reversal.ensures.tree
    ∙ ap element_count c.in_ok-prepared.ensures.edits.tree
    ∙ ap (λ (styled : StyledDocument). element_count (edited c.args.edit.now (without_keys styled.tree))) c.self.view_is in
    let was : element_count (without_keys c.self.inside.arena.tree) ≡ element_count (without_keys c.args.self.now.tree) = ap (λ (styled : StyledDocument). element_count (without_keys styled.tree)) c.self.view_is in
    let taken : c.evaluated.new.steps ≤ c.args.steps.now + (11 * element_count (without_keys c.commit-reversal.new.self.tree) + element_count (without_keys c.self.inside.arena.tree)) =
    within_elements c.args.edit.now c.self.inside.styles c.self.inside.board.held c.self.inside.arena.tree c.commit-reversal.new.self.tree c.in_ok-gone.field-0.stops c.self.invariant.styles_are done (c.self.invariant.kept none)
    (edited_sheet c.args.edit.now c.self.inside.styles.sheet) refl ahead c.self.inside.index
    (was_read c.args.edit.now _ c.args.self.now c.self.view_is ahead c.self.inside.index (c.as_slice.ensures.items ∙ c.in_ok-gone.ensures.takes)
    (subst (λ (former : List FormerTarget). AreFormerTargetsOf c.args.edit.now c.args.self.now.tree former) (sym c.as_slice-2.ensures.items) c.in_ok-gone.ensures.former) c.self.invariant.refers)
    c.self.inside.counting c.self.invariant.counts
    (ahead_of (λ styled. IfSome c.in_ok-gone.field-0.stops (λ local. local.extent ≡ reach (looks_beside styled.sheet styled.tree) styled.tree c.args.edit.now)) _ _ c.self.view_is c.in_ok-gone.ensures.extent)
    c.in_ok-gone.ensures.local
    (ahead_of (λ styled. IfSome c.in_ok-gone.field-0.stops (λ local. local.stops.items ≡ reach_stops local.extent c.args.edit.now 0 styled.tree)) _ _ c.self.view_is c.in_ok-gone.ensures.stops)
    c.args.steps.now c.evaluated.new.steps c.evaluated.ensures.steps c.evaluated.ensures.whole in
    omega (arith, same, was, taken)

pub returns-in-Ok-clause-within_work : goal.returns-in-Ok-clause-within_work
unfolding settled_after
returns-in-Ok-clause-within_work g c =
    let none : is_none c.self.inside.planned ≡ true = ap (λ (styled : StyledDocument). styled.settled) c.self.view_is ∙ c.requires.settled in
    let ahead : ReadAhead = record { takes = c.as_slice.result; former = c.as_slice-2.result } in
    let old = c.self.inside.arena.tree in
    let tree = c.commit-reversal.new.self.tree in
    let text = edited_sheet c.args.edit.now c.self.inside.styles.sheet in
    let puts = c.in-Ok.made.changes.items in
    let takes = c.in_ok-gone.field-0.takes in
    let done =
    done_by c.args.edit.now c.self.inside.arena.tree _ c.commit-reversal.new.self.tree c.args.self.now c.arena_holds_document.ensures.document c.arena_holds_document-2.ensures.document
    (ap (λ (styled : StyledDocument). styled.tree) c.self.view_is) c.requires.allowed c.inserts_one_tree.ensures c.in_ok-prepared.ensures.edits c.commit-reversal.ensures.tree in
    let taken = (c.in_ok-gone.ensures.takes ∙ ap (λ (styled : StyledDocument). taken_keys c.args.edit.now (elements_in (leaving c.args.edit.now styled.tree))) (sym c.self.view_is)) in
    let count : length puts + length takes ≤ element_count (without_keys tree) + element_count (without_keys old) =
    few c.args.edit.now old tree done c.self.inside.styles.sheet text c.self.inside.board.held puts takes (c.self.invariant.kept none) c.in-Ok.ensures.changes taken in
    let steps : c.evaluated.new.steps ≤ c.args.steps.now + (11 * element_count (without_keys tree) + element_count (without_keys old)) =
    within_elements c.args.edit.now c.self.inside.styles c.self.inside.board.held c.self.inside.arena.tree c.commit-reversal.new.self.tree c.in_ok-gone.field-0.stops c.self.invariant.styles_are done (c.self.invariant.kept none)
    text refl ahead c.self.inside.index
    (was_read c.args.edit.now _ c.args.self.now c.self.view_is ahead c.self.inside.index (c.as_slice.ensures.items ∙ c.in_ok-gone.ensures.takes)
    (subst (λ (former : List FormerTarget). AreFormerTargetsOf c.args.edit.now c.args.self.now.tree former) (sym c.as_slice-2.ensures.items) c.in_ok-gone.ensures.former) c.self.invariant.refers)
    c.self.inside.counting c.self.invariant.counts
    (ahead_of (λ styled. IfSome c.in_ok-gone.field-0.stops (λ local. local.extent ≡ reach (looks_beside styled.sheet styled.tree) styled.tree c.args.edit.now)) _ _ c.self.view_is c.in_ok-gone.ensures.extent)
    c.in_ok-gone.ensures.local
    (ahead_of (λ styled. IfSome c.in_ok-gone.field-0.stops (λ local. local.stops.items ≡ reach_stops local.extent c.args.edit.now 0 styled.tree)) _ _ c.self.view_is c.in_ok-gone.ensures.stops)
    c.args.steps.now c.evaluated.new.steps c.evaluated.ensures.steps c.evaluated.ensures.whole in
    subst
    (λ (styled : StyledDocument).
    IsWithinWork c.args.edit.now (keyed_source styled) (record { tree = tree; sheet = c.replace_styles.new.styles.sheet }) c.args.steps.now (c.evaluated.new.steps + ((length puts + length takes) + length puts)))
    c.self.view_is
    (within_work c.args.edit.now c.self.inside.styles c.self.inside.board.held c.self.inside.arena.tree c.commit-reversal.new.self.tree c.in_ok-gone.field-0.stops c.self.invariant.styles_are done (c.self.invariant.kept none)
    c.replace_styles.new.styles.sheet (its_text c.replace_styles.new.styles text (style_texts tree) (c.replace_styles.ensures ∙ c.in-Ok.ensures.styles)) ahead c.self.inside.index
    (was_read c.args.edit.now _ c.args.self.now c.self.view_is ahead c.self.inside.index (c.as_slice.ensures.items ∙ c.in_ok-gone.ensures.takes)
    (subst (λ (former : List FormerTarget). AreFormerTargetsOf c.args.edit.now c.args.self.now.tree former) (sym c.as_slice-2.ensures.items) c.in_ok-gone.ensures.former) c.self.invariant.refers)
    c.self.inside.counting c.self.invariant.counts
    (ahead_of (λ styled. IfSome c.in_ok-gone.field-0.stops (λ local. local.extent ≡ reach (looks_beside styled.sheet styled.tree) styled.tree c.args.edit.now)) _ _ c.self.view_is c.in_ok-gone.ensures.extent)
    c.in_ok-gone.ensures.local
    (ahead_of (λ styled. IfSome c.in_ok-gone.field-0.stops (λ local. local.stops.items ≡ reach_stops local.extent c.args.edit.now 0 styled.tree)) _ _ c.self.view_is c.in_ok-gone.ensures.stops)
    c.args.steps.now (c.evaluated.new.steps + 2 * length puts) (length takes) (c.evaluated.new.steps + ((length puts + length takes) + length puts))
    (ahead_of (λ styled. IfNone c.in_ok-gone.field-0.stops (reach (looks_beside styled.sheet styled.tree) styled.tree c.args.edit.now ≡ All)) _ _ c.self.view_is c.in_ok-gone.ensures.none)
    c.in-Ok.ensures.few
    (omega (arith, ap length c.as_slice.ensures.items))
    (omega arith)
    (omega (arith, count, steps)))

pub returns-clause-stops_within_work : goal.returns-clause-stops_within_work
returns-clause-stops_within_work g c =
    let none : is_none c.self.inside.planned ≡ true = ap (λ (styled : StyledDocument). styled.settled) c.self.view_is ∙ c.requires.settled in
    let ahead : ReadAhead = record { takes = c.as_slice.result; former = c.as_slice-2.result } in
    let old = c.self.inside.arena.tree in
    let tree = c.commit-reversal.new.self.tree in
    let before = c.self.inside.styles.sheet in
    let text = edited_sheet c.args.edit.now before in
    let done =
    done_by c.args.edit.now c.self.inside.arena.tree _ c.commit-reversal.new.self.tree c.args.self.now c.arena_holds_document.ensures.document c.arena_holds_document-2.ensures.document
    (ap (λ (styled : StyledDocument). styled.tree) c.self.view_is) c.requires.allowed c.inserts_one_tree.ensures c.in_ok-prepared.ensures.edits c.commit-reversal.ensures.tree in
    let steps : c.evaluated.new.steps ≤ c.args.steps.now + (11 * element_count (without_keys tree) + element_count (without_keys old)) =
    within_elements c.args.edit.now c.self.inside.styles c.self.inside.board.held c.self.inside.arena.tree c.commit-reversal.new.self.tree c.in_ok-gone.field-0.stops c.self.invariant.styles_are done (c.self.invariant.kept none)
    text refl ahead c.self.inside.index
    (was_read c.args.edit.now _ c.args.self.now c.self.view_is ahead c.self.inside.index (c.as_slice.ensures.items ∙ c.in_ok-gone.ensures.takes)
    (subst (λ (former : List FormerTarget). AreFormerTargetsOf c.args.edit.now c.args.self.now.tree former) (sym c.as_slice-2.ensures.items) c.in_ok-gone.ensures.former) c.self.invariant.refers)
    c.self.inside.counting c.self.invariant.counts
    (ahead_of (λ styled. IfSome c.in_ok-gone.field-0.stops (λ local. local.extent ≡ reach (looks_beside styled.sheet styled.tree) styled.tree c.args.edit.now)) _ _ c.self.view_is c.in_ok-gone.ensures.extent)
    c.in_ok-gone.ensures.local
    (ahead_of (λ styled. IfSome c.in_ok-gone.field-0.stops (λ local. local.stops.items ≡ reach_stops local.extent c.args.edit.now 0 styled.tree)) _ _ c.self.view_is c.in_ok-gone.ensures.stops)
    c.args.steps.now c.evaluated.new.steps c.evaluated.ensures.steps c.evaluated.ensures.whole in
    subst (λ (styled : StyledDocument). StopsWithinWork c.args.edit.now (keyed_source styled) c.args.steps.now c.evaluated.new.steps) c.self.view_is
    (inr (
      record { tree = tree; sheet = text },
      leads c.args.edit.now before text old tree done refl,
      within_work c.args.edit.now c.self.inside.styles c.self.inside.board.held c.self.inside.arena.tree c.commit-reversal.new.self.tree c.in_ok-gone.field-0.stops c.self.invariant.styles_are done (c.self.invariant.kept none)
          text refl ahead c.self.inside.index
          (was_read c.args.edit.now _ c.args.self.now c.self.view_is ahead c.self.inside.index (c.as_slice.ensures.items ∙ c.in_ok-gone.ensures.takes)
          (subst (λ (former : List FormerTarget). AreFormerTargetsOf c.args.edit.now c.args.self.now.tree former) (sym c.as_slice-2.ensures.items) c.in_ok-gone.ensures.former) c.self.invariant.refers)
          c.self.inside.counting c.self.invariant.counts
          (ahead_of (λ styled. IfSome c.in_ok-gone.field-0.stops (λ local. local.extent ≡ reach (looks_beside styled.sheet styled.tree) styled.tree c.args.edit.now)) _ _ c.self.view_is c.in_ok-gone.ensures.extent)
          c.in_ok-gone.ensures.local
          (ahead_of (λ styled. IfSome c.in_ok-gone.field-0.stops (λ local. local.stops.items ≡ reach_stops local.extent c.args.edit.now 0 styled.tree)) _ _ c.self.view_is c.in_ok-gone.ensures.stops)
          c.args.steps.now c.evaluated.new.steps 0 c.evaluated.new.steps
          (ahead_of (λ styled. IfNone c.in_ok-gone.field-0.stops (reach (looks_beside styled.sheet styled.tree) styled.tree c.args.edit.now ≡ All)) _ _ c.self.view_is c.in_ok-gone.ensures.none)
          c.evaluated.ensures.most
          (omega arith) (omega arith) (omega (arith, steps)),
    ))
