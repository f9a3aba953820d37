-- What an editor answers, by what its engine or its history does.
use Rattle.std.proofs.Common.{◌≡◌, ◌↔◌, [], ◌∷◌, List, Option, Result, take, refl, sym, ap, subst}
use Rattle.std.specs.Prelude.{Some, None, Ok, Err, IfErr, IfOk, IfSome, IsSomeAnd, OnErr, OnOk}
use Rattle.std.proofs.lemmas.Result.{on_err_weaker, on_ok_weaker}
use Rattle.dirty_walk.specs.Books.{StyledDocument}
use Rattle.edit_inverses.specs.Versions.{AreSameVersions, IsSameVersion, Version, version_after}
use Rattle.marker_engine.specs.Edited.{edit_fault, edited as edited_source}
use Rattle.marker_engine.specs.Engines.{Source, source_of}
use Rattle.marker_engine.specs.declared.edit_fault.EditFault.{EditFault}
use Rattle.marker_engine.specs.declared.edit_fault.EditFault.TheVariants as edit_faults
use Rattle.node_arena.specs.Edits as edits
use Rattle.node_arena.specs.Edits.{place_fault}
use Rattle.node_arena.specs.declared.place_fault.PlaceFault.{PlaceFault}
use Rattle.plain_types.specs.declared.edit.Edit.{Edit}
use Rattle.undo_ring.proofs.EngineFacts.{done_is}
use Rattle.undo_ring.specs.Histories.{EditHistory, future, past, present, version_of}
use Rattle.undo_ring.specs.declared.undo_fault.UndoFault.{UndoFault}
use Rattle.undo_ring.specs.declared.undo_fault.UndoFault.TheVariants as undo_faults
use Rattle.marker_cli.specs.Editors.{AnswersEdit, AnswersStep, AreSameHistories}
use Rattle.marker_cli.specs.Versions.{Versions, begun, edited, redone, stepped_back, stepped_forth, undone}
use Rattle.marker_cli.proofs.SameLemmas.{same_version, same_versions}

-- What the engine says of an edit's place.

abbrev after : Edit → StyledDocument → Source
after edit book = record { tree = edits.edited edit (source_of book).tree; sheet = edits.edited_sheet edit (source_of book).sheet }

pub placed_none : (place : Option PlaceFault) (source new : Source) → ◌≡◌ {A = Result Source PlaceFault} (elim place [ None ↦ Ok source | Some fault ↦ Err fault ]) (Ok new)
    → (place ≡ None) × (source ≡ new)
placed_none None source new is = (refl, cc)
placed_none (Some fault) source new is = absurd (cc is)

placed : (edit : Edit) (old new : StyledDocument) → edited_source (source_of old) edit ≡ Ok (source_of new) → place_fault edit (version_of old).document ≡ None
placed edit old new is = (placed_none (place_fault edit (version_of old).document) (after edit old) (source_of new) is).0

refused_by : (P : PlaceFault → Type 0) (place : Option PlaceFault) (source : Source) → IfErr (elim place [ None ↦ Ok source | Some fault ↦ Err fault ]) P → IfSome place P
refused_by P None source refused = tt
refused_by P (Some fault) source refused = refused

memory_by : (P : Type 0) (place : Option PlaceFault) (source : Source) → IfOk (elim place [ None ↦ Ok source | Some fault ↦ Err fault ]) (λ _. P) → place ≡ None → P
memory_by P None source memory none = memory
memory_by P (Some fault) source memory none = absurd (cc none)

module _ (edit : Edit) (old new : StyledDocument) where
  -- the version that is there after an edit
  after_is : edited_source (source_of old) edit ≡ Ok (source_of new) → IsSameVersion (version_of new) (version_after edit (version_of old))
  after_is is =
      subst (λ version. IsSameVersion version (version_after edit (version_of old))) (sym (done_is edit old new (placed edit old new is) is))
      (same_version (version_after edit (version_of old)))

pub engine_memory : (result : Result (Unit {0}) EditFault) (edit : Edit) (old : StyledDocument) → IfOk (edited_source (source_of old) edit) (λ _. IfErr result (λ fault. fault ≡ edit_faults.Memory))
    → place_fault edit (version_of old).document ≡ None → IfErr result (λ fault. fault ≡ edit_faults.Memory)
engine_memory result edit old memory = memory_by (IfErr result (λ fault. fault ≡ edit_faults.Memory)) (place_fault edit (version_of old).document) (after edit old) memory

module _ (result : Result (Unit {0}) EditFault) (edit : Edit) where
  pub engine_answers : (old new : StyledDocument) → OnOk result (edited_source (source_of old) edit ≡ Ok (source_of new))
      → IfErr (edited_source (source_of old) edit) (λ fault. result ≡ Err (edit_fault fault))
      → IfOk (edited_source (source_of old) edit) (λ _. IfErr result (λ fault. fault ≡ edit_faults.Memory))
      → OnErr result (new ≡ old) → AnswersEdit result 0 edit (begun (version_of old)) (begun (version_of new))
  engine_answers old new ok refused memory failed = record {
    place = on_ok_weaker result (λ is. placed edit old new is) ok;
    done = on_ok_weaker result (λ is. record { present = after_is edit old new is; past = tt; future = tt }) ok;
    refused = refused_by (λ fault. result ≡ Err (edit_fault fault)) (place_fault edit (version_of old).document) (after edit old) refused;
    memory = engine_memory result edit old memory;
    stays = on_err_weaker result (λ same. ap (λ book. begun (version_of book)) same) failed;
  }

-- the versions of a history
abbrev pub of_history : EditHistory → Versions
of_history history = record { present = present history; past = past history; future = future history }

done_by : (result : Result (Unit {0}) EditFault) (edit : Edit) (old new : EditHistory) → OnOk result (edited_source (source_of old.book) edit ≡ Ok (source_of new.book))
    → OnOk result (AreSameVersions (past new) (take old.depth (present old ∷ past old))) → OnOk result (future new ≡ [])
    → OnOk result (AreSameHistories (of_history new) (edited old.depth edit (of_history old)))
done_by (Ok x) edit old new is behind none = record {
  present = after_is edit old.book new.book is;
  past = behind;
  future = subst (λ versions. AreSameVersions versions []) (sym none) tt;
}
done_by (Err fault) edit old new is behind none = tt

pub history_answers : (result : Result (Unit {0}) EditFault) (edit : Edit) (old new : EditHistory) → OnOk result (edited_source (source_of old.book) edit ≡ Ok (source_of new.book))
    → OnOk result (AreSameVersions (past new) (take old.depth (present old ∷ past old))) → OnOk result (future new ≡ [])
    → IfErr (edited_source (source_of old.book) edit) (λ fault. result ≡ Err (edit_fault fault))
    → IfOk (edited_source (source_of old.book) edit) (λ _. IfErr result (λ fault. fault ≡ edit_faults.Memory))
    → OnErr result (new ≡ old) → AnswersEdit result old.depth edit (of_history old) (of_history new)
history_answers result edit old new ok behind none refused memory failed = record {
  place = on_ok_weaker result (λ is. placed edit old.book new.book is) ok;
  done = done_by result edit old new ok behind none;
  refused = refused_by (λ fault. result ≡ Err (edit_fault fault)) (place_fault edit (version_of old.book).document) (after edit old.book) refused;
  memory = engine_memory result edit old.book memory;
  stays = on_err_weaker result (λ same. ap of_history same) failed;
}

-- Steps back and forth.

pub no_step : (versions : Versions) (step : Option Versions) → step ≡ None → AnswersStep (Err undo_faults.Nothing) versions versions step
no_step versions step none = record { done = tt; nothing = (λ is. none, λ is. refl); stays = refl }

back_by : (result : Result (Unit {0}) UndoFault) (old new : EditHistory) → OnOk result (past old ≡ present new ∷ past new)
    → OnOk result (AreSameVersions (future new) (present old ∷ future old))
    → OnOk result (IsSomeAnd (undone (of_history old)) (λ led. AreSameHistories (of_history new) led))
back_by (Ok x) old new behind ahead =
    subst (λ versions. IsSomeAnd (stepped_back (present old) versions (future old)) (λ led. AreSameHistories (of_history new) led)) (sym behind)
    (record { present = same_version (present new); past = same_versions (past new); future = ahead })
back_by (Err fault) old new behind ahead = tt

none_back : (present : Version) (past future : List Version) → stepped_back present past future ≡ None → past ≡ []
none_back present [] future is = refl
none_back present (version ∷ past) future is = absurd (cc)

pub back_answers : (result : Result (Unit {0}) UndoFault) (old new : EditHistory) → OnOk result (past old ≡ present new ∷ past new)
    → OnOk result (AreSameVersions (future new) (present old ∷ future old)) → (result ≡ Err undo_faults.Nothing) ↔ (past old ≡ [])
    → OnErr result (new ≡ old) → AnswersStep result (of_history old) (of_history new) (undone (of_history old))
back_answers result old new behind ahead none failed = record {
  done = back_by result old new behind ahead;
  nothing = (λ is. ap (λ versions. stepped_back (present old) versions (future old)) (none.0 is), λ is. none.1 (none_back (present old) (past old) (future old) is));
  stays = on_err_weaker result (λ same. ap of_history same) failed;
}

forth_by : (result : Result (Unit {0}) UndoFault) (old new : EditHistory) → OnOk result (future old ≡ present new ∷ future new)
    → OnOk result (AreSameVersions (past new) (present old ∷ past old))
    → OnOk result (IsSomeAnd (redone (of_history old)) (λ led. AreSameHistories (of_history new) led))
forth_by (Ok x) old new ahead behind =
    subst (λ versions. IsSomeAnd (stepped_forth (present old) (past old) versions) (λ led. AreSameHistories (of_history new) led)) (sym ahead)
    (record { present = same_version (present new); past = behind; future = same_versions (future new) })
forth_by (Err fault) old new ahead behind = tt

none_forth : (present : Version) (past future : List Version) → stepped_forth present past future ≡ None → future ≡ []
none_forth present past [] is = refl
none_forth present past (version ∷ future) is = absurd (cc)

pub forth_answers : (result : Result (Unit {0}) UndoFault) (old new : EditHistory) → OnOk result (future old ≡ present new ∷ future new)
    → OnOk result (AreSameVersions (past new) (present old ∷ past old)) → (result ≡ Err undo_faults.Nothing) ↔ (future old ≡ [])
    → OnErr result (new ≡ old) → AnswersStep result (of_history old) (of_history new) (redone (of_history old))
forth_answers result old new ahead behind none failed = record {
  done = forth_by result old new ahead behind;
  nothing = (λ is. ap (λ versions. stepped_forth (present old) (past old) versions) (none.0 is), λ is. none.1 (none_forth (present old) (past old) (future old) is));
  stays = on_err_weaker result (λ same. ap of_history same) failed;
}
