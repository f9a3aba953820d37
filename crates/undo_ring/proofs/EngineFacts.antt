-- What an engine answers to an edit.
use Rattle.std.proofs.Common.{◌≡◌, ◌≤◌, ◌+◌, ◌*◌, ℕ, Option, Some, None, Result, Ok, Err, IfOk, IfErr, IsErr, IsErrAnd, refl, sym, ap, subst, ◌∙◌, arith}
use Rattle.dirty_walk.specs.Books.{StyledDocument}
use Rattle.document_walk.specs.Elements.{element_count}
use Rattle.edit_inverses.specs.Versions.{Version, version_after}
use Rattle.marker_engine.specs.Edited.{edit_fault, edited}
use Rattle.marker_engine.specs.Engines.{Source, source_of}
use Rattle.marker_engine.specs.declared.edit_fault.EditFault.{EditFault}
use Rattle.node_arena.specs.Edits as edits
use Rattle.node_arena.specs.declared.place_fault.PlaceFault.{PlaceFault}
use Rattle.plain_types.specs.declared.edit.Edit.{Edit}
use Rattle.undo_ring.specs.Histories.{version_of}
use Rattle.undo_ring.specs.StepsTaken.{most_steps}

-- the source that an edit makes of one in which it has its place
abbrev after : Edit → Source → Source
after edit source = record { tree = edits.edited edit source.tree; sheet = edits.edited_sheet edit source.sheet }

pub allowed_ok : (edit : Edit) (source : Source) → edits.place_fault edit source.tree ≡ None → edited source edit ≡ Ok (after edit source)
allowed_ok edit source none = rw (edited, none) refl

abbrev accepted : Source → Result Source PlaceFault
accepted source = Ok source

ok_same : (a b : Source) → accepted a ≡ accepted b → a ≡ b
ok_same a b e = cc

pub done_is : (edit : Edit) (old new : StyledDocument) → edits.place_fault edit (version_of old).document ≡ None → edited (source_of old) edit ≡ Ok (source_of new) → version_of new ≡ version_after edit (version_of old)
done_is edit old new allowed is =
    let same : source_of new ≡ after edit (source_of old) = ok_same (source_of new) (after edit (source_of old)) (sym is ∙ allowed_ok edit (source_of old) allowed) in
    let version : Source → Version = λ source. record { document = source.tree; sheet = source.sheet } in
    ap version same

pub steps_are : (edit : Edit) (old : StyledDocument) (low high : ℕ) → edits.place_fault edit (version_of old).document ≡ None
    → IfOk (edited (source_of old) edit) (λ source. low ≤ high + (12 * element_count source.tree + 2 * element_count (source_of old).tree))
    → low ≤ high + most_steps edit (version_of old)
steps_are edit old low high allowed bound =
    subst (λ (outcome : Result Source PlaceFault). IfOk outcome (λ source. low ≤ high + (12 * element_count source.tree + 2 * element_count (source_of old).tree)))
    (allowed_ok edit (source_of old) allowed) bound

abbrev pub refusal : EditFault → Result (Unit {0}) EditFault
refusal fault = Err fault

-- an edit whose fault is told is refused so, and takes no step
pub told_refused : (outcome : Result Source PlaceFault) (fault : EditFault) → IfErr outcome (λ cause. Some fault ≡ Some (edit_fault cause)) → IfErr outcome (λ cause. refusal fault ≡ refusal (edit_fault cause))
told_refused (Ok source) fault told = tt
told_refused (Err cause) fault told = let same : fault ≡ edit_fault cause = cc in ap refusal same

pub told_not_allowed : (P : Source → Type 0) (outcome : Result Source PlaceFault) (fault : EditFault) → IfOk outcome (λ source. Some fault ≡ None) → IfOk outcome P
told_not_allowed P (Ok source) fault told = absurd (let e : Some fault ≡ None = told in cc)
told_not_allowed P (Err cause) fault told = tt

-- an edit of which no fault is told has its place
untold : (place : Option PlaceFault) (source : Source) → IfErr (elim place [ None ↦ Ok source | Some fault ↦ Err fault ]) (λ cause. None ≡ Some (edit_fault cause)) → place ≡ None
untold None source told = refl
untold (Some fault) source told = absurd (let e : None ≡ Some (edit_fault fault) = told in cc)

pub untold_allowed : (edit : Edit) (source : Source) → IfErr (edited source edit) (λ cause. None ≡ Some (edit_fault cause)) → edits.place_fault edit source.tree ≡ None
untold_allowed edit source told = untold (edits.place_fault edit source.tree) (after edit source) told

-- an edit that has its place isn't refused
pub not_refused : (P : PlaceFault → Type 0) (edit : Edit) (source : Source) → edits.place_fault edit source.tree ≡ None → IfErr (edited source edit) P
not_refused P edit source none = subst (λ (outcome : Result Source PlaceFault). IfErr outcome P) (sym (allowed_ok edit source none)) tt

-- what is so whatever comes of it
pub ok_all : (P : Source → Type 0) (outcome : Result Source PlaceFault) → ((source : Source) → P source) → IfOk outcome P
ok_all P (Ok source) all = all source
ok_all P (Err cause) all = tt

pub err_all : (P : PlaceFault → Type 0) (outcome : Result Source PlaceFault) → ((cause : PlaceFault) → P cause) → IfErr outcome P
err_all P (Ok source) all = tt
err_all P (Err cause) all = all cause

-- an error of which it is told which it is
pub err_is : {A E : Type 0} (e : E) (r : Result A E) → IsErr r × IsErrAnd r (λ error. error ≡ e) → IfErr r (λ error. error ≡ e)
err_is e (Ok a) is = tt
err_is e (Err error) is = is.1

-- a fault that is handed on is the one that was answered
pub handed_on : {A E : Type 0} (outcome : Result Source PlaceFault) (fault told : E) (r : Result A E) → IfOk outcome (λ source. fault ≡ told) → IsErr r × IsErrAnd r (λ error. error ≡ fault) → IfOk outcome (λ source. IfErr r (λ error. error ≡ told))
handed_on (Ok source) fault told (Ok a) is handed = tt
handed_on (Ok source) fault told (Err error) is handed = handed.1 ∙ is
handed_on (Err cause) fault told r is handed = tt
