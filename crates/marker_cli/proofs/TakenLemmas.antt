-- What the calls of a run take, by the work of its edits.
use Rattle.std.proofs.Common.{◌≡◌, ◌⊎◌, ℕ, ◌<◌, ◌≤◌, ◌+◌, ◌*◌, ◌-◌, List, [], ◌∷◌, length, drop, get_or, Option, Result, arith, refl, subst, sym, ◌∙◌, ap, add-one, inl, inr, sum}
use Rattle.std.specs.Prelude.{Some, None, Ok, Err, IfSome, IsSomeAnd, OnErr, OnOk, slice_get, unwrap_or}
use Rattle.std.proofs.Math.Seq.{drop-cons}
use Rattle.std.proofs.lemmas.Result.{on_ok_weaker}
use Rattle.dirty_walk.specs.Books.{StyledDocument, keyed_source}
use Rattle.dirty_walk.specs.WorkBounds.{IsWithinWork, StopsWithinWork}
use Rattle.document_walk.specs.Elements.{element_count}
use Rattle.edit_inverses.specs.Versions.{IsSameVersion, Version, version_after, versions_after}
use Rattle.edit_merge.specs.Laws.{InsertsOneTree}
use Rattle.edit_script.specs.declared.action.Action.{Action}
use Rattle.edit_script.specs.declared.action.Action.TheVariants.{Change, SheetFile, Show, Undo, Redo, Enter}
use Rattle.edit_script.specs.declared.command.Command.{Command}
use Rattle.edit_work.specs.KeyedSources.{KeyedSource}
use Rattle.edit_work.specs.Laws.{Leads}
use Rattle.forest.specs.Keys.{without_keys}
use Rattle.marker_engine.specs.Edited.{edited as edited_source}
use Rattle.marker_engine.specs.Engines.{Source}
use Rattle.marker_engine.specs.declared.edit_fault.EditFault.{EditFault}
use Rattle.node_arena.specs.Document.{IsKeyedDocument}
use Rattle.node_arena.specs.Edits as edits
use Rattle.node_arena.specs.Edits.{IsEdited, edited_sheet, place_fault}
use Rattle.node_arena.specs.declared.place_fault.PlaceFault.{PlaceFault}
use Rattle.plain_types.specs.declared.edit.Edit.{Edit}
use Rattle.plain_types.specs.declared.edit.Edit.TheVariants.{ReplaceSheet}
use Rattle.ports.specs.Files.{Files}
use Rattle.same_documents.proofs.SameEdits.{same_trans}
use Rattle.undo_ring.specs.Histories.{version_of}
use Rattle.undo_ring.specs.declared.undo_fault.UndoFault.{UndoFault}
use Rattle.undo_ring.specs.declared.undo_fault.UndoFault.TheVariants as undo_faults
use Rattle.marker_cli.specs.declared.status.FileAt.TheVariants.{Line}
use Rattle.marker_cli.specs.declared.status.Status.{Status}
use Rattle.marker_cli.specs.EditSteps.{change_steps, edit_steps, placed_steps}
use Rattle.marker_cli.specs.Editors.{AreSameHistories}
use Rattle.marker_cli.specs.Machinery.Takings.{Applies, Steps, Takes, TakesEdit, TakesStep}
use Rattle.marker_cli.specs.Turns.{text_in}
use Rattle.marker_cli.specs.Versions.{Versions, edited, redone, stepped_back, stepped_forth, undone}
use Rattle.marker_cli.specs.WorkSteps.{ActionTakes, EditTakes, EditsTake, IsApplied, IsStepped, IsWithinBounds, ScriptTakes, StepTakes, TakenWith, keyless}
use Rattle.marker_cli.proofs.EditorLemmas.{placed_none}
use Rattle.marker_cli.proofs.SameLemmas.{AreSameSteps, back_same, edited_same, forth_same, same_version}

-- A run may end before any call.

pub none_by_edit : (place : Option PlaceFault) (edit : Edit) (source : KeyedSource) (Stays : List ℕ → Type 0) (Next : KeyedSource → List ℕ → Type 0) → Stays []
    → EditTakes place edit source Stays Next []
none_by_edit None edit source Stays Next none = tt
none_by_edit (Some fault) edit source Stays Next none = none

pub none_by_step : (step : Option Versions) (versions : Versions) (source : KeyedSource) (Next : Versions → KeyedSource → List ℕ → Type 0) → Next versions source []
    → StepTakes step versions source Next []
none_by_step None versions source Next none = none
none_by_step (Some led) versions source Next none = tt

pub none_by_text : (given : Result (List ℕ) Status) (Next : List ℕ → List ℕ → Type 0) → ((text : List ℕ) → Next text []) → TakenWith given Next []
none_by_text (Ok text) Next none = none text
none_by_text (Err status) Next none = refl

none_by_action : (files : Files) (depth number : ℕ) (action : Action) (versions : Versions) (source : KeyedSource) (Next : Versions → KeyedSource → List ℕ → Type 0)
    → ((versions : Versions) (source : KeyedSource) → Next versions source []) → ActionTakes files depth number action versions source Next []
none_by_action files depth number (Change edit) versions source Next none =
    none_by_edit (place_fault edit (without_keys source.tree)) edit source (Next versions source) (Next (edited depth edit versions)) (none versions source)
none_by_action files depth number (SheetFile name) versions source Next none =
    none_by_text (text_in (Line number) (files name)) (λ text. EditTakes None (ReplaceSheet text) source (Next versions source) (Next (edited depth (ReplaceSheet text) versions))) (λ text. tt)
none_by_action files depth number Show versions source Next none = tt
none_by_action files depth number Undo versions source Next none = none_by_step (undone versions) versions source Next (none versions source)
none_by_action files depth number Redo versions source Next none = none_by_step (redone versions) versions source Next (none versions source)
none_by_action files depth number (Enter name) versions source Next none = none versions source

pub none_taken : (files : Files) (depth : ℕ) (commands : List Command) (versions : Versions) (source : KeyedSource) → ScriptTakes files depth commands versions source []
none_taken files depth [] versions source = refl
none_taken files depth (command ∷ commands) versions source =
    none_by_action files depth command.line command.action versions source (ScriptTakes files depth commands) (none_taken files depth commands)

-- Same versions let the calls take the same.

more_by_edit : (place : Option PlaceFault) (edit : Edit) (source : KeyedSource) (Stays Still : List ℕ → Type 0) (Next More : KeyedSource → List ℕ → Type 0) (taken : List ℕ)
    → (Stays taken → Still taken) → ((other : KeyedSource) (rest : List ℕ) → Next other rest → More other rest) → EditTakes place edit source Stays Next taken
    → EditTakes place edit source Still More taken
more_by_edit None edit source Stays Still Next More [] still more takes = tt
more_by_edit None edit source Stays Still Next More (steps ∷ rest) still more takes = (takes.0, takes.1, more takes.0 rest takes.2)
more_by_edit (Some fault) edit source Stays Still Next More taken still more takes = still takes

more_by_text : (given : Result (List ℕ) Status) (Next More : List ℕ → List ℕ → Type 0) (taken : List ℕ) → ((text : List ℕ) → Next text taken → More text taken)
    → TakenWith given Next taken → TakenWith given More taken
more_by_text (Ok text) Next More taken more takes = more text takes
more_by_text (Err status) Next More taken more takes = takes

same_stepped : (version other : Version) (before after : KeyedSource) (steps : ℕ) → IsSameVersion version other → IsStepped version before after steps → IsStepped other before after steps
same_stepped version other before after steps same is = record {
  edit = is.edit;
  keyed = is.keyed;
  edited = is.edited;
  leads = record { document = same_trans (without_keys after.tree) version.document other.document is.leads.document same.document; sheet = is.leads.sheet ∙ same.sheet };
  bounds = is.bounds;
}

-- what comes next takes the same from same versions on
abbrev pub TakesAlike : (Versions → KeyedSource → List ℕ → Type 0) → Type 0
TakesAlike Next = (versions other : Versions) → AreSameHistories versions other → (source : KeyedSource) (taken : List ℕ) → Next versions source taken → Next other source taken

module _ (Next : Versions → KeyedSource → List ℕ → Type 0) (alike : TakesAlike Next) (versions others : Versions) (same : AreSameHistories versions others) (source : KeyedSource) where
  same_by_step : (step beside : Option Versions) → AreSameSteps step beside → (taken : List ℕ) → StepTakes step versions source Next taken → StepTakes beside others source Next taken
  same_by_step None None led taken takes = alike versions others same source taken takes
  same_by_step None (Some other) led taken takes = absurd led
  same_by_step (Some other) None led taken takes = absurd led
  same_by_step (Some back) (Some other) led [] takes = tt
  same_by_step (Some back) (Some other) led (steps ∷ rest) takes =
      (takes.0, same_stepped back.present other.present source takes.0 steps led.present takes.1, alike back other led takes.0 rest takes.2)

  same_by_show : (taken : List ℕ) → ActionTakes (λ name. None) 0 0 Show versions source Next taken → ActionTakes (λ name. None) 0 0 Show others source Next taken
  same_by_show [] takes = tt
  same_by_show (steps ∷ rest) takes = (takes.0, alike versions others same source rest takes.1)

  same_by_action : (files : Files) (depth number : ℕ) (action : Action) (taken : List ℕ) → ActionTakes files depth number action versions source Next taken
      → ActionTakes files depth number action others source Next taken
  same_by_action files depth number (Change edit) taken takes =
      more_by_edit (place_fault edit (without_keys source.tree)) edit source (Next versions source) (Next others source) (Next (edited depth edit versions)) (Next (edited depth edit others)) taken
      (alike versions others same source taken) (alike (edited depth edit versions) (edited depth edit others) (edited_same depth edit versions others same)) takes
  same_by_action files depth number (SheetFile name) taken takes =
      more_by_text (text_in (Line number) (files name)) (λ text. EditTakes None (ReplaceSheet text) source (Next versions source) (Next (edited depth (ReplaceSheet text) versions)))
      (λ text. EditTakes None (ReplaceSheet text) source (Next others source) (Next (edited depth (ReplaceSheet text) others))) taken
      (λ text. more_by_edit None (ReplaceSheet text) source (Next versions source) (Next others source) (Next (edited depth (ReplaceSheet text) versions))
      (Next (edited depth (ReplaceSheet text) others)) taken (alike versions others same source taken)
      (alike (edited depth (ReplaceSheet text) versions) (edited depth (ReplaceSheet text) others) (edited_same depth (ReplaceSheet text) versions others same)))
      takes
  same_by_action files depth number Show taken takes = same_by_show taken takes
  same_by_action files depth number Undo taken takes =
      same_by_step (undone versions) (undone others)
      (back_same versions.present others.present versions.past others.past versions.future others.future same.present same.past same.future) taken takes
  same_by_action files depth number Redo taken takes =
      same_by_step (redone versions) (redone others)
      (forth_same versions.present others.present versions.past others.past versions.future others.future same.present same.past same.future) taken takes
  same_by_action files depth number (Enter name) taken takes = alike versions others same source taken takes

pub same_taken : (files : Files) (depth : ℕ) (commands : List Command) → TakesAlike (ScriptTakes files depth commands)
same_taken files depth [] versions others same source taken takes = takes
same_taken files depth (command ∷ commands) versions others same source taken takes =
    same_by_action (ScriptTakes files depth commands) (same_taken files depth commands) versions others same source files depth command.line command.action taken takes

-- the next command
pub taken_next : (files : Files) (depth : ℕ) (commands : List Command) (place : ℕ) (command : Command) (versions : Versions) (source : KeyedSource) (taken : List ℕ)
    → place < length commands → command ≡ get_or commands place command
    → ActionTakes files depth command.line command.action versions source (ScriptTakes files depth (drop (place + 1) commands)) taken
    → ScriptTakes files depth (drop place commands) versions source taken
taken_next files depth commands place command versions source taken below is takes =
    let next : drop place commands ≡ command ∷ drop (place + 1) commands = rw (add-one, drop-cons commands place command below, ← is) refl in
    subst (λ left. ScriptTakes files depth left versions source taken) (sym next) takes

-- What one call takes.

bounds_by : (edit : Edit) (before after : KeyedSource) (old new : ℕ) → IsWithinWork edit before after old new → new ≤ old + change_steps (keyless before) (keyless after)
    → IsWithinBounds edit before after (new - old)
bounds_by edit before after old new paid sized = record { by_work = omega (arith, paid); by_size = omega (arith, sized) }

applied : (edit : Edit) (before after : KeyedSource) (old new : ℕ) → Leads edit before after → IsWithinWork edit before after old new
    → new ≤ old + change_steps (keyless before) (version_after edit (keyless before)) → Applies edit before after old new
applied edit before after old new leads paid sized =
    let same = ap (λ document. element_count document) leads.done.edited.tree in
    (new - old, record { leads = leads; bounds = bounds_by edit before after old new paid (omega (arith, sized, same)) }, omega arith)

placed_most : (edit : Edit) (version : Version) (place : Option PlaceFault) (low high : ℕ) → place ≡ None → low ≤ high + placed_steps version edit place
    → low ≤ high + change_steps version (version_after edit version)
placed_most edit version None low high is most = most
placed_most edit version (Some fault) low high is most = absurd (cc is)

-- a document and its sheet without keys, as an engine speaks of them
abbrev plain : KeyedSource → Source
plain source = record { tree = without_keys source.tree; sheet = source.sheet }

abbrev after : Edit → Source → Source
after edit source = record { tree = edits.edited edit source.tree; sheet = edited_sheet edit source.sheet }

module _ (edit : Edit) (before left : KeyedSource) (old new : ℕ) (most : new ≤ old + edit_steps (keyless before) edit) where
  engine_done : IsKeyedDocument before.tree → IsKeyedDocument left.tree → InsertsOneTree edit → edited_source (plain before) edit ≡ Ok (plain left) → IsEdited edit before.tree left.tree
      → IsWithinWork edit before left old new → Applies edit before left old new
  engine_done was is one ok keys paid =
      let place : Option PlaceFault = place_fault edit (without_keys before.tree) in
      let so : (place ≡ None) × (after edit (plain before) ≡ plain left) = placed_none place (after edit (plain before)) (plain left) ok in
      let leads : Leads edit before left = record {
        done = record { before = was; after = is; allowed = so.0; fragment = one; edited = keys };
        sheet = ap (λ source. source.sheet) (sym so.1);
      } in
      applied edit before left old new leads paid (placed_most edit (keyless before) place new old so.0 most)

  engine_stops : StopsWithinWork edit before old new → (new ≤ old) ⊎ ((after : KeyedSource) × Applies edit before after old new)
  engine_stops (inl same) = inl (omega (arith, same))
  engine_stops (inr (left, leads, paid)) =
      inr (left, applied edit before left old new leads paid (placed_most edit (keyless before) (place_fault edit (without_keys before.tree)) new old leads.done.allowed most))

-- what an engine takes, by what it says of an edit
pub engine_took : (result : Result (Unit {0}) EditFault) (edit : Edit) (before left : KeyedSource) (old new : ℕ) → IsKeyedDocument before.tree → IsKeyedDocument left.tree → InsertsOneTree edit
    → OnOk result (edited_source (plain before) edit ≡ Ok (plain left)) → OnOk result (IsEdited edit before.tree left.tree)
    → OnOk result (IsWithinWork edit before left old new) → OnErr result (StopsWithinWork edit before old new)
    → new ≤ old + edit_steps (keyless before) edit → OnErr result (left ≡ before) → TakesEdit result edit before left old new
engine_took (Ok value) edit before left old new was is one ok keys paid stops most same =
    record { done = engine_done edit before left old new most was is one ok keys paid; stops = tt; stays = tt }
engine_took (Err fault) edit before left old new was is one ok keys paid stops most same = record { done = tt; stops = engine_stops edit before left old new most stops; stays = same }

-- What a step takes.

stepped : (edit : Edit) (version : Version) (before after : KeyedSource) (old new : ℕ) → IsKeyedDocument after.tree → IsEdited edit before.tree after.tree → version ≡ keyless after
    → IsWithinWork edit before after old new → new ≤ old + change_steps (keyless before) version → Steps version before after old new
stepped edit version before after old new keyed edited is paid sized =
    let same = ap (λ v. element_count v.document) is in (
      new - old,
      record {
        edit = edit;
        keyed = keyed;
        edited = edited;
        leads = subst (λ v. IsSameVersion (keyless after) v) (sym is) (same_version (keyless after));
        bounds = bounds_by edit before after old new paid (omega (arith, sized, same));
      },
      omega arith,
    )

step_stops : (edit : Edit) (version : Version) (before : KeyedSource) (old new : ℕ) → version ≡ version_after edit (keyless before) → StopsWithinWork edit before old new
    → new ≤ old + change_steps (keyless before) version → (new ≤ old) ⊎ ((after : KeyedSource) × Steps version before after old new)
step_stops edit version before old new is (inl same) sized = inl (omega (arith, same))
step_stops edit version before old new is (inr (after, leads, paid)) sized =
    let led : version_after edit (keyless before) ≡ keyless after = λ i. record { document = sym leads.done.edited.tree i; sheet = sym leads.sheet i } in
    inr (after, stepped edit version before after old new leads.done.after leads.done.edited (is ∙ led) paid sized)

took_step : (result : Result (Unit {0}) UndoFault) (edit : Edit) (led : Versions) (before after : KeyedSource) (old new : ℕ) → IsKeyedDocument after.tree
    → led.present ≡ version_after edit (keyless before) → OnOk result (led.present ≡ keyless after) → OnOk result (IsEdited edit before.tree after.tree)
    → OnOk result (IsWithinWork edit before after old new) → OnErr result (StopsWithinWork edit before old new) → new ≤ old + change_steps (keyless before) led.present
    → OnErr result (after ≡ before) → TakesStep result (Some led) before after old new
took_step (Ok value) edit led before after old new keyed is present edited paid stops most same =
    record { done = stepped edit led.present before after old new keyed edited present paid most; stops = tt; stays = tt }
took_step (Err fault) edit led before after old new keyed is present edited paid stops most same =
    record { done = tt; stops = step_stops edit led.present before old new is stops most; stays = same }

took_none : (result : Result (Unit {0}) UndoFault) (before after : KeyedSource) (old new : ℕ) → new ≡ old → OnErr result (after ≡ before) → TakesStep result None before after old new
took_none (Ok value) before after old new still same = record { done = tt; stops = tt; stays = tt }
took_none (Err fault) before after old new still same = record { done = tt; stops = inl (omega (arith, still)); stays = same }

-- no step where no history is kept
pub took_nothing : (source : KeyedSource) (step : Option Versions) (steps : ℕ) → TakesStep (Err undo_faults.Nothing) step source source steps steps
took_nothing source step steps = record { done = tt; stops = inl (omega arith); stays = refl }

first_is : (version other : Version) (versions others : List Version) → version ∷ versions ≡ other ∷ others → version ≡ other
first_is version other versions others is = ap (λ list. get_or list 0 version) is

module _ (result : Result (Unit {0}) UndoFault) (old new : StyledDocument) (rest : List Version) (low high : ℕ) (keyed : IsKeyedDocument new.tree) where
  pub back_took : (undos : List Edit) (future : List Version) → OnOk result (versions_after undos (version_of old) ≡ version_of new ∷ rest)
      → OnOk result (IfSome (slice_get undos 0) (λ edit. IsEdited edit old.tree new.tree))
      → OnOk result (IfSome (slice_get undos 0) (λ edit. IsWithinWork edit (keyed_source old) (keyed_source new) high low))
      → OnErr result (IfSome (slice_get undos 0) (λ edit. StopsWithinWork edit (keyed_source old) high low))
      → IfSome (slice_get (versions_after undos (version_of old)) 0) (λ version. low ≤ high + (12 * element_count version.document + 2 * element_count (version_of old).document))
      → (versions_after undos (version_of old) ≡ [] → low ≡ high) → OnErr result (keyed_source new ≡ keyed_source old)
      → TakesStep result (stepped_back (version_of old) (versions_after undos (version_of old)) future) (keyed_source old) (keyed_source new) high low
  back_took [] future led edited paid stops most none same = took_none result (keyed_source old) (keyed_source new) high low (none refl) same
  back_took (edit ∷ edits) future led edited paid stops most none same =
      let version : Version = version_after edit (version_of old) in
      took_step result edit (record { present = version; past = versions_after edits version; future = version_of old ∷ future }) (keyed_source old) (keyed_source new) high low keyed refl
      (on_ok_weaker result (first_is version (version_of new) (versions_after edits version) rest) led) edited paid stops most same

  pub forth_took : (redos : List Edit) (past : List Version) → OnOk result (versions_after redos (version_of old) ≡ version_of new ∷ rest)
      → OnOk result (IfSome (slice_get redos 0) (λ edit. IsEdited edit old.tree new.tree))
      → OnOk result (IfSome (slice_get redos 0) (λ edit. IsWithinWork edit (keyed_source old) (keyed_source new) high low))
      → OnErr result (IfSome (slice_get redos 0) (λ edit. StopsWithinWork edit (keyed_source old) high low))
      → IfSome (slice_get (versions_after redos (version_of old)) 0) (λ version. low ≤ high + (12 * element_count version.document + 2 * element_count (version_of old).document))
      → (versions_after redos (version_of old) ≡ [] → low ≡ high) → OnErr result (keyed_source new ≡ keyed_source old)
      → TakesStep result (stepped_forth (version_of old) past (versions_after redos (version_of old))) (keyed_source old) (keyed_source new) high low
  forth_took [] past led edited paid stops most none same = took_none result (keyed_source old) (keyed_source new) high low (none refl) same
  forth_took (edit ∷ edits) past led edited paid stops most none same =
      let version : Version = version_after edit (version_of old) in
      took_step result edit (record { present = version; past = version_of old ∷ past; future = versions_after edits version }) (keyed_source old) (keyed_source new) high low keyed refl
      (on_ok_weaker result (first_is version (version_of new) (versions_after edits version) rest) led) edited paid stops most same
