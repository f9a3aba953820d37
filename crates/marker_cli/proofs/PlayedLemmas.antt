-- What the parts of a run take, by the work of its edits.
use Rattle.std.proofs.Common.{◌≡◌, ◌⊎◌, ℕ, ◌<◌, ◌≤◌, ◌+◌, List, [], ◌∷◌, length, drop, get_or, Option, Result, add-one, arith, refl, subst, sym, inl, inr}
use Rattle.std.specs.Prelude.{Some, None, Ok, Err, IfErr, IfSome, IsSomeAnd, OnErr, sum}
use Rattle.std.proofs.lemmas.List.Sums.{sum_by-cons}
use Rattle.std.specs.Result.{IsErr}
use Rattle.std.proofs.Math.ListN.{drop_of_length-le}
use Rattle.std.proofs.Math.Seq.{drop-cons}
use Rattle.edit_inverses.specs.Versions.{Version}
use Rattle.edit_script.specs.declared.action.Action.{Action}
use Rattle.edit_script.specs.declared.command.Command.{Command}
use Rattle.edit_work.specs.KeyedSources.{KeyedSource}
use Rattle.forest.specs.Forest.{Forest}
use Rattle.forest.specs.Keys.{without_keys}
use Rattle.marker_engine.specs.declared.edit_fault.EditFault.{EditFault}
use Rattle.marker_engine.specs.declared.edit_fault.EditFault.TheVariants as edit_faults
use Rattle.node_arena.specs.Edits.{place_fault}
use Rattle.node_arena.specs.declared.place_fault.PlaceFault.{PlaceFault}
use Rattle.plain_types.specs.declared.edit.Edit.{Edit}
use Rattle.plain_types.specs.declared.node.Node.{Node}
use Rattle.ports.specs.Files.{Files}
use Rattle.undo_ring.specs.declared.undo_fault.UndoFault.{UndoFault}
use Rattle.undo_ring.specs.declared.undo_fault.UndoFault.TheVariants as undo_faults
use Rattle.marker_cli.specs.declared.editor.Editor.{Editor}
use Rattle.marker_cli.specs.declared.editor.Editor.TheVariants.{Plain, Versioned}
use Rattle.marker_cli.specs.declared.status.FileAt.TheVariants.{Word}
use Rattle.marker_cli.specs.declared.status.Status.{Status}
use Rattle.marker_cli.specs.Documents.{Reading, tree_of}
use Rattle.marker_cli.specs.Edit.{commands_of, kept_edits}
use Rattle.marker_cli.specs.EditSteps.{edit_steps, placed_steps, show_steps}
use Rattle.marker_cli.specs.Editors.{AnswersEdit, AnswersStep, AreSameHistories, document_of, versions_of}
use Rattle.marker_cli.specs.Machinery.Takings.{Applies, Steps, Takes, TakesEdit, TakesStep}
use Rattle.marker_cli.specs.Turns.{text_in}
use Rattle.marker_cli.specs.Versions.{Versions, begun, edited}
use Rattle.marker_cli.specs.WorkSteps.{ActionTakes, EditTakes, EditsTake, IsApplied, IsScriptWithinWork, IsWithinCalls, ScriptTakes, ShowTakes, StepTakes, TakenWith, WithinWith, keyless}
use Rattle.marker_cli.proofs.PlayLemmas.{where_err, where_ok}
use Rattle.marker_cli.proofs.TakenLemmas.{none_by_edit, none_by_step, none_taken, same_taken}

-- the version that is there is that of the document with its keys
pub version_there : (editor : Editor) → (versions_of editor).present ≡ keyless (document_of editor)
version_there (Plain engine) = refl
version_there (Versioned history) = refl

pub takes_weaker : {A E : Type 0} (result : Result A E) (All More Rest : List ℕ → Type 0) (old new : ℕ) → ((taken : List ℕ) → All taken → More taken) → Takes All Rest old new result
    → Takes More Rest old new result
takes_weaker (Ok value) All More Rest old new more takes = record {
  on = λ rest follows. let all = takes.on rest follows in (all.0, more all.0 all.1, all.2);
  ends = tt;
}
takes_weaker (Err status) All More Rest old new more takes = record { on = tt; ends = (takes.ends.0, more takes.ends.0 takes.ends.1, takes.ends.2) }

-- a part that ended the run with no step
pub takes_none : {A E : Type 0} (result : Result A E) (All Rest : List ℕ → Type 0) (old new : ℕ) → IsErr result → All [] → new ≤ old → Takes All Rest old new result
takes_none (Ok value) All Rest old new is none within = absurd (cc is)
takes_none (Err status) All Rest old new is none within = record { on = tt; ends = ([], none, omega (arith, within)) }

-- and one that ended it with these calls
pub takes_ended : {A E : Type 0} (result : Result A E) (All Rest : List ℕ → Type 0) (old new : ℕ) (taken : List ℕ) → IsErr result → All taken → new ≤ old + sum taken → Takes All Rest old new result
takes_ended (Ok value) All Rest old new taken is all within = absurd (cc is)
takes_ended (Err status) All Rest old new taken is all within = record { on = tt; ends = (taken, all, within) }

-- a part that took no step, where what follows is the same
pub takes_nothing : {A E : Type 0} (result : Result A E) (All Rest : List ℕ → Type 0) (old new : ℕ) → ((rest : List ℕ) → Rest rest → All rest) → All [] → new ≤ old
    → Takes All Rest old new result
takes_nothing (Ok value) All Rest old new follows none within = record { on = λ rest takes. (rest, follows rest takes, omega (arith, within)); ends = tt }
takes_nothing (Err status) All Rest old new follows none within = record { on = tt; ends = ([], none, omega (arith, within)) }

-- a call, and those behind it
pub with_call : (steps : ℕ) (rest : List ℕ) → sum (steps ∷ rest) ≡ steps + sum rest
with_call steps rest = sum_by-cons (λ count. count) steps rest

-- An edit.

-- one that is refused takes no step
pub none_refused : (edit : Edit) (version : Version) (place : Option PlaceFault) (fault : PlaceFault) (old new : ℕ) → place ≡ Some fault → new ≤ old + placed_steps version edit place → new ≤ old
none_refused edit version None fault old new is most = absurd (cc is)
none_refused edit version (Some other) fault old new is most = omega (arith, most)

module _ (edit : Edit) (before : KeyedSource) (Stays : List ℕ → Type 0) (Next : KeyedSource → List ℕ → Type 0) where
  call_of_edit : (place : Option PlaceFault) (after : KeyedSource) (steps : ℕ) (rest : List ℕ) → place ≡ None → IsApplied edit before after steps → Next after rest
      → EditTakes place edit before Stays Next (steps ∷ rest)
  call_of_edit None after steps rest is applied follows = (after, applied, follows)
  call_of_edit (Some fault) after steps rest is applied follows = absurd (cc is)

  pub edit_done : {A E : Type 0} (value : A) (after : KeyedSource) (Rest : List ℕ → Type 0) (old new : ℕ) → ((rest : List ℕ) → Rest rest → Next after rest) → Applies edit before after old new
      → Takes {A = A} {E = E} (EditTakes (place_fault edit (without_keys before.tree)) edit before Stays Next) Rest old new (Ok value)
  edit_done value after Rest old new follows (steps, applied, within) = record {
    on = λ rest takes. (
      steps ∷ rest,
      call_of_edit (place_fault edit (without_keys before.tree)) after steps rest applied.leads.done.allowed applied (follows rest takes),
      omega (arith, within, with_call steps rest),
    );
    ends = tt;
  }

  pub edit_stopped : {A E : Type 0} (result : Result A E) (Rest : List ℕ → Type 0) (old new : ℕ) → IsErr result → Stays [] → ((after : KeyedSource) → Next after [])
      → (new ≤ old) ⊎ ((after : KeyedSource) × Applies edit before after old new) → Takes (EditTakes (place_fault edit (without_keys before.tree)) edit before Stays Next) Rest old new result
  edit_stopped (Ok value) Rest old new is still none stops = absurd (cc is)
  edit_stopped (Err status) Rest old new is still none (inl within) =
      record { on = tt; ends = ([], none_by_edit (place_fault edit (without_keys before.tree)) edit before Stays Next still, omega (arith, within)) }
  edit_stopped (Err status) Rest old new is still none (inr (after, (steps, applied, within))) = record {
    on = tt;
    ends = (
      steps ∷ [],
      call_of_edit (place_fault edit (without_keys before.tree)) after steps [] applied.leads.done.allowed applied (none after),
      omega (arith, within, with_call steps []),
    );
  }

  pub edit_refused : {A E : Type 0} (result : Result A E) (place : Option PlaceFault) (fault : PlaceFault) (Rest : List ℕ → Type 0) (old new : ℕ) → place ≡ Some fault
      → ((rest : List ℕ) → Rest rest → Stays rest) → Stays [] → new ≤ old → Takes (EditTakes place edit before Stays Next) Rest old new result
  edit_refused result None fault Rest old new is follows none within = absurd (cc is)
  edit_refused result (Some other) fault Rest old new is follows none within = takes_nothing result Stays Rest old new follows none within

-- A step back or forth.

module _ (files : Files) (depth : ℕ) (commands : List Command) (versions left : Versions) (before after : KeyedSource) (old new : ℕ) where
  step_done : {A E : Type 0} (value : A) (step : Option Versions) → IsSomeAnd step (λ led. AreSameHistories left led) → IfSome step (λ led. Steps led.present before after old new)
      → Takes {A = A} {E = E} (StepTakes step versions before (ScriptTakes files depth commands)) (ScriptTakes files depth commands left after) old new (Ok value)
  step_done value None same took = absurd same
  step_done value (Some led) same (steps, is, within) = record {
    on = λ rest takes. (steps ∷ rest, (after, is, same_taken files depth commands left led same after rest takes), omega (arith, within, with_call steps rest));
    ends = tt;
  }

  step_stopped : {A E : Type 0} (result : Result A E) (step : Option Versions) → IsErr result
      → (new ≤ old) ⊎ IsSomeAnd step (λ led. (after : KeyedSource) × Steps led.present before after old new)
      → Takes (StepTakes step versions before (ScriptTakes files depth commands)) (ScriptTakes files depth commands left after) old new result
  step_stopped (Ok value) step is stops = absurd (cc is)
  step_stopped (Err status) step is (inl within) =
      record { on = tt; ends = ([], none_by_step step versions before (ScriptTakes files depth commands) (none_taken files depth commands versions before), omega (arith, within)) }
  step_stopped (Err status) None is (inr took) = absurd took
  step_stopped (Err status) (Some led) is (inr (led_to, (steps, stepped, within))) =
      record { on = tt; ends = (steps ∷ [], (led_to, stepped, none_taken files depth commands led led_to), omega (arith, within, with_call steps [])) }

  step_nothing : {A E : Type 0} (value : A) (step : Option Versions) → step ≡ None → left ≡ versions → after ≡ before
      → (new ≤ old) ⊎ IsSomeAnd step (λ led. (after : KeyedSource) × Steps led.present before after old new)
      → Takes {A = A} {E = E} (StepTakes step versions before (ScriptTakes files depth commands)) (ScriptTakes files depth commands left after) old new (Ok value)
  step_nothing value None is stays same (inl within) = record {
    on = λ rest takes. (rest, subst (λ v. ScriptTakes files depth commands v before rest) stays (subst (λ s. ScriptTakes files depth commands left s rest) same takes), omega (arith, within));
    ends = tt;
  }
  step_nothing value None is stays same (inr took) = absurd took
  step_nothing value (Some led) is stays same stops = absurd (cc is)

-- A dump.

pub takes_show : {A E : Type 0} (result : Result A E) (Next : List ℕ → Type 0) (source : KeyedSource) (version : Version) (old new : ℕ) → version ≡ keyless source → Next []
    → new ≤ old + show_steps version → Takes (ShowTakes source Next) Next old new result
takes_show (Ok value) Next source version old new is none within = record {
  on = λ rest takes. (show_steps version ∷ rest, (subst (λ v. show_steps version ≤ show_steps v) is (omega arith), takes), omega (arith, within, with_call (show_steps version) rest));
  ends = tt;
}
takes_show (Err status) Next source version old new is none within =
    record { on = tt; ends = (show_steps version ∷ [], (subst (λ v. show_steps version ≤ show_steps v) is (omega arith), none), omega (arith, within, with_call (show_steps version) [])) }

-- The commands.

module _ (files : Files) (depth : ℕ) (commands : List Command) (outcome : Result (Unit {0}) EditFault) (edit : Edit) (versions left : Versions) (before after : KeyedSource) (old new : ℕ)
    (answers : AnswersEdit outcome depth edit versions left) (took : TakesEdit outcome edit before after old new) where
  -- an edit was done
  pub played_done : {A E : Type 0} (value : A) {done : Unit {0}} → outcome ≡ Ok done
      → Takes {A = A} {E = E} (EditTakes (place_fault edit (without_keys before.tree)) edit before (ScriptTakes files depth commands versions before) (ScriptTakes files depth commands (edited depth edit versions)))
      (ScriptTakes files depth commands left after) old new (Ok value)
  played_done value is =
      edit_done edit before (ScriptTakes files depth commands versions before) (ScriptTakes files depth commands (edited depth edit versions)) value after
      (ScriptTakes files depth commands left after) old new
      (same_taken files depth commands left (edited depth edit versions) (where_ok outcome is answers.done) after) (where_ok outcome is took.done)

  -- it was refused
  pub played_refused : {A E : Type 0} (result : Result A E) (fault : PlaceFault) {told : EditFault} → outcome ≡ Err told → versions.present ≡ keyless before
      → place_fault edit versions.present.document ≡ Some fault → new ≤ old + edit_steps versions.present edit
      → Takes (EditTakes (place_fault edit (without_keys before.tree)) edit before (ScriptTakes files depth commands versions before) (ScriptTakes files depth commands (edited depth edit versions)))
      (ScriptTakes files depth commands left after) old new result
  played_refused result fault is there refused most =
      edit_refused edit before (ScriptTakes files depth commands versions before) (ScriptTakes files depth commands (edited depth edit versions)) result
      (place_fault edit (without_keys before.tree)) fault (ScriptTakes files depth commands left after) old new
      (subst (λ version. place_fault edit version.document ≡ Some fault) there refused)
      (λ rest takes. subst (λ v. ScriptTakes files depth commands v before rest) (where_err outcome is answers.stays)
      (subst (λ source. ScriptTakes files depth commands left source rest) (where_err outcome is took.stays) takes))
      (none_taken files depth commands versions before)
      (none_refused edit versions.present (place_fault edit versions.present.document) fault old new refused most)

  -- the run ended with it
  pub played_stopped : {A E : Type 0} (result : Result A E) {told : EditFault} → IsErr result → outcome ≡ Err told
      → Takes (EditTakes (place_fault edit (without_keys before.tree)) edit before (ScriptTakes files depth commands versions before) (ScriptTakes files depth commands (edited depth edit versions)))
      (ScriptTakes files depth commands left after) old new result
  played_stopped result ends is =
      edit_stopped edit before (ScriptTakes files depth commands versions before) (ScriptTakes files depth commands (edited depth edit versions)) result
      (ScriptTakes files depth commands left after) old new ends (none_taken files depth commands versions before) (none_taken files depth commands (edited depth edit versions))
      (where_err outcome is took.stops)

-- a file's turn, and what follows for its text
pub takes_text : {A E : Type 0} (result : Result A E) (text : List ℕ) (given : Result (List ℕ) Status) (All : List ℕ → List ℕ → Type 0) (Rest : List ℕ → Type 0) (old new : ℕ) → given ≡ Ok text
    → Takes (All text) Rest old new result → Takes (TakenWith given All) Rest old new result
takes_text result text given All Rest old new is takes = subst (λ (g : Result (List ℕ) Status). Takes (TakenWith g All) Rest old new result) (sym is) takes

module _ (files : Files) (depth : ℕ) (commands : List Command) (outcome : Result (Unit {0}) UndoFault) (versions left : Versions) (step : Option Versions) (before after : KeyedSource) (old new : ℕ)
    (answers : AnswersStep outcome versions left step) (took : TakesStep outcome step before after old new) where
  -- a step was taken
  pub stepped_done : {A E : Type 0} (value : A) {done : Unit {0}} → outcome ≡ Ok done
      → Takes {A = A} {E = E} (StepTakes step versions before (ScriptTakes files depth commands)) (ScriptTakes files depth commands left after) old new (Ok value)
  stepped_done value is = step_done files depth commands versions left before after old new value step (where_ok outcome is answers.done) (where_ok outcome is took.done)

  -- there was none
  pub stepped_nothing : {A E : Type 0} (value : A) → outcome ≡ Err undo_faults.Nothing
      → Takes {A = A} {E = E} (StepTakes step versions before (ScriptTakes files depth commands)) (ScriptTakes files depth commands left after) old new (Ok value)
  stepped_nothing value is =
      step_nothing files depth commands versions left before after old new value step (answers.nothing.0 is) (where_err outcome is answers.stays) (where_err outcome is took.stays)
      (where_err outcome is took.stops)

  -- the run ended with it
  pub stepped_stopped : {A E : Type 0} (result : Result A E) {told : UndoFault} → IsErr result → outcome ≡ Err told
      → Takes (StepTakes step versions before (ScriptTakes files depth commands)) (ScriptTakes files depth commands left after) old new result
  stepped_stopped result ends is = step_stopped files depth commands versions left before after old new result step ends (where_err outcome is took.stops)

-- the same depth
pub at_depth : {A E : Type 0} {result : Result A E} (files : Files) (depth other : ℕ) (commands : List Command) (number : ℕ) (action : Action) (versions left : Versions) (before after : KeyedSource)
    (old new : ℕ) → depth ≡ other
    → Takes (ActionTakes files depth number action versions before (ScriptTakes files depth commands)) (ScriptTakes files depth commands left after) old new result
    → Takes (ActionTakes files other number action versions before (ScriptTakes files other commands)) (ScriptTakes files other commands left after) old new result
at_depth {A} {E} {result} files depth other commands number action versions left before after old new is takes =
    subst (λ d. Takes (ActionTakes files d number action versions before (ScriptTakes files d commands)) (ScriptTakes files d commands left after) old new result) is takes

-- Whole scripts.

pub script_taken_as : (files : Files) (depth other : ℕ) (commands others : List Command) (versions left : Versions) (source : KeyedSource) (taken : List ℕ) → depth ≡ other → commands ≡ others
    → versions ≡ left → ScriptTakes files depth commands versions source taken → ScriptTakes files other others left source taken
script_taken_as files depth other commands others versions left source taken first second third takes =
    subst (λ v. ScriptTakes files other others v source taken) third
    (subst (λ c. ScriptTakes files other c versions source taken) second (subst (λ d. ScriptTakes files d commands versions source taken) first takes))

pub within_still : {A : Type 0} (given : Result A Status) (old new : ℕ) (Holds : A → Type 0) → new ≤ old → ((value : A) → Holds value) → WithinWith given old new Holds
within_still (Ok value) old new Holds still each = each value
within_still (Err status) old new Holds still each = still

-- a run that took no step
pub script_still : (files : Files) (document sheet script : List ℕ) (depth : Option ℕ) (reading : Reading) (read : Result (List Command) ℕ) (old new : ℕ) → new ≤ old
    → IsScriptWithinWork files document sheet script depth reading read old new
script_still files document sheet script depth reading read old new still =
    within_still (text_in (Word 1) (files document)) old new _ still (λ text.
    within_still (text_in (Word 2) (files sheet)) old new _ still (λ style.
    within_still (text_in (Word 3) (files script)) old new _ still (λ lines.
    within_still (tree_of reading) old new _ still (λ tree.
    within_still (commands_of read) old new _ still (λ commands. inl (omega (arith, still)))))))

-- the whole run, where all files have texts and these read
pub script_within : (files : Files) (document sheet script : List ℕ) (depth : Option ℕ) (reading : Reading) (read : Result (List Command) ℕ)
    (text style lines : List ℕ) (tree : Forest Node) (commands : List Command) (old new : ℕ)
    → text_in (Word 1) (files document) ≡ Ok text → text_in (Word 2) (files sheet) ≡ Ok style → text_in (Word 3) (files script) ≡ Ok lines
    → tree_of reading ≡ Ok tree → commands_of read ≡ Ok commands
    → IsWithinCalls (record { document = tree; sheet = style }) (ScriptTakes files (kept_edits depth) commands (begun (record { document = tree; sheet = style }))) old new
    → IsScriptWithinWork files document sheet script depth reading read old new
script_within files document sheet script depth reading read text style lines tree commands old new first second third fourth fifth calls = rw (first, second, third, fourth, fifth) calls

-- Runs that are made up.

pub none_edits : (edits : List Edit) (source : KeyedSource) → EditsTake edits source []
none_edits [] source = tt
none_edits (edit ∷ edits) source = none_by_edit (place_fault edit (without_keys source.tree)) edit source (EditsTake edits source) (EditsTake edits) (none_edits edits source)

pub edits_taken_next : (edits : List Edit) (place : ℕ) (edit : Edit) (source : KeyedSource) (taken : List ℕ) → place < length edits → edit ≡ get_or edits place edit
    → EditTakes (place_fault edit (without_keys source.tree)) edit source (EditsTake (drop (place + 1) edits) source) (EditsTake (drop (place + 1) edits)) taken → EditsTake (drop place edits) source taken
edits_taken_next edits place edit source taken below is takes =
    let next : drop place edits ≡ edit ∷ drop (place + 1) edits = rw (add-one, drop-cons edits place edit below, ← is) refl in
    subst (λ left. EditsTake left source taken) (sym next) takes

pub edits_ended : (edits : List Edit) (place : ℕ) (source : KeyedSource) (taken : List ℕ) → length edits ≤ place → EditsTake [] source taken → EditsTake (drop place edits) source taken
edits_ended edits place source taken past takes = subst (λ left. EditsTake left source taken) (sym (drop_of_length-le edits past)) takes

-- an edit that was not done, and not for want of memory, has no place
pub no_place : (result : Result (Unit {0}) EditFault) (place : Option PlaceFault) (told : EditFault) → result ≡ Err told → (told ≡ edit_faults.Memory → ⊥)
    → (place ≡ None → IfErr result (λ fault. fault ≡ edit_faults.Memory)) → (fault : PlaceFault) × (place ≡ Some fault)
no_place result None told is not memory = absurd (not (subst (λ r. IfErr r (λ fault. fault ≡ edit_faults.Memory)) is (memory refl)))
no_place result (Some fault) told is not memory = (fault, refl)

-- a run that is made up goes on after an edit that is refused
pub counted_refused : {A E : Type 0} (result : Result A E) (edits : List Edit) (edit : Edit) (outcome : Result (Unit {0}) EditFault) (before after : KeyedSource) (old new : ℕ) (told : EditFault)
    → outcome ≡ Err told → (told ≡ edit_faults.Memory → ⊥) → (place_fault edit (without_keys before.tree) ≡ None → IfErr outcome (λ fault. fault ≡ edit_faults.Memory))
    → new ≤ old + edit_steps (keyless before) edit → OnErr outcome (after ≡ before)
    → Takes (EditTakes (place_fault edit (without_keys before.tree)) edit before (EditsTake edits before) (EditsTake edits)) (EditsTake edits after) old new result
counted_refused result edits edit outcome before after old new told is not memory most stays =
    let none = no_place outcome (place_fault edit (without_keys before.tree)) told is not memory in
    edit_refused edit before (EditsTake edits before) (EditsTake edits) result (place_fault edit (without_keys before.tree)) none.0 (EditsTake edits after) old new none.1
    (λ rest takes. subst (λ source. EditsTake edits source rest) (where_err outcome is stays) takes) (none_edits edits before)
    (none_refused edit (keyless before) (place_fault edit (without_keys before.tree)) none.0 old new none.1 most)
