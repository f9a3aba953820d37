-- How many steps edits and commands take.
use Rattle.std.proofs.Common.{◌≡◌, ℕ, ◌<◌, ◌≤◌, ◌+◌, ◌*◌, List, [], ◌∷◌, length, drop, get_or, Option, Result, arith, refl, subst, sym, ◌∙◌, ap, add-one, slice_get, unwrap_or}
use Rattle.std.specs.Prelude.{Some, None, Ok, Err, IfErr, IfOk, IfSome, IsSomeAnd, OnOk, is_some}
use Rattle.std.specs.Result.{IsErr}
use Rattle.std.proofs.Math.Seq.{drop-cons}
use Rattle.dirty_walk.specs.Books.{StyledDocument}
use Rattle.document_walk.specs.Elements.{element_count, one_where}
use Rattle.edit_inverses.specs.Versions.{IsSameVersion, Version, version_after}
use Rattle.edit_script.specs.declared.action.Action.{Action}
use Rattle.edit_script.specs.declared.action.Action.TheVariants.{Change, SheetFile, Show, Undo, Redo, Enter}
use Rattle.edit_script.specs.declared.command.Command.{Command}
use Rattle.edit_script.specs.Generator.{document, edits_of, sheet}
use Rattle.forest.specs.Forest.{Forest, Empty, Tree}
use Rattle.marker_engine.specs.Edited.{edited as edited_source}
use Rattle.marker_engine.specs.Engines.{Source, source_of}
use Rattle.node_arena.specs.Edits as edits
use Rattle.node_arena.specs.Edits.{place_fault}
use Rattle.node_arena.specs.Nodes.{node_name}
use Rattle.node_arena.specs.declared.place_fault.PlaceFault.{PlaceFault}
use Rattle.plain_types.specs.declared.edit.Edit.{Edit}
use Rattle.plain_types.specs.declared.edit.Edit.TheVariants.{ReplaceSheet}
use Rattle.plain_types.specs.declared.node.Node.{Node}
use Rattle.plain_types.specs.declared.node.Node.TheVariants.{Element, Text}
use Rattle.ports.specs.Files.{Files}
use Rattle.same_documents.proofs.SameEdits.{same_fault}
use Rattle.same_documents.specs.Sameness.{AreSame, IsSameNode}
use Rattle.undo_ring.specs.Histories.{version_of}
use Rattle.undo_ring.specs.declared.undo_fault.UndoFault.{UndoFault}
use Rattle.undo_ring.specs.declared.undo_fault.UndoFault.TheVariants as undo_faults
use Rattle.marker_cli.specs.declared.status.FileAt.TheVariants.{Word, Line}
use Rattle.marker_cli.specs.declared.status.Status.{Status}
use Rattle.marker_cli.specs.Documents.{Reading, tree_of}
use Rattle.marker_cli.specs.Edit.{commands_of, kept_edits}
use Rattle.marker_cli.specs.EditSteps.{action_steps, change_steps, edit_steps, led_steps, left_by_edit, most_edit_steps, placed_steps, script_steps, start_steps, steps_with}
use Rattle.marker_cli.specs.Editors.{AnswersStep, AreSameHistories, TellsNoneApart}
use Rattle.marker_cli.specs.Generated.{Outcome, edits_steps, most_generated_steps, outcome_steps, version_in, with_answer}
use Rattle.marker_cli.specs.Machinery.Stands.{Spends}
use Rattle.marker_cli.specs.Turns.{text_in}
use Rattle.marker_cli.specs.Versions.{Versions, begun, edited, redone, stepped_back, stepped_forth, undone}
use Rattle.marker_cli.proofs.PlayLemmas.{where_err, where_ok}
use Rattle.marker_cli.proofs.SameLemmas.{AreSameSteps, after_same, back_same, edited_same, forth_same, same_history}

-- What an editor's calls take.

pub placed_by : (version : Version) (edit : Edit) (source : Source) (place : Option PlaceFault) (low high : ℕ) → element_count source.tree ≡ element_count (version_after edit version).document
    → IfOk (elim place [ None ↦ Ok source | Some fault ↦ Err fault ]) (λ after. low ≤ high + (12 * element_count after.tree + 2 * element_count version.document))
    → IfErr (elim place [ None ↦ Ok source | Some fault ↦ Err fault ]) (λ _. low ≡ high) → low ≤ high + placed_steps version edit place
placed_by version edit source None low high is most none = omega (arith, is, most)
placed_by version edit source (Some fault) low high is most none = omega (arith, none)

pub engine_most : (edit : Edit) (book : StyledDocument) (low high : ℕ)
    → IfOk (edited_source (source_of book) edit) (λ after. low ≤ high + (12 * element_count after.tree + 2 * element_count (source_of book).tree))
    → IfErr (edited_source (source_of book) edit) (λ _. low ≡ high) → low ≤ high + edit_steps (version_of book) edit
engine_most edit book low high most none =
    placed_by (version_of book) edit (record { tree = edits.edited edit (source_of book).tree; sheet = edits.edited_sheet edit (source_of book).sheet })
    (place_fault edit (version_of book).document) low high refl most none

pub back_most : (present : Version) (past future : List Version) (low high : ℕ)
    → IfSome (slice_get past 0) (λ version. low ≤ high + (12 * element_count version.document + 2 * element_count present.document)) → (past ≡ [] → low ≡ high)
    → low ≤ high + led_steps present (stepped_back present past future)
back_most present [] future low high most none = let same = none refl in omega (arith, same)
back_most present (version ∷ past) future low high most none = most

pub forth_most : (present : Version) (past future : List Version) (low high : ℕ)
    → IfSome (slice_get future 0) (λ version. low ≤ high + (12 * element_count version.document + 2 * element_count present.document)) → (future ≡ [] → low ≡ high)
    → low ≤ high + led_steps present (stepped_forth present past future)
forth_most present past [] low high most none = let same = none refl in omega (arith, same)
forth_most present past (version ∷ future) low high most none = most

-- Which versions there are afterwards.

pub left_done : (depth : ℕ) (edit : Edit) (old new : Versions) (place : Option PlaceFault) → place ≡ None → AreSameHistories new (edited depth edit old)
    → AreSameHistories new (left_by_edit depth edit old place)
left_done depth edit old new None is same = same
left_done depth edit old new (Some fault) is same = absurd (cc is)

pub left_refused : (depth : ℕ) (edit : Edit) (old new : Versions) (place : Option PlaceFault) (fault : PlaceFault) → place ≡ Some fault → new ≡ old
    → AreSameHistories new (left_by_edit depth edit old place)
left_refused depth edit old new None fault is same = absurd (cc is)
left_refused depth edit old new (Some other) fault is same = subst (λ versions. AreSameHistories versions old) (sym same) (same_history old)

module _ (outcome : Result (Unit {0}) UndoFault) (versions left : Versions) (step : Option Versions) (answers : AnswersStep outcome versions left step) where
  pub left_led : {value : Unit {0}} → outcome ≡ Ok value → AreSameHistories left (unwrap_or step versions)
  left_led is = by step (where_ok outcome is answers.done)
    where
      by : (step : Option Versions) → IsSomeAnd step (λ led. AreSameHistories left led) → AreSameHistories left (unwrap_or step versions)
      by None led = absurd led
      by (Some other) led = led

  pub left_still : outcome ≡ Err undo_faults.Nothing → AreSameHistories left (unwrap_or step versions)
  left_still is =
      subst (λ (led : Option Versions). AreSameHistories left (unwrap_or led versions)) (sym (answers.nothing.0 is))
      (subst (λ (other : Versions). AreSameHistories other versions) (sym (where_err outcome is answers.stays)) (same_history versions))

-- a part that takes so many steps and leaves these versions
pub spends_by : {A : Type 0} (result : Result A Status) (next : Versions → ℕ) (left led : Versions) (most before now : ℕ) → TellsNoneApart next → now ≤ before + most
    → OnOk result (AreSameHistories left led) → Spends (most + next led) before now (next left) result
spends_by (Ok value) next left led most before now alike taken same = let equal = alike left led same in record { on = omega (arith, taken, equal); within = omega (arith, taken) }
spends_by (Err error) next left led most before now alike taken same = record { on = tt; within = omega (arith, taken) }

-- a file's turn, and what follows for its text
pub spends_text : {A : Type 0} (result : Result A Status) (text : List ℕ) (given : Result (List ℕ) Status) (next : List ℕ → ℕ) (before now left : ℕ) → given ≡ Ok text
    → Spends (next text) before now left result → Spends (steps_with given next) before now left result
spends_text result text given next before now left is spends = subst (λ (g : Result (List ℕ) Status). Spends (steps_with g next) before now left result) (sym is) spends

-- a part that took no step and changed nothing
pub spends_nothing : {A : Type 0} (result : Result A Status) (most before now left : ℕ) → now ≡ before → left ≡ most → Spends most before now left result
spends_nothing (Ok value) most before now left same equal = record { on = omega (arith, same, equal); within = omega (arith, same) }
spends_nothing (Err error) most before now left same equal = record { on = tt; within = omega (arith, same) }

-- a part that took no step and ended the run
pub spends_none : {A : Type 0} (result : Result A Status) (most before now left : ℕ) → IsErr result → now ≡ before → Spends most before now left result
spends_none (Ok value) most before now left is same = absurd (cc is)
spends_none (Err error) most before now left is same = record { on = tt; within = omega (arith, same) }

-- Same versions take as many steps.

node_same : (node other : Node) → IsSameNode node other → one_where (is_some (node_name node)) ≡ one_where (is_some (node_name other))
node_same (Element name attrs) (Element other others) same = refl
node_same (Element name attrs) (Text others) same = absurd same
node_same (Text characters) (Element other others) same = absurd same
node_same (Text characters) (Text others) same = refl

count_same : (document other : Forest Node) → AreSame document other → element_count document ≡ element_count other
count_same Empty Empty same = refl
count_same Empty (Tree other inside beside) same = absurd same
count_same (Tree label children after) Empty same = absurd same
count_same (Tree label children after) (Tree other inside beside) same =
    λ i. node_same label other same.0 i + (count_same children inside same.1 i + count_same after beside same.2 i)

change_same : (version other changed left : Version) → IsSameVersion version other → IsSameVersion changed left → change_steps version changed ≡ change_steps other left
change_same version other changed left old new =
    λ i. 12 * count_same changed.document left.document new.document i + 2 * count_same version.document other.document old.document i

placed_same : (edit : Edit) (version other : Version) (place : Option PlaceFault) → IsSameVersion version other → placed_steps version edit place ≡ placed_steps other edit place
placed_same edit version other None same = change_same version other (version_after edit version) (version_after edit other) same (after_same edit version other same)
placed_same edit version other (Some fault) same = refl

edit_steps_same : (edit : Edit) (version other : Version) → IsSameVersion version other → edit_steps version edit ≡ edit_steps other edit
edit_steps_same edit version other same =
    ap (λ place. placed_steps version edit place) (same_fault edit version.document other.document same.document)
    ∙ placed_same edit version other (place_fault edit other.document) same

left_same : (depth : ℕ) (edit : Edit) (place : Option PlaceFault) (versions others : Versions) → AreSameHistories versions others
    → AreSameHistories (left_by_edit depth edit versions place) (left_by_edit depth edit others place)
left_same depth edit None versions others same = edited_same depth edit versions others same
left_same depth edit (Some fault) versions others same = same

led_same : (version other : Version) (step beside : Option Versions) → IsSameVersion version other → AreSameSteps step beside → led_steps version step ≡ led_steps other beside
led_same version other None None same led = refl
led_same version other None (Some left) same led = absurd led
led_same version other (Some left) None same led = absurd led
led_same version other (Some back) (Some left) same led = change_same version other back.present left.present same led.present

unwrap_same : (step beside : Option Versions) (versions others : Versions) → AreSameHistories versions others → AreSameSteps step beside
    → AreSameHistories (unwrap_or step versions) (unwrap_or beside others)
unwrap_same None None versions others same led = same
unwrap_same None (Some left) versions others same led = absurd led
unwrap_same (Some back) None versions others same led = absurd led
unwrap_same (Some back) (Some left) versions others same led = led

both_same : {a b c d : ℕ} → a ≡ b → c ≡ d → a + c ≡ b + d
both_same first second = λ i. first i + second i

module _ (next : Versions → ℕ) (alike : TellsNoneApart next) (versions others : Versions) (same : AreSameHistories versions others) where
  sheet_steps_same : (depth : ℕ) (given : Result (List ℕ) Status)
      → steps_with given (λ text. edit_steps versions.present (ReplaceSheet text) + next (edited depth (ReplaceSheet text) versions))
      ≡ steps_with given (λ text. edit_steps others.present (ReplaceSheet text) + next (edited depth (ReplaceSheet text) others))
  sheet_steps_same depth (Ok text) =
      both_same (edit_steps_same (ReplaceSheet text) versions.present others.present same.present)
      (alike (edited depth (ReplaceSheet text) versions) (edited depth (ReplaceSheet text) others) (edited_same depth (ReplaceSheet text) versions others same))
  sheet_steps_same depth (Err status) = refl

  step_steps_same : (step beside : Option Versions) → AreSameSteps step beside
      → led_steps versions.present step + next (unwrap_or step versions) ≡ led_steps others.present beside + next (unwrap_or beside others)
  step_steps_same step beside led =
      both_same (led_same versions.present others.present step beside same.present led)
      (alike (unwrap_or step versions) (unwrap_or beside others) (unwrap_same step beside versions others same led))

  action_steps_same : (files : Files) (depth number : ℕ) (action : Action) → action_steps files depth number action versions next ≡ action_steps files depth number action others next
  action_steps_same files depth number (Change edit) =
      let place = place_fault edit others.present.document in
      both_same (edit_steps_same edit versions.present others.present same.present)
      (ap (λ fault. next (left_by_edit depth edit versions fault)) (same_fault edit versions.present.document others.present.document same.present.document)
      ∙ alike (left_by_edit depth edit versions place) (left_by_edit depth edit others place) (left_same depth edit place versions others same))
  action_steps_same files depth number (SheetFile name) = sheet_steps_same depth (text_in (Line number) (files name))
  action_steps_same files depth number Show =
      both_same (count_same versions.present.document others.present.document same.present.document) (alike versions others same)
  action_steps_same files depth number Undo =
      step_steps_same (undone versions) (undone others)
      (back_same versions.present others.present versions.past others.past versions.future others.future same.present same.past same.future)
  action_steps_same files depth number Redo =
      step_steps_same (redone versions) (redone others)
      (forth_same versions.present others.present versions.past others.past versions.future others.future same.present same.past same.future)
  action_steps_same files depth number (Enter name) = alike versions others same

pub script_same : (files : Files) (depth : ℕ) (commands : List Command) → TellsNoneApart (script_steps files depth commands)
script_same files depth [] versions others same = refl
script_same files depth (command ∷ commands) versions others same =
    action_steps_same (script_steps files depth commands) (script_same files depth commands) versions others same files depth command.line command.action

-- the next command
pub steps_next : (files : Files) (depth : ℕ) (commands : List Command) (place : ℕ) (command : Command) (versions : Versions) → place < length commands → command ≡ get_or commands place command
    → script_steps files depth (drop place commands) versions ≡ action_steps files depth command.line command.action versions (script_steps files depth (drop (place + 1) commands))
steps_next files depth commands place command versions below is = rw (add-one, drop-cons commands place command below, ← is) refl

pub script_as : (files : Files) (depth other : ℕ) (commands others : List Command) (versions left : Versions) → depth ≡ other → commands ≡ others → versions ≡ left
    → script_steps files depth commands versions ≡ script_steps files other others left
script_as files depth other commands others versions left first second third = λ i. script_steps files (first i) (second i) (third i)

-- the whole run, where all files have texts and these read
pub most_of_script : (files : Files) (document sheet script : List ℕ) (depth : Option ℕ) (reading : Reading) (read : Result (List Command) ℕ)
    (text style lines : List ℕ) (tree : Forest Node) (commands : List Command)
    → text_in (Word 1) (files document) ≡ Ok text → text_in (Word 2) (files sheet) ≡ Ok style → text_in (Word 3) (files script) ≡ Ok lines
    → tree_of reading ≡ Ok tree → commands_of read ≡ Ok commands
    → most_edit_steps files document sheet script depth reading read
    ≡ start_steps tree + script_steps files (kept_edits depth) commands (begun (record { document = tree; sheet = style }))
most_of_script files document sheet script depth reading read text style lines tree commands first second third fourth fifth = rw (first, second, third, fourth, fifth) refl

-- Runs that are made up.

pub edits_steps_next : (edits : List Edit) (place : ℕ) (edit : Edit) (now : Outcome) → place < length edits → edit ≡ get_or edits place edit
    → edits_steps (drop place edits) now ≡ edit_steps (version_in now.source) edit + edits_steps (drop (place + 1) edits) (with_answer now (edited_source now.source edit))
edits_steps_next edits place edit now below is = rw (add-one, drop-cons edits place edit below, ← is) refl

pub most_of_generated : (seed count : ℕ) (start : Source) (edits : List Edit) → start.tree ≡ document seed count → start.sheet ≡ sheet → edits ≡ edits_of seed count
    → start_steps start.tree + outcome_steps edits start ≡ most_generated_steps seed count
most_of_generated seed count start edits tree_is sheet_is edits_is =
    λ i. start_steps (tree_is i) + outcome_steps (edits_is i) (record { tree = tree_is i; sheet = sheet_is i })
