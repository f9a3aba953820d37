-- Versions that are the same but for the order of attributes have the same output.
use Rattle.std.proofs.Common.{◌≡◌, ℕ, zero, suc, List, [], ◌∷◌, ◌++◌, Option, Result, take, codes, refl, ap, ◌∙◌}
use Rattle.std.specs.Prelude.{Some, None, Ok, Err}
use Rattle.std.specs.Fmt.{decimal}
use Rattle.edit_inverses.specs.Versions.{AreSameVersions, IsSameVersion, Version, version_after}
use Rattle.edit_script.specs.declared.action.Action.{Action}
use Rattle.edit_script.specs.declared.action.Action.TheVariants.{Change, SheetFile, Show, Undo, Redo, Enter}
use Rattle.edit_script.specs.declared.command.Command.{Command}
use Rattle.generated_texts.specs.Lines.{fresh_dump}
use Rattle.node_arena.specs.Edits.{edited_sheet, place_fault}
use Rattle.node_arena.specs.declared.place_fault.PlaceFault.{PlaceFault}
use Rattle.plain_types.specs.declared.edit.Edit.{Edit}
use Rattle.plain_types.specs.declared.edit.Edit.TheVariants.{ReplaceSheet}
use Rattle.ports.specs.Files.{Files}
use Rattle.same_documents.proofs.SameEdits.{same_edited, same_fault, same_refl}
use Rattle.same_texts.proofs.SameLines.{dump_same}
use Rattle.marker_cli.specs.declared.status.FileAt.TheVariants.{Line}
use Rattle.marker_cli.specs.declared.status.Status.{Status}
use Rattle.marker_cli.specs.Edit.{action_output, after_edit, after_step, no_document, nothing, play, refused, shown}
use Rattle.marker_cli.specs.Editors.{AreSameHistories, TellsNoneApart}
use Rattle.marker_cli.specs.Output.{Output, goes_on, turn, writes}
use Rattle.marker_cli.specs.Turns.{text_in}
use Rattle.marker_cli.specs.Versions.{Versions, edited, redone, stepped_back, stepped_forth, undone}

-- Each version is the same as itself.

pub same_version : (version : Version) → IsSameVersion version version
same_version version = record { document = same_refl version.document; sheet = refl }

pub same_versions : (versions : List Version) → AreSameVersions versions versions
same_versions [] = tt
same_versions (version ∷ versions) = (same_version version, same_versions versions)

pub same_history : (versions : Versions) → AreSameHistories versions versions
same_history versions = record { present = same_version versions.present; past = same_versions versions.past; future = same_versions versions.future }

-- What edits and steps make of same versions.

take_same : (count : ℕ) (versions others : List Version) → AreSameVersions versions others → AreSameVersions (take count versions) (take count others)
take_same zero versions others same = tt
take_same (suc count) [] [] same = tt
take_same (suc count) [] (other ∷ others) same = absurd same
take_same (suc count) (version ∷ versions) [] same = absurd same
take_same (suc count) (version ∷ versions) (other ∷ others) same = (same.0, take_same count versions others same.1)

pub after_same : (edit : Edit) (version other : Version) → IsSameVersion version other → IsSameVersion (version_after edit version) (version_after edit other)
after_same edit version other same = record { document = same_edited edit version.document other.document same.document; sheet = ap (edited_sheet edit) same.sheet }

pub edited_same : (depth : ℕ) (edit : Edit) (versions others : Versions) → AreSameHistories versions others → AreSameHistories (edited depth edit versions) (edited depth edit others)
edited_same depth edit versions others same = record {
  present = after_same edit versions.present others.present same.present;
  past = take_same depth (versions.present ∷ versions.past) (others.present ∷ others.past) (same.present, same.past);
  future = tt;
}

-- both steps lead to same versions, or neither leads to any
abbrev pub AreSameSteps : Option Versions → Option Versions → Type 0
AreSameSteps None None = Unit {0}
AreSameSteps (Some versions) (Some others) = AreSameHistories versions others
AreSameSteps _ _ = ⊥

pub back_same : (present other : Version) (past others future beside : List Version) → IsSameVersion present other → AreSameVersions past others → AreSameVersions future beside
    → AreSameSteps (stepped_back present past future) (stepped_back other others beside)
back_same present other [] [] future beside here behind ahead = tt
back_same present other [] (first ∷ others) future beside here behind ahead = absurd behind
back_same present other (version ∷ past) [] future beside here behind ahead = absurd behind
back_same present other (version ∷ past) (first ∷ others) future beside here behind ahead = record { present = behind.0; past = behind.1; future = (here, ahead) }

pub forth_same : (present other : Version) (past others future beside : List Version) → IsSameVersion present other → AreSameVersions past others → AreSameVersions future beside
    → AreSameSteps (stepped_forth present past future) (stepped_forth other others beside)
forth_same present other past others [] [] here behind ahead = tt
forth_same present other past others [] (first ∷ beside) here behind ahead = absurd ahead
forth_same present other past others (version ∷ future) [] here behind ahead = absurd ahead
forth_same present other past others (version ∷ future) (first ∷ beside) here behind ahead = record { present = ahead.0; past = (here, behind); future = ahead.1 }

-- What is written of same versions.

shown_same : (number : ℕ) (version other : Version) → IsSameVersion version other → shown number version ≡ shown number other
shown_same number version other same =
    ap (λ dump. (codes "show " ++ (decimal number ++ codes "\n")) ++ (dump ++ codes "end\n"))
    (dump_same version.sheet version.document other.document same.document ∙ ap (λ sheet. fresh_dump sheet other.document) same.sheet)

module _ (next : Versions → Output) (alike : TellsNoneApart next) (versions others : Versions) (same : AreSameHistories versions others) where
  edit_same : (depth number : ℕ) (edit : Edit) (place : Option PlaceFault) → after_edit depth number edit versions place next ≡ after_edit depth number edit others place next
  edit_same depth number edit None = alike (edited depth edit versions) (edited depth edit others) (edited_same depth edit versions others same)
  edit_same depth number edit (Some fault) = ap (λ rest. writes (refused number fault) rest) (alike versions others same)

  sheet_same : (depth : ℕ) (given : Result (List ℕ) Status)
      → goes_on given (λ text. next (edited depth (ReplaceSheet text) versions)) ≡ goes_on given (λ text. next (edited depth (ReplaceSheet text) others))
  sheet_same depth (Ok text) = alike (edited depth (ReplaceSheet text) versions) (edited depth (ReplaceSheet text) others) (edited_same depth (ReplaceSheet text) versions others same)
  sheet_same depth (Err status) = refl

  step_same : (number : ℕ) (step other : Option Versions) → AreSameSteps step other → after_step number versions step next ≡ after_step number others other next
  step_same number None None led = ap (λ rest. writes (nothing number) rest) (alike versions others same)
  step_same number (Some back) (Some other) led = alike back other led
  step_same number None (Some other) led = absurd led
  step_same number (Some back) None led = absurd led

  action_same : (files : Files) (depth number : ℕ) (action : Action) → action_output files depth number action versions next ≡ action_output files depth number action others next
  action_same files depth number (Change edit) =
      ap (λ place. after_edit depth number edit versions place next) (same_fault edit versions.present.document others.present.document same.present.document)
      ∙ edit_same depth number edit (place_fault edit others.present.document)
  action_same files depth number (SheetFile name) = ap (λ rest. turn (Line number) rest) (sheet_same depth (text_in (Line number) (files name)))
  action_same files depth number Show = λ i. writes (shown_same number versions.present others.present same.present i) (alike versions others same i)
  action_same files depth number Undo =
      step_same number (undone versions) (undone others) (back_same versions.present others.present versions.past others.past versions.future others.future same.present same.past same.future)
  action_same files depth number Redo =
      step_same number (redone versions) (redone others) (forth_same versions.present others.present versions.past others.past versions.future others.future same.present same.past same.future)
  action_same files depth number (Enter name) = ap (λ rest. writes (no_document number) rest) (alike versions others same)

pub play_same : (files : Files) (depth : ℕ) (commands : List Command) → TellsNoneApart (play files depth commands)
play_same files depth [] versions others same = refl
play_same files depth (command ∷ commands) versions others same =
    action_same (play files depth commands) (play_same files depth commands) versions others same files depth command.line command.action
