-- What the commands of the script of a book take, by the work of its edits.
use Rattle.std.proofs.Common.{◌≡◌, ◌⊎◌, ℕ, zero, suc, ◌<◌, ◌≤◌, ◌+◌, List, [], ◌∷◌, length, drop, get_or, map, Option, Result, add-one, ap, arith, inl, inr, refl, subst, sym}
use Rattle.std.specs.Prelude.{Some, None, Ok, Err, OnOk}
use Rattle.std.specs.Result.{IsErr}
use Rattle.std.proofs.Math.Seq.{drop-cons}
use Rattle.book_definitions.specs.Chapters.{Chapter}
use Rattle.book_definitions.specs.Fresh.{ChapterSource, chapter_source}
use Rattle.edit_script.specs.declared.action.Action.{Action}
use Rattle.edit_script.specs.declared.action.Action.TheVariants.{Change, SheetFile, Show, Undo, Redo, Enter}
use Rattle.edit_script.specs.declared.command.Command.{Command}
use Rattle.edit_work.specs.KeyedSources.{KeyedSource}
use Rattle.forest.specs.Forest.{Forest}
use Rattle.forest.specs.Keys.{without_keys}
use Rattle.marker_engine.specs.declared.edit_fault.EditFault.{EditFault}
use Rattle.node_arena.specs.Edits.{place_fault}
use Rattle.node_arena.specs.declared.place_fault.PlaceFault.{PlaceFault}
use Rattle.plain_types.specs.declared.edit.Edit.{Edit}
use Rattle.plain_types.specs.declared.edit.Edit.TheVariants.{ReplaceSheet}
use Rattle.plain_types.specs.declared.node.Node.{Node}
use Rattle.ports.specs.Files.{Files}
use Rattle.marker_cli.specs.declared.status.FileAt.TheVariants.{Word, Line}
use Rattle.marker_cli.specs.declared.status.Status.{Status}
use Rattle.marker_cli.specs.BookSteps.{begin_steps, show_chapter_steps}
use Rattle.marker_cli.specs.BookWork.{BookActionTakes, BookScriptTakes, BookTakesCalls, IsBookWithinWork, WithinTexts}
use Rattle.marker_cli.specs.Documents.{Reading}
use Rattle.marker_cli.specs.Edit.{commands_of}
use Rattle.marker_cli.specs.EditSteps.{edit_steps}
use Rattle.marker_cli.specs.OpenBooks.{chapters_of, version_in}
use Rattle.marker_cli.specs.OpenVolumes.{OpenVolume, book_of, no_chapter, no_keyed_chapter, present_document, turned_to, with_document}
use Rattle.marker_cli.specs.Machinery.Takings.{Takes, TakesEdit}
use Rattle.marker_cli.specs.Parts.{HaveBookTexts, HaveTexts, trees_of}
use Rattle.marker_cli.specs.Turns.{text_in}
use Rattle.marker_cli.specs.WorkSteps.{CallTakes, EditTakes, TakenWith, WithinWith, keyless}
use Rattle.marker_cli.proofs.PlayLemmas.{where_err, where_ok}
use Rattle.marker_cli.proofs.PlayedLemmas.{edit_done, edit_refused, edit_stopped, none_refused, takes_nothing, with_call, within_still}
use Rattle.marker_cli.proofs.TakenLemmas.{none_by_edit, none_by_text}

-- A run may end before any call.

none_by_action : (files : Files) (number : ℕ) (action : Action) (volume : OpenVolume) (Next : OpenVolume → List ℕ → Type 0) → ((other : OpenVolume) → Next other [])
    → BookActionTakes files number action volume Next []
none_by_action files number (Change edit) volume Next none =
    none_by_edit (place_fault edit (without_keys (present_document volume).tree)) edit (present_document volume) (Next volume) (λ after. Next (with_document volume after)) (none volume)
none_by_action files number (SheetFile name) volume Next none =
    none_by_text (text_in (Line number) (files name)) (λ text. EditTakes None (ReplaceSheet text) (present_document volume) (Next volume) (λ after. Next (with_document volume after))) (λ text. tt)
none_by_action files number Show volume Next none = tt
none_by_action files number Undo volume Next none = none volume
none_by_action files number Redo volume Next none = none volume
none_by_action files number (Enter name) volume Next none = none (turned_to name volume)

pub no_calls : (files : Files) (commands : List Command) (volume : OpenVolume) → BookScriptTakes files commands volume []
no_calls files [] volume = refl
no_calls files (command ∷ commands) volume = none_by_action files command.line command.action volume (BookScriptTakes files commands) (no_calls files commands)

-- the next command
pub calls_next : (files : Files) (commands : List Command) (place : ℕ) (command : Command) (volume : OpenVolume) (taken : List ℕ) → place < length commands → command ≡ get_or commands place command
    → BookActionTakes files command.line command.action volume (BookScriptTakes files (drop (place + 1) commands)) taken → BookScriptTakes files (drop place commands) volume taken
calls_next files commands place command volume taken below is takes =
    let next : drop place commands ≡ command ∷ drop (place + 1) commands = rw (add-one, drop-cons commands place command below, ← is) refl in
    subst (λ left. BookScriptTakes files left volume taken) (sym next) takes

-- The present chapter, with its keys and without.

present_by : (chapters : List Chapter) (place : ℕ) → get_or (map chapter_source chapters) place no_chapter ≡ chapter_source (get_or chapters place no_keyed_chapter)
present_by [] place = refl
present_by (chapter ∷ chapters) zero = refl
present_by (chapter ∷ chapters) (suc place) = present_by chapters place

pub present_there : (volume : OpenVolume) → version_in (book_of volume).present ≡ keyless (present_document volume)
present_there volume = ap version_in (present_by volume.chapters volume.place)

-- An edit of it.
module _ (files : Files) (commands : List Command) (outcome : Result (Unit {0}) EditFault) (edit : Edit) (book left : OpenVolume) (old new : ℕ)
    (took : TakesEdit outcome edit (present_document book) (present_document left) old new) where
  -- it was done
  pub chapter_done : {A E : Type 0} (value : A) {done : Unit {0}} → outcome ≡ Ok done → OnOk outcome (left ≡ with_document book (present_document left))
      → Takes {A = A} {E = E} (EditTakes (place_fault edit (without_keys (present_document book).tree)) edit (present_document book) (BookScriptTakes files commands book) (λ after. BookScriptTakes files commands (with_document book after)))
      (BookScriptTakes files commands left) old new (Ok value)
  chapter_done value is same =
      edit_done edit (present_document book) (BookScriptTakes files commands book) (λ after. BookScriptTakes files commands (with_document book after)) value (present_document left)
      (BookScriptTakes files commands left) old new (λ rest takes. subst (λ volume. BookScriptTakes files commands volume rest) (where_ok outcome is same) takes) (where_ok outcome is took.done)

  -- it was refused
  pub chapter_refused : {A E : Type 0} (result : Result A E) (fault : PlaceFault) → left ≡ book → place_fault edit (book_of book).present.tree ≡ Some fault
      → new ≤ old + edit_steps (version_in (book_of book).present) edit
      → Takes (EditTakes (place_fault edit (without_keys (present_document book).tree)) edit (present_document book) (BookScriptTakes files commands book) (λ after. BookScriptTakes files commands (with_document book after)))
      (BookScriptTakes files commands left) old new result
  chapter_refused result fault same refused most =
      edit_refused edit (present_document book) (BookScriptTakes files commands book) (λ after. BookScriptTakes files commands (with_document book after)) result
      (place_fault edit (without_keys (present_document book).tree)) fault (BookScriptTakes files commands left) old new
      (subst (λ version. place_fault edit version.document ≡ Some fault) (present_there book) refused)
      (λ rest takes. subst (λ volume. BookScriptTakes files commands volume rest) same takes) (no_calls files commands book)
      (none_refused edit (version_in (book_of book).present) (place_fault edit (book_of book).present.tree) fault old new refused most)

  -- the run ended with it
  pub chapter_stopped : {A E : Type 0} (result : Result A E) {told : EditFault} → IsErr result → outcome ≡ Err told
      → Takes (EditTakes (place_fault edit (without_keys (present_document book).tree)) edit (present_document book) (BookScriptTakes files commands book) (λ after. BookScriptTakes files commands (with_document book after)))
      (BookScriptTakes files commands left) old new result
  chapter_stopped result ends is =
      edit_stopped edit (present_document book) (BookScriptTakes files commands book) (λ after. BookScriptTakes files commands (with_document book after)) result
      (BookScriptTakes files commands left) old new ends (no_calls files commands book) (λ after. no_calls files commands (with_document book after)) (where_err outcome is took.stops)

-- a dump
pub chapter_shown : {A E : Type 0} (result : Result A E) (files : Files) (commands : List Command) (volume : OpenVolume) (old new : ℕ) → new ≤ old + show_chapter_steps (book_of volume)
    → Takes (CallTakes (λ steps rest. (steps ≤ show_chapter_steps (book_of volume)) × BookScriptTakes files commands volume rest)) (BookScriptTakes files commands volume) old new result
chapter_shown (Ok value) files commands volume old new within = record {
  on = λ rest takes. (show_chapter_steps (book_of volume) ∷ rest, (omega arith, takes), omega (arith, within, with_call (show_chapter_steps (book_of volume)) rest));
  ends = tt;
}
chapter_shown (Err status) files commands volume old new within = record {
  on = tt;
  ends = (show_chapter_steps (book_of volume) ∷ [], (omega arith, no_calls files commands volume), omega (arith, within, with_call (show_chapter_steps (book_of volume)) []));
}

-- the chapter of a name, which takes no step
pub chapter_entered : {A E : Type 0} (result : Result A E) (files : Files) (commands : List Command) (volume left : OpenVolume) (name : List ℕ) (steps : ℕ) → left ≡ turned_to name volume
    → Takes (BookScriptTakes files commands (turned_to name volume)) (BookScriptTakes files commands left) steps steps result
chapter_entered result files commands volume left name steps is =
    takes_nothing result (BookScriptTakes files commands (turned_to name volume)) (BookScriptTakes files commands left) steps steps
    (λ rest takes. subst (λ led. BookScriptTakes files commands led rest) is takes) (no_calls files commands (turned_to name volume)) (omega arith)

-- an `undo` or a `redo`, which takes none
undone_next : (files : Files) (commands : List Command) (number : ℕ) (action : Action) (volume : OpenVolume) → (action ≡ Undo) ⊎ (action ≡ Redo) → (rest : List ℕ)
    → BookScriptTakes files commands volume rest → BookActionTakes files number action volume (BookScriptTakes files commands) rest
undone_next files commands number action volume (inl is) rest takes =
    subst (λ a. BookActionTakes files number a volume (BookScriptTakes files commands) rest) (sym is) takes
undone_next files commands number action volume (inr is) rest takes =
    subst (λ a. BookActionTakes files number a volume (BookScriptTakes files commands) rest) (sym is) takes

pub nothing_undone : {A E : Type 0} (result : Result A E) (files : Files) (commands : List Command) (number : ℕ) (action : Action) (volume : OpenVolume) (steps : ℕ) → (action ≡ Undo) ⊎ (action ≡ Redo)
    → Takes (BookActionTakes files number action volume (BookScriptTakes files commands)) (BookScriptTakes files commands volume) steps steps result
nothing_undone result files commands number action volume steps is =
    takes_nothing result (BookActionTakes files number action volume (BookScriptTakes files commands)) (BookScriptTakes files commands volume) steps steps
    (λ rest takes. undone_next files commands number action volume is rest takes) (none_by_action files number action volume (BookScriptTakes files commands) (no_calls files commands))
    (omega arith)

-- Whole scripts.

within_texts_still : (files : Files) (place : ℕ) (names : List (List ℕ)) (old new : ℕ) (Holds : Type 0) → new ≤ old → Holds → WithinTexts files place names old new Holds
within_texts_still files place [] old new Holds still holds = holds
within_texts_still files place (name ∷ names) old new Holds still holds =
    within_still (text_in (Word place) (files name)) old new (λ text. WithinTexts files (place + 1) names old new Holds) still
    (λ text. within_texts_still files (place + 1) names old new Holds still holds)

-- a run that took no step
pub book_still : (files : Files) (sheet script : List ℕ) (documents : List (List ℕ)) (readings : List Reading) (read : Result (List Command) ℕ) (old new : ℕ) → new ≤ old
    → IsBookWithinWork files sheet script documents readings read old new
book_still files sheet script documents readings read old new still =
    within_still (text_in (Word 1) (files sheet)) old new _ still (λ style.
    within_still (text_in (Word 2) (files script)) old new _ still (λ lines.
    within_texts_still files 3 documents old new _ still
    (within_still (trees_of 3 readings) old new _ still (λ trees.
    within_still (commands_of read) old new _ still (λ commands. inl (omega (arith, still)))))))

texts_have : (files : Files) (place : ℕ) (names texts : List (List ℕ)) (old new : ℕ) (Holds : Type 0) → HaveTexts files place names texts → Holds → WithinTexts files place names old new Holds
texts_have files place [] [] old new Holds have holds = holds
texts_have files place [] (text ∷ texts) old new Holds have holds = absurd have
texts_have files place (name ∷ names) [] old new Holds have holds = absurd have
texts_have files place (name ∷ names) (text ∷ texts) old new Holds have holds =
    subst (λ (given : Result (List ℕ) Status). WithinWith given old new (λ t. WithinTexts files (place + 1) names old new Holds)) (sym have.0)
    (texts_have files (place + 1) names texts old new Holds have.1 holds)

-- the whole run, where all files have texts and these read
pub book_within : (files : Files) (sheet script : List ℕ) (documents : List (List ℕ)) (readings : List Reading) (read : Result (List Command) ℕ)
    (style lines : List ℕ) (texts : List (List ℕ)) (trees : List (Forest Node)) (commands : List Command) (old new : ℕ)
    → HaveBookTexts files sheet script documents style lines texts → trees_of 3 readings ≡ Ok trees → commands_of read ≡ Ok commands
    → (new ≤ old + begin_steps (chapters_of style documents trees)) ⊎ BookTakesCalls files commands (chapters_of style documents trees) old new
    → IsBookWithinWork files sheet script documents readings read old new
book_within files sheet script documents readings read style lines texts trees commands old new have third fourth calls =
    rw (have.of_sheet, have.of_script) (texts_have files 3 documents texts old new _ have.of_documents (rw (third, fourth) calls))

pub calls_as : (files : Files) (commands others : List Command) (volume other : OpenVolume) (taken : List ℕ) → commands ≡ others → volume ≡ other → BookScriptTakes files commands volume taken
    → BookScriptTakes files others other taken
calls_as files commands others volume other taken first second takes =
    subst (λ v. BookScriptTakes files others v taken) second (subst (λ c. BookScriptTakes files c volume taken) first takes)
