-- Commands of the script of a book, as parts of a run.
use Rattle.std.proofs.Common.{◌≡◌, ℕ, ◌<◌, ◌≤◌, ◌+◌, Bool, true, false, List, length, drop, get_or, Option, Result, arith, refl, sym, ◌∙◌, ap, subst, add-one, inl, inr, ◌⊎◌, unwrap_or}
use Rattle.std.specs.Prelude.{Some, None, Ok, Err, IfErr, OnOk}
use Rattle.std.proofs.Math.Seq.{drop-cons}
use Rattle.edit_script.specs.declared.action.Action.{Action}
use Rattle.edit_script.specs.declared.action.Action.TheVariants.{Undo, Redo}
use Rattle.edit_script.specs.declared.command.Command.{Command}
use Rattle.node_arena.specs.declared.place_fault.PlaceFault.{PlaceFault}
use Rattle.plain_types.specs.declared.edit.Edit.{Edit}
use Rattle.ports.specs.Files.{Files}
use Rattle.ports.specs.Grown.{grown, GrowsByFront}
use Rattle.marker_cli.specs.declared.status.Status.{Status}
use Rattle.marker_cli.specs.declared.status.Status.TheVariants.{Memory, WriteFault}
use Rattle.marker_cli.specs.Book.{after_chapter_edit, after_enter, book_action, play_book}
use Rattle.marker_cli.specs.BookSteps.{book_action_steps, book_left_by_edit, book_script_steps}
use Rattle.marker_cli.specs.Edit.{no_document, nothing, refused}
use Rattle.marker_cli.specs.Ends.{EndsAs}
use Rattle.marker_cli.specs.OpenBooks.{OpenBook, edited_book}
use Rattle.marker_cli.specs.OpenVolumes.{AnswersEnter}
use Rattle.marker_cli.specs.Output.{Output, writes}
use Rattle.marker_cli.specs.Machinery.Stands.{Goes, IsAt, Spends}
use Rattle.marker_cli.proofs.EndsLemmas.{at_same, at_start, at_written, ends_no_memory, ends_not_written}

module _ (number : ℕ) (edit : Edit) (old : OpenBook) (place : Option PlaceFault) where
  -- the book that is there
  pub left_done : {new : OpenBook} → place ≡ None → new ≡ edited_book edit old → new ≡ book_left_by_edit edit old place
  left_done none same = same ∙ ap (λ (p : Option PlaceFault). book_left_by_edit edit old p) (sym none)

  pub left_refused : {fault : PlaceFault} {new : OpenBook} → place ≡ Some fault → new ≡ old → new ≡ book_left_by_edit edit old place
  left_refused is same = same ∙ ap (λ (p : Option PlaceFault). book_left_by_edit edit old p) (sym is)

  module _ (next : OpenBook → Output) (before : Option (List ℕ)) where
    -- the edit was done
    pub edit_done : {new : OpenBook} → place ≡ None → new ≡ edited_book edit old → IsAt (after_chapter_edit number edit old place next) before before (next new)
    edit_done none same = at_same (ap (λ p. after_chapter_edit number edit old p next) none ∙ ap next (sym same)) (at_start _ _)

    at_refused : {fault : PlaceFault} → place ≡ Some fault → IsAt (after_chapter_edit number edit old place next) before before (writes (refused number fault) (next old))
    at_refused is = at_same (ap (λ p. after_chapter_edit number edit old p next) is) (at_start _ _)

    -- it was refused, and that was told
    pub edit_refused : {fault : PlaceFault} {new : OpenBook} {now : Option (List ℕ)} → place ≡ Some fault → new ≡ old → now ≡ grown before (refused number fault)
        → IsAt (after_chapter_edit number edit old place next) before now (next new)
    edit_refused is same grew = at_same (ap next (sym same)) (at_written (at_refused is) grew)

    -- it was refused, and telling so failed
    pub edit_untold : {W : Type 0} {fault : PlaceFault} {now : Option (List ℕ)} {status : Status} → place ≡ Some fault → status ≡ WriteFault → W
        → GrowsByFront before now (refused number fault) → EndsAs ⊥ W (after_chapter_edit number edit old place next) before now status
    edit_untold is fault failed grows = ends_not_written (at_refused is) (inr (fault, failed)) grows

-- the document of a name
module _ (number : ℕ) (old new : OpenBook) (step : Option OpenBook) where
  pub left_entered : (here : Bool) → AnswersEnter here old new step → new ≡ unwrap_or step old
  left_entered true answers = ap (λ (led : Option OpenBook). unwrap_or led old) (sym answers)
  left_entered false answers = answers.1 ∙ ap (λ (led : Option OpenBook). unwrap_or led old) (sym answers.0)

  pub at_entered : (next : OpenBook → Output) (before : Option (List ℕ)) → step ≡ Some new → IsAt (after_enter number old step next) before before (next new)
  at_entered next before is = at_same (ap (λ led. after_enter number old led next) is) (at_start _ _)

  pub at_missed : (next : OpenBook → Output) (before : Option (List ℕ)) → step ≡ None → new ≡ old
      → IsAt (after_enter number old step next) before before (writes (no_document number) (next new))
  at_missed next before is same = at_same (ap (λ led. after_enter number old led next) is ∙ ap (λ book. writes (no_document number) (next book)) (sym same)) (at_start _ _)

-- an `undo` or a `redo`
pub at_nothing : (files : Files) (number : ℕ) (action : Action) (book : OpenBook) (next : OpenBook → Output) (before : Option (List ℕ)) → (action ≡ Undo) ⊎ (action ≡ Redo)
    → IsAt (book_action files number action book next) before before (writes (nothing number) (next book))
at_nothing files number action book next before (inl is) = at_same (ap (λ a. book_action files number a book next) is) (at_start _ _)
at_nothing files number action book next before (inr is) = at_same (ap (λ a. book_action files number a book next) is) (at_start _ _)

-- a sheet that is replaced
pub goes_replaced : {R W A : Type 0} {all : Output} {before now : Option (List ℕ)} (next : OpenBook → Output) {new wanted : OpenBook} (result : Result A Status)
    → IsAt all before now (next wanted) → OnOk result (new ≡ wanted) → IfErr result (λ error. error ≡ Memory) → Goes R W all before now (next new) result
goes_replaced next (Ok value) at same cause = record { on = at_same (ap next (sym same)) at; stops = tt }
goes_replaced next (Err error) at same cause = record { on = tt; stops = ends_no_memory at cause }

-- a part that takes so many steps and leaves this book
pub spends_by : {A : Type 0} (result : Result A Status) (next : OpenBook → ℕ) (left led : OpenBook) (most before now : ℕ) → now ≤ before + most → OnOk result (left ≡ led)
    → Spends (most + next led) before now (next left) result
spends_by (Ok value) next left led most before now taken same = let equal = ap next same in record { on = omega (arith, taken, equal); within = omega (arith, taken) }
spends_by (Err error) next left led most before now taken same = record { on = tt; within = omega (arith, taken) }

-- the next command
module _ (files : Files) (commands : List Command) (place : ℕ) (command : Command) (book : OpenBook) where
  pub play_next : place < length commands → command ≡ get_or commands place command
      → play_book files (drop place commands) book ≡ book_action files command.line command.action book (play_book files (drop (place + 1) commands))
  play_next below is = rw (add-one, drop-cons commands place command below, ← is) refl

  pub steps_next : place < length commands → command ≡ get_or commands place command
      → book_script_steps files (drop place commands) book ≡ book_action_steps files command.line command.action book (book_script_steps files (drop (place + 1) commands))
  steps_next below is = rw (add-one, drop-cons commands place command below, ← is) refl
