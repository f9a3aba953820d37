-- Commands of a script, as parts of a run.
use Rattle.std.proofs.Common.{◌≡◌, ℕ, ◌<◌, ◌+◌, List, length, drop, get_or, Option, Result, refl, sym, ◌∙◌, ap, subst, add-one, inr, ◌⊎◌}
use Rattle.std.specs.Prelude.{Some, None, Ok, Err, IfErr, IfSome, IsSomeAnd, OnErr, OnOk}
use Rattle.std.specs.Result.{IsErr, IsErrAnd}
use Rattle.std.proofs.Math.Seq.{drop-cons}
use Rattle.edit_script.specs.declared.command.Command.{Command}
use Rattle.marker_engine.specs.declared.edit_fault.EditFault.{EditFault}
use Rattle.marker_engine.specs.declared.edit_fault.EditFault.TheVariants as faults
use Rattle.marker_engine.specs.Edited.{edit_fault}
use Rattle.node_arena.specs.declared.place_fault.PlaceFault.{PlaceFault}
use Rattle.node_arena.specs.declared.place_fault.PlaceFault.TheVariants.{NoPlace, IntoItself}
use Rattle.plain_types.specs.declared.edit.Edit.{Edit}
use Rattle.ports.specs.Files.{Files}
use Rattle.ports.specs.Grown.{grown, GrowsByFront}
use Rattle.undo_ring.specs.declared.undo_fault.UndoFault.{UndoFault}
use Rattle.undo_ring.specs.declared.undo_fault.UndoFault.TheVariants as undo_faults
use Rattle.marker_cli.specs.declared.status.Status.{Status}
use Rattle.marker_cli.specs.declared.status.Status.TheVariants.{Memory, WriteFault}
use Rattle.marker_cli.specs.Edit.{action_output, after_edit, after_step, commands_of, nothing, play, refused}
use Rattle.marker_cli.specs.Editors.{AnswersStep, AreSameHistories, TellsNoneApart}
use Rattle.marker_cli.specs.Ends.{EndsAs}
use Rattle.marker_cli.specs.Output.{Output, writes}
use Rattle.marker_cli.specs.Machinery.Stands.{Goes, IsAt}
use Rattle.marker_cli.specs.Versions.{Versions, edited}
use Rattle.marker_cli.proofs.EndsLemmas.{at_same, at_start, at_written, ends_no_memory, ends_not_written, ends_weaker}

-- the fault of an edit that was refused
one_fault : (told given : PlaceFault) → edit_fault told ≡ edit_fault given → given ≡ told
one_fault NoPlace NoPlace same = refl
one_fault NoPlace IntoItself same = absurd (cc same)
one_fault IntoItself NoPlace same = absurd (cc same)
one_fault IntoItself IntoItself same = refl

no_memory_fault : (fault : PlaceFault) → edit_fault fault ≡ faults.Memory → ⊥
no_memory_fault NoPlace same = cc same
no_memory_fault IntoItself same = cc same

pub refused_so : {T : Type 0} (place : Option PlaceFault) (result : Result T EditFault) (told : EditFault) (fault : PlaceFault) → result ≡ Err told → told ≡ edit_fault fault
    → IfSome place (λ given. result ≡ Err (edit_fault given)) → (place ≡ None → IfErr result (λ error. error ≡ faults.Memory)) → place ≡ Some fault
refused_so None result told fault is same given_refused memory =
    absurd (no_memory_fault fault (sym same ∙ subst (λ r. IfErr r (λ error. error ≡ faults.Memory)) is (memory refl)))
refused_so (Some given) result told fault is same given_refused memory = ap Some (one_fault fault given (sym same ∙ cc (sym is ∙ given_refused)))

-- what holds of a part that is Ok, and of one that isn't
pub where_ok : {T E P : Type 0} {value : T} (result : Result T E) → result ≡ Ok value → OnOk result P → P
where_ok (Ok x) is p = p
where_ok (Err error) is p = absurd (cc is)

pub where_err : {T E P : Type 0} {error : E} (result : Result T E) → result ≡ Err error → OnErr result P → P
where_err (Ok x) is p = absurd (cc is)
where_err (Err error) is p = p

module _ (depth number : ℕ) (edit : Edit) (old : Versions) (place : Option PlaceFault) (next : Versions → Output) (before : Option (List ℕ)) where
  -- the edit was done
  pub edit_done : {new : Versions} → TellsNoneApart next → place ≡ None → AreSameHistories new (edited depth edit old)
      → IsAt (after_edit depth number edit old place next) before before (next new)
  edit_done {new} alike none same = at_same (ap (λ p. after_edit depth number edit old p next) none ∙ sym (alike new (edited depth edit old) same)) (at_start _ _)

  at_refused : {fault : PlaceFault} → place ≡ Some fault → IsAt (after_edit depth number edit old place next) before before (writes (refused number fault) (next old))
  at_refused is = at_same (ap (λ p. after_edit depth number edit old p next) is) (at_start _ _)

  -- it was refused, and that was told
  pub edit_refused : {fault : PlaceFault} {new : Versions} {now : Option (List ℕ)} → place ≡ Some fault → new ≡ old → now ≡ grown before (refused number fault)
      → IsAt (after_edit depth number edit old place next) before now (next new)
  edit_refused is same grew = at_same (ap next (sym same)) (at_written (at_refused is) grew)

  -- it was refused, and telling so failed
  pub edit_untold : {W : Type 0} {fault : PlaceFault} {now : Option (List ℕ)} {status : Status} → place ≡ Some fault → status ≡ WriteFault → W
      → GrowsByFront before now (refused number fault) → EndsAs ⊥ W (after_edit depth number edit old place next) before now status
  edit_untold is fault failed grows = ends_not_written (at_refused is) (inr (fault, failed)) grows

module _ (number : ℕ) (old left : Versions) (step : Option Versions) (next : Versions → Output) (before : Option (List ℕ)) (outcome : Result (Unit {0}) UndoFault)
    (answers : AnswersStep outcome old left step) where
  -- a step was taken
  pub step_done : {value : Unit {0}} → TellsNoneApart next → outcome ≡ Ok value → IsAt (after_step number old step next) before before (next left)
  step_done alike is = by step (where_ok outcome is answers.done)
    where
      by : (step : Option Versions) → IsSomeAnd step (λ led. AreSameHistories left led) → IsAt (after_step number old step next) before before (next left)
      by None led = absurd led
      by (Some other) led = at_same (sym (alike left other led)) (at_start _ _)

  at_nothing : outcome ≡ Err undo_faults.Nothing → IsAt (after_step number old step next) before before (writes (nothing number) (next old))
  at_nothing is = at_same (ap (λ s. after_step number old s next) (answers.nothing.0 is)) (at_start _ _)

  -- there was none, and that was told
  pub step_nothing : {now : Option (List ℕ)} → outcome ≡ Err undo_faults.Nothing → now ≡ grown before (nothing number) → IsAt (after_step number old step next) before now (next left)
  step_nothing is grew = at_same (ap next (sym (where_err outcome is answers.stays))) (at_written (at_nothing is) grew)

  -- there was none, and telling so failed
  pub step_untold : {W : Type 0} {now : Option (List ℕ)} {status : Status} → outcome ≡ Err undo_faults.Nothing → status ≡ WriteFault → W → GrowsByFront before now (nothing number)
      → EndsAs ⊥ W (after_step number old step next) before now status
  step_untold is fault failed grows = ends_not_written (at_nothing is) (inr (fault, failed)) grows

-- the answer of a step, by its fault
pub told_so : (outcome : Result (Unit {0}) UndoFault) (told fault : UndoFault) → outcome ≡ Err told → told ≡ fault → outcome ≡ Err fault
told_so outcome told fault is same = is ∙ ap Err same

-- a part that went on
pub goes_on_so : {R W A : Type 0} {all : Output} {before now : Option (List ℕ)} {left : Output} {value : A} (result : Result A Status) → result ≡ Ok value → IsAt all before now left
    → Goes R W all before now left result
goes_on_so (Ok x) is at = record { on = at; stops = tt }
goes_on_so (Err error) is at = absurd (cc is)

-- and one that ended for want of memory
pub goes_no_memory : {R W A : Type 0} {all : Output} {before : Option (List ℕ)} {left : Output} (result : Result A Status) → result ≡ Err Memory → Goes R W all before before left result
goes_no_memory (Ok x) is = absurd (cc is)
goes_no_memory (Err error) is = record { on = tt; stops = ends_no_memory (at_start _ _) (cc is) }

-- causes that say less
pub goes_weaker : {T R W S X : Type 0} {output : Output} {before now : Option (List ℕ)} {left : Output} (result : Result T Status) → (S → R) → (X → W)
    → Goes S X output before now left result → Goes R W output before now left result
goes_weaker (Ok x) r w goes = record { on = goes.on; stops = tt }
goes_weaker (Err error) r w goes = record { on = tt; stops = ends_weaker r w goes.stops }

-- what a `?` hands on
pub goes_stopped : {R W A : Type 0} {all : Output} {before now : Option (List ℕ)} {left : Output} (result : Result A Status) {status : Status}
    → IsErr result × IsErrAnd result (λ error. error ≡ status) → EndsAs R W all before now status → Goes R W all before now left result
goes_stopped (Ok x) is ends = absurd is.1
goes_stopped {R} {W} {A} {all} {before} {now} (Err error) is ends = record { on = tt; stops = subst (λ s. EndsAs R W all before now s) (sym is.1) ends }

-- a part that writes
pub goes_put : {R W A : Type 0} {all : Output} {before now after : Option (List ℕ)} {bytes : List ℕ} {left : Output} (result : Result A Status) → IsAt all before now (writes bytes left)
    → OnOk result (after ≡ grown now bytes) → OnErr result (GrowsByFront now after bytes) → IfErr result (λ error. (error ≡ Memory) ⊎ ((error ≡ WriteFault) × W))
    → Goes R W all before after left result
goes_put (Ok x) at grew grows cause = record { on = at_written at grew; stops = tt }
goes_put (Err error) at grew grows cause = record { on = tt; stops = ends_not_written at cause grows }

-- a sheet that is replaced
pub goes_replaced : {R W A : Type 0} {all : Output} {before now : Option (List ℕ)} (next : Versions → Output) {new wanted : Versions} (result : Result A Status) → TellsNoneApart next
    → IsAt all before now (next wanted) → OnOk result (AreSameHistories new wanted) → IfErr result (λ error. error ≡ Memory) → Goes R W all before now (next new) result
goes_replaced next {new} {wanted} (Ok x) alike at same cause = record { on = at_same (sym (alike new wanted same)) at; stops = tt }
goes_replaced next (Err error) alike at same cause = record { on = tt; stops = ends_no_memory at cause }

-- the next command
pub play_next : (files : Files) (depth : ℕ) (commands : List Command) (place : ℕ) (command : Command) (versions : Versions) → place < length commands → command ≡ get_or commands place command
    → play files depth (drop place commands) versions ≡ action_output files depth command.line command.action versions (play files depth (drop (place + 1) commands))
play_next files depth commands place command versions below is = rw (add-one, drop-cons commands place command below, ← is) refl

-- a script that gives commands reads as these
pub given_commands : (read : Result (List Command) ℕ) (commands : List Command) → commands_of read ≡ Ok commands → read ≡ Ok commands
given_commands (Ok others) commands is = ap Ok (cc is)
given_commands (Err number) commands is = absurd (cc is)
