-- What the calls and the parts of a run take (our own), by the work of edits.
use Rattle.std.specs.Prelude.{◌≡◌, ◌⊎◌, ◌≤◌, ◌+◌, ℕ, List, Option, Result, IfSome, IsSomeAnd, OnOk, OnErr, sum}
use Rattle.edit_inverses.specs.Versions.{Version}
use Rattle.edit_work.specs.KeyedSources.{KeyedSource}
use Rattle.marker_engine.specs.declared.edit_fault.EditFault.{EditFault}
use Rattle.plain_types.specs.declared.edit.Edit.{Edit}
use Rattle.undo_ring.specs.declared.undo_fault.UndoFault.{UndoFault}
use Rattle.marker_cli.specs.Versions.{Versions}
use Rattle.marker_cli.specs.WorkSteps.{IsApplied, IsStepped}

-- an edit, or a step to a version, takes the count from one number to another
abbrev pub Applies : Edit → (before after : KeyedSource) → (old new : ℕ) → Type 0
Applies edit before after old new = (steps : ℕ) × IsApplied edit before after steps × (new ≤ old + steps)

abbrev pub Steps : Version → (before after : KeyedSource) → (old new : ℕ) → Type 0
Steps version before after old new = (steps : ℕ) × IsStepped version before after steps × (new ≤ old + steps)

-- An edit that was asked for was done; or nothing is changed, and it took what it may take, or nothing.
pub record TakesEdit (outcome : Result (Unit {0}) EditFault) (edit : Edit) (before left : KeyedSource) (old new : ℕ) : Type 0 where
  pub done : OnOk outcome (Applies edit before left old new)
  pub stops : OnErr outcome ((new ≤ old) ⊎ ((after : KeyedSource) × Applies edit before after old new))
  pub stays : OnErr outcome (left ≡ before)

-- the same of a step back or forth, which leads to these versions if to any
pub record TakesStep (outcome : Result (Unit {0}) UndoFault) (step : Option Versions) (before left : KeyedSource) (old new : ℕ) : Type 0 where
  pub done : OnOk outcome (IfSome step (λ led. Steps led.present before left old new))
  pub stops : OnErr outcome ((new ≤ old) ⊎ IsSomeAnd step (λ led. (after : KeyedSource) × Steps led.present before after old new))
  pub stays : OnErr outcome (left ≡ before)

-- A part of a run takes the steps of its calls. Where it goes on, what the later calls take comes behind them.
pub record Takes {A E : Type 0} (All Rest : List ℕ → Type 0) (old new : ℕ) (result : Result A E) : Type 0 where
  pub on : OnOk result ((rest : List ℕ) → Rest rest → (taken : List ℕ) × All taken × (new + sum rest ≤ old + sum taken))
  pub ends : OnErr result ((taken : List ℕ) × All taken × (new ≤ old + sum taken))
