use Rattle.std.proofs.Common.{◌≡◌, ◌≤◌, ◌+◌, ℕ, List, drop}
use Rattle.std.specs.Prelude.{sum as total}
use Rattle.dirty_walk.specs.Books.{keyed_source}
use Rattle.marker_engine.specs.Engines.{source_of}
use Rattle.marker_cli.specs.Generated.{after_edits, edits_steps, unedited}
use Rattle.marker_cli.specs.Machinery.Tallies.{tallied}
use Rattle.marker_cli.specs.WorkSteps.{EditsTake}
use Rattle.marker_cli.proofs.generated.apply_all.Given as goal

abbrev pub invariant-loop-edit : goal.invariant-loop-edit
invariant-loop-edit g l = record {
  now : after_edits (drop l.edit-index l.edits) (tallied (source_of l.engine) l.tally) ≡ after_edits l.edits (unedited (source_of l.initial.engine));
  sum : l.tally.accepted + l.tally.refused ≡ l.edit-index;
  steps : l.steps + edits_steps (drop l.edit-index l.edits) (tallied (source_of l.engine) l.tally) ≤ l.initial.steps + edits_steps l.edits (unedited (source_of l.initial.engine));
  takes : (rest : List ℕ) → EditsTake (drop l.edit-index l.edits) (keyed_source l.engine) rest
      → (taken : List ℕ) × EditsTake l.edits (keyed_source l.initial.engine) taken × (l.steps + total rest ≤ l.initial.steps + total taken);
}
