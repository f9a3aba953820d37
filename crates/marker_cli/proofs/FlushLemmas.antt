-- How a run ends once its output is flushed.
use Rattle.std.proofs.Common.{◌≡◌, ℕ, ◌≤◌, List, ◌++◌, Option, append_assoc, arith, sym, ◌∙◌, ap, subst, inl, inr, ◌⊎◌}
use Rattle.ports.specs.Causes.{Rose}
use Rattle.ports.specs.Grown.{grown, GrowsByFront}
use Rattle.ports.proofs.GrownLemmas.{front_whole}
use Rattle.marker_cli.specs.declared.status.FileAt.{FileAt}
use Rattle.marker_cli.specs.declared.status.Status.{Status}
use Rattle.marker_cli.specs.declared.status.Status.TheVariants.{WriteFault}
use Rattle.marker_cli.specs.Ends.{EndsAs, IsCaused, IsSettled, IsWhole, whole, no_memory, not_written, not_read}
use Rattle.marker_cli.specs.Names.{TellsOfLine}
use Rattle.marker_cli.specs.Output.{ComesAfter, Output, bytes_of, ends, turn, writes}
use Rattle.marker_cli.proofs.EndsLemmas.{ends_same, ends_weaker}

-- the status stays, or the flush failed
abbrev Flushed : Type 0 → Status → Status → Type 0
Flushed failed before now = (now ≡ before) ⊎ (IsSettled before × (now ≡ WriteFault) × failed)

-- what is written before a file's turn is a front of the output
comes_front : (output : Output) (file : FileAt) (written : List ℕ) → ComesAfter output file written → (rest : List ℕ) × (written ++ rest ≡ bytes_of output)
comes_front (ends status) file written comes = absurd comes
comes_front (turn other rest) file written (inl here) = (bytes_of rest, ap (λ w. w ++ bytes_of rest) here.1)
comes_front (turn other rest) file written (inr later) = comes_front rest file written later
comes_front (writes bytes rest) file written comes =
    let found = comes_front rest file comes.0 comes.2 in
    (found.0, ap (λ w. w ++ found.0) comes.1 ∙ append_assoc bytes comes.0 found.0 ∙ ap (λ z. bytes ++ z) found.1)

front_turn : {before now : Option (List ℕ)} (output : Output) (file : FileAt) (written : List ℕ) → ComesAfter output file written → now ≡ grown before written
    → GrowsByFront before now (bytes_of output)
front_turn output file written comes grew =
    let found = comes_front output file written comes in record { front = written; rest = found.0; parts = found.1; went_out = grew }

failed_flush : {R W X : Type 0} {all : Output} {before now : Option (List ℕ)} {outcome told : Status} → EndsAs R W all before now outcome → IsSettled outcome
    → told ≡ WriteFault → X → EndsAs R X all before now told
failed_flush {all = all} (whole is grew) settled fault failed = not_written fault failed (front_whole _ _ (bytes_of all) grew)
failed_flush (no_memory is grows) settled fault failed = absurd (subst IsSettled is settled)
failed_flush (not_written is write grows) settled fault failed = absurd (subst IsSettled is settled)
failed_flush {all = all} (not_read file written is read comes grew) settled fault failed = not_written fault failed (front_turn all file written comes grew)

pub ends_flushed : {R W V X : Type 0} {all : Output} {before now after : Option (List ℕ)} {outcome told : Status} → EndsAs R W all before now outcome
    → Flushed V outcome told → after ≡ now → (W → X) → (V → X) → EndsAs R X all before after told
ends_flushed {R} {W} {V} {X} {all} {before} {now} {after} {outcome} {told} ended flushed kept w v = rw kept (by flushed)
  where
    by : Flushed V outcome told → EndsAs R X all before now told
    by (inl same) = ends_same (λ i. all) same (ends_weaker (λ read. read) w ended)
    by (inr failed) = failed_flush ended failed.0 failed.1 (v failed.2)

-- a status other than WriteFault was there before
pub was_before : (V : Type 0) (outcome told other : Status) → Flushed V outcome told → told ≡ other → (WriteFault ≡ other → ⊥) → outcome ≡ other
was_before V outcome told other (inl same) is differs = sym same ∙ is
was_before V outcome told other (inr failed) is differs = absurd (differs (sym failed.1 ∙ is))

-- a status of a run that was done to its end was there before
pub was_whole : (V : Type 0) (outcome told : Status) → Flushed V outcome told → IsWhole told → IsWhole outcome
was_whole V outcome told (inl same) whole_now = subst IsWhole same whole_now
was_whole V outcome told (inr failed) whole_now = absurd (subst IsWhole failed.1 whole_now)

-- a status that tells of no output stays
pub stays : (V : Type 0) (outcome told other : Status) → Flushed V outcome told → outcome ≡ other → (IsSettled other → ⊥) → told ≡ other
stays V outcome told other (inl same) is differs = same ∙ is
stays V outcome told other (inr failed) is differs = absurd (differs (subst IsSettled is failed.0))

pub tells_before : (V : Type 0) (outcome told : Status) → Flushed V outcome told → TellsOfLine told → TellsOfLine outcome
tells_before V outcome told (inl same) tells = subst TellsOfLine same tells
tells_before V outcome told (inr failed) tells = absurd (subst TellsOfLine failed.1 tells)

-- a failed write, or a failed flush
pub write_rose : (U R L : Type 0) (before now after : ℕ) (outcome told : Status) → before ≤ now → now ≤ after → IsCaused U R L (Rose before now) outcome
    → Flushed (Rose now after) outcome told → told ≡ WriteFault → Rose before after
write_rose U R L before now after outcome told first second cause (inl same) is =
    let rose : Rose before now = subst (λ s. IsCaused U R L (Rose before now) s) (sym same ∙ is) cause in omega arith
write_rose U R L before now after outcome told first second cause (inr failed) is = let rose : Rose now after = failed.2 in omega arith
