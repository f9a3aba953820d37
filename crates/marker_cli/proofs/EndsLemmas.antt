-- Where a run stands, step by step, and how it ends from there. A function of several parts answers each
-- of its exits by a chain of these: `at_start`, one `at_` lemma for each part that went on, and the
-- `ends_` lemma of the part that ended the run.
use Rattle.std.proofs.Common.{◌≡◌, ℕ, ◌≤◌, Bool, arith, List, [], ◌++◌, Option, Result, refl, sym, ◌∙◌, ap, subst, append_assoc, append-nil, inl, inr, ◌⊎◌}
use Rattle.std.specs.Prelude.{Ok, Err, OnOk, OnErr, IfErr}
use Rattle.std.specs.Result.{IsErr, IsErrAnd}
use Rattle.ports.specs.Files.{Files}
use Rattle.ports.specs.Grown.{grown, GrowsByFront}
use Rattle.ports.proofs.GrownLemmas.{grown-grown, grown-nil, grown_after, front_none, front_more}
use Rattle.marker_cli.specs.declared.status.FileAt.{FileAt}
use Rattle.marker_cli.specs.declared.status.Status.{Status}
use Rattle.marker_cli.specs.declared.status.Status.TheVariants.{Memory, ReadFault, WriteFault}
use Rattle.marker_cli.specs.declared.status.Status.TheVariants as status
use Rattle.marker_cli.specs.Ends.{IsCaused, part_status, ReadsFailed, EndsAs, whole, no_memory, not_written, not_read}
use Rattle.marker_cli.specs.Output.{Output, ends, turn, writes, bytes_of, status_of, ComesAfter, goes_on}
use Rattle.marker_cli.specs.Machinery.Stands.{IsAt}
use Rattle.marker_cli.specs.Turns.{StopsBy, is_refused, lacks_memory, was_not_read, with_text, text_in}

-- at the start
pub at_start : (all : Output) (before : Option (List ℕ)) → IsAt all before before all
at_start all before = record {
  written = [];
  went_out = grown-nil before;
  leads = record { bytes = refl; status = refl; turns = λ file more comes. comes };
}

-- the turn of a file
pub at_turn : {all : Output} {before now : Option (List ℕ)} {file : FileAt} {left : Output} → IsAt all before now (turn file left) → IsAt all before now left
at_turn at = record {
  written = at.written;
  went_out = at.went_out;
  leads = record { bytes = at.leads.bytes; status = at.leads.status; turns = λ file more comes. at.leads.turns file more (inr comes) };
}

-- what is left, by another name
pub at_same : {all : Output} {before now : Option (List ℕ)} {left other : Output} → left ≡ other → IsAt all before now left → IsAt all before now other
at_same {all} {before} {now} same at = subst (λ o. IsAt all before now o) same at

-- a value is there
pub at_value : {A : Type 0} {all : Output} {before now : Option (List ℕ)} {result : Result A Status} (next : A → Output) {value : A}
    → IsAt all before now (goes_on result next) → result ≡ Ok value → IsAt all before now (next value)
at_value next at is = at_same (ap (λ r. goes_on r next) is) at

-- a file's text is there
pub at_text : {all : Output} {before now : Option (List ℕ)} (files : Files) (file : FileAt) (name : List ℕ) (next : List ℕ → Output) {text : List ℕ}
    → IsAt all before now (with_text files file name next) → text_in file (files name) ≡ Ok text → IsAt all before now (next text)
at_text files file name next at is = at_value next (at_turn at) is

-- bytes were written
pub at_written : {all : Output} {before now after : Option (List ℕ)} {bytes : List ℕ} {left : Output}
    → IsAt all before now (writes bytes left) → after ≡ grown now bytes → IsAt all before after left
at_written {all} {before} {now} {after} {bytes} {left} at grew = record {
  written = at.written ++ bytes;
  went_out = grew ∙ ap (λ o. grown o bytes) at.went_out ∙ grown-grown before at.written bytes;
  leads = record {
    bytes = at.leads.bytes ∙ sym (append_assoc at.written bytes (bytes_of left));
    status = at.leads.status;
    turns = λ file more comes. subst (λ w. ComesAfter all file w) (sym (append_assoc at.written bytes more)) (at.leads.turns file (bytes ++ more) (more, refl, comes));
  };
}

-- a part that went on
pub at_part : {all part left : Output} {before now after : Option (List ℕ)} → IsAt all before now part → IsAt part now after left → IsAt all before after left
at_part {all} {part} {left} {before} {now} {after} at more = record {
  written = at.written ++ more.written;
  went_out = grown_after before now after at.written more.written at.went_out more.went_out;
  leads = record {
    bytes = at.leads.bytes ∙ ap (λ bs. at.written ++ bs) more.leads.bytes ∙ sym (append_assoc at.written more.written (bytes_of left));
    status = at.leads.status ∙ more.leads.status;
    turns = λ file w comes. subst (λ v. ComesAfter all file v) (sym (append_assoc at.written more.written w)) (at.leads.turns file (more.written ++ w) (more.leads.turns file w comes));
  };
}

-- a front of what is left went out
front_at : {all left : Output} {before now after : Option (List ℕ)} → IsAt all before now left → GrowsByFront now after (bytes_of left) → GrowsByFront before after (bytes_of all)
front_at {all} {left} {before} {now} {after} at grows = record {
  front = at.written ++ grows.front;
  rest = grows.rest;
  parts = append_assoc at.written grows.front grows.rest ∙ ap (λ zs. at.written ++ zs) grows.parts ∙ sym at.leads.bytes;
  went_out = grown_after before now after at.written grows.front at.went_out grows.went_out;
}

-- the end
pub ends_whole : {R W : Type 0} {all : Output} {before now : Option (List ℕ)} {status : Status} → IsAt all before now (ends status) → EndsAs R W all before now status
ends_whole {before = before} at = whole (sym at.leads.status) (at.went_out ∙ ap (λ bs. grown before bs) (sym (at.leads.bytes ∙ append-nil at.written)))

-- a refusal
pub ends_refused : {R W A : Type 0} {all : Output} {before now : Option (List ℕ)} {result : Result A Status} (next : A → Output) {status : Status}
    → IsAt all before now (goes_on result next) → result ≡ Err status → EndsAs R W all before now status
ends_refused next at is = ends_whole (at_same (ap (λ r. goes_on r next) is) at)

-- want of memory
pub ends_no_memory : {R W : Type 0} {all : Output} {before now : Option (List ℕ)} {left : Output} {status : Status}
    → IsAt all before now left → status ≡ Memory → EndsAs R W all before now status
ends_no_memory {now = now} {left = left} at is = no_memory is (front_at at (front_none now (bytes_of left)))

-- a value that wasn't made: the definition has none, or memory was wanting
pub ends_not_given : {R W A : Type 0} {all : Output} {before now : Option (List ℕ)} {result : Result A Status} (next : A → Output) {status : Status}
    → IsAt all before now (goes_on result next) → (status ≡ Memory) ⊎ (result ≡ Err status) → EndsAs R W all before now status
ends_not_given next at (inl is) = ends_no_memory at is
ends_not_given next at (inr is) = ends_refused next at is

-- a write ended the run
pub ends_not_written : {R W : Type 0} {all : Output} {before now after : Option (List ℕ)} {bytes : List ℕ} {left : Output} {status : Status}
    → IsAt all before now (writes bytes left) → (status ≡ Memory) ⊎ ((status ≡ WriteFault) × W) → GrowsByFront now after bytes → EndsAs R W all before after status
ends_not_written {left = left} at (inl is) grows = no_memory is (front_at at (front_more (bytes_of left) grows))
ends_not_written {left = left} at (inr failed) grows = not_written failed.0 failed.1 (front_at at (front_more (bytes_of left) grows))

-- a read ended the run
pub ends_not_read : {R W : Type 0} {all : Output} {before now : Option (List ℕ)} {file : FileAt} {left : Output} {status : Status}
    → IsAt all before now (turn file left) → status ≡ ReadFault file → R → EndsAs R W all before now status
ends_not_read {all = all} {before = before} {file = file} at is failed =
    not_read file at.written is failed (subst (λ w. ComesAfter all file w) (append-nil at.written) (at.leads.turns file [] (inl (refl, refl)))) at.went_out

-- a file's turn ended the run
pub ends_no_text : {R W S : Type 0} {all : Output} {before now : Option (List ℕ)} (files : Files) (file : FileAt) (name : List ℕ) (next : List ℕ → Output) {status : Status}
    → IsAt all before now (with_text files file name next) → StopsBy S file (text_in file (files name)) status → (S → R) → EndsAs R W all before now status
ends_no_text files file name next at (is_refused is) r = ends_refused next (at_turn at) is
ends_no_text files file name next at (lacks_memory is) r = ends_no_memory at is
ends_no_text files file name next at (was_not_read is failed) r = ends_not_read at is (r failed)

-- a part ended the run
pub ends_part : {R W S X : Type 0} {all : Output} (part : Output) (before : Option (List ℕ)) {now after : Option (List ℕ)} {status : Status}
    → IsAt all before now part → EndsAs S X part now after status → (S → R) → (X → W) → EndsAs R W all before after status
ends_part part before at (whole is grew) r w =
    whole (is ∙ sym at.leads.status) (grown_after before _ _ at.written (bytes_of part) at.went_out grew ∙ ap (λ bs. grown before bs) (sym at.leads.bytes))
ends_part part before at (no_memory is grows) r w = no_memory is (front_at at grows)
ends_part part before at (not_written is failed grows) r w = not_written is (w failed) (front_at at grows)
ends_part part before at (not_read file written is failed comes grew) r w =
    not_read file (at.written ++ written) is (r failed) (at.leads.turns file written comes) (grown_after before _ _ at.written written at.went_out grew)

-- the same output, and the same status
pub ends_same : {R W : Type 0} {all other : Output} {before now : Option (List ℕ)} {status told : Status}
    → all ≡ other → told ≡ status → EndsAs R W all before now status → EndsAs R W other before now told
ends_same {R} {W} {before = before} {now = now} {status = status} same is at = rw is (subst (λ o. EndsAs R W o before now status) same at)

-- causes that say less
pub ends_weaker : {R W S X : Type 0} {output : Output} {before now : Option (List ℕ)} {status : Status}
    → (S → R) → (X → W) → EndsAs S X output before now status → EndsAs R W output before now status
ends_weaker r w (whole is grew) = whole is grew
ends_weaker r w (no_memory is grows) = no_memory is grows
ends_weaker r w (not_written is failed grows) = not_written is (w failed) grows
ends_weaker r w (not_read file written is failed comes grew) = not_read file written is (r failed) comes grew

-- what a `?` hands on
pub ends_stopped : {R W A : Type 0} {all : Output} {before now : Option (List ℕ)} (result : Result A Status) {status : Status}
    → IsErr result × IsErrAnd result (λ error. error ≡ status) → EndsAs R W all before now status → EndsAs R W all before now (part_status result)
ends_stopped (Ok x) is at = absurd is.1
ends_stopped {R} {W} {A} {all} {before} {now} (Err error) is at = subst (λ s. EndsAs R W all before now s) (sym is.1) at

pub part_status_is : {A : Type 0} (result : Result A Status) {status : Status} → IsErr result × IsErrAnd result (λ error. error ≡ status) → part_status result ≡ status
part_status_is (Ok x) is = absurd is.1
part_status_is (Err error) is = is.1

-- the last part of a run, which writes what is left
pub ends_put : {R W A : Type 0} {all : Output} {before now after : Option (List ℕ)} {bytes : List ℕ} (result : Result A Status) → IsAt all before now (writes bytes (ends status.Ok))
    → OnOk result (after ≡ grown now bytes) → OnErr result (GrowsByFront now after bytes) → IfErr result (λ error. (error ≡ Memory) ⊎ ((error ≡ WriteFault) × W))
    → EndsAs R W all before after (part_status result)
ends_put (Ok x) at grew grows cause = ends_whole (at_written at grew)
ends_put (Err error) at grew grows cause = ends_not_written at cause grows

-- a status with no cause outside
pub caused_within : (U R L W : Type 0) (status : Status) → IsCaused ⊥ ⊥ ⊥ ⊥ status → IsCaused U R L W status
caused_within U R L W status.Ok within = tt
caused_within U R L W Memory within = tt
caused_within U R L W status.Usage within = absurd within
caused_within U R L W (ReadFault file) within = absurd within
caused_within U R L W (status.TooLarge file) within = absurd within
caused_within U R L W (status.NotUtf8 file offset) within = tt
caused_within U R L W (status.BadDocument line column) within = tt
caused_within U R L W (status.BadScript number) within = tt
caused_within U R L W WriteFault within = absurd within
caused_within U R L W (status.LeftOut count) within = tt
caused_within U R L W (status.BadPart file line column) within = tt

-- what is caused by facts is caused by those that follow from them
pub caused_more : {read large write later_read later_large later_write : Type 0} (status : Status) → (read → later_read) → (large → later_large) → (write → later_write)
    → IsCaused ⊥ read large write status → IsCaused ⊥ later_read later_large later_write status
caused_more status.Ok r l w cause = tt
caused_more Memory r l w cause = tt
caused_more status.Usage r l w cause = cause
caused_more (ReadFault file) r l w cause = r cause
caused_more (status.TooLarge file) r l w cause = l cause
caused_more (status.NotUtf8 file offset) r l w cause = tt
caused_more (status.BadDocument line column) r l w cause = tt
caused_more (status.BadScript number) r l w cause = tt
caused_more WriteFault r l w cause = w cause
caused_more (status.LeftOut count) r l w cause = tt
caused_more (status.BadPart file line column) r l w cause = tt

pub caused_as : (U R L W : Type 0) {status told : Status} → told ≡ status → IsCaused U R L W status → IsCaused U R L W told
caused_as U R L W same cause = subst (λ s. IsCaused U R L W s) (sym same) cause

-- reads that failed later in a run, or earlier
pub reads_after : {honest other : Bool} {before middle now : ℕ} → other ≡ honest → before ≤ middle → ReadsFailed other middle now → ReadsFailed honest before now
reads_after same later failed = let rose = failed.rose in record { dishonest = sym same ∙ failed.dishonest; rose = omega arith }

pub reads_before : {honest : Bool} {before middle now : ℕ} → middle ≤ now → ReadsFailed honest before middle → ReadsFailed honest before now
reads_before later failed = let rose = failed.rose in record { dishonest = failed.dishonest; rose = omega arith }

-- without a fault all of it went out, with its status, or memory was wanting
pub completes : {R W : Type 0} {output : Output} {before now : Option (List ℕ)} {status : Status} → EndsAs R W output before now status → ¬ R → ¬ W
    → (status ≡ Memory) ⊎ ((status ≡ status_of output) × (now ≡ grown before (bytes_of output)))
completes (whole is grew) r w = inr (is, grew)
completes (no_memory is grows) r w = inl is
completes (not_written is failed grows) r w = absurd (w failed)
completes (not_read file written is failed comes grew) r w = absurd (r failed)
