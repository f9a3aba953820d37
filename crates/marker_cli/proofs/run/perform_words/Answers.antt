use Rattle.std.proofs.Common.{arith, refl, sym, subst, inl, inr}
use Rattle.std.specs.Prelude.{Some}
use Rattle.marker_cli.specs.Ends.{IsWhole}
use Rattle.marker_cli.specs.Names.{TellsOfLine}
use Rattle.marker_cli.specs.Words.{IsForm, IsOfTable, form_of, read_form_of, table}
use Rattle.marker_cli.proofs.EndsLemmas.{at_start, ends_same, ends_whole}
use Rattle.marker_cli.proofs.FormLemmas.{one_form}
use Rattle.marker_cli.proofs.ReadLemmas.{raised_as}
use Rattle.marker_cli.proofs.RunLemmas.{output_of, output_usage, run_still, size_same, some_readings, steps_same, texts_of, within_same}
use Rattle.marker_cli.proofs.run.perform_words.Goals as goal

pub perform-requires : goal.perform-requires
perform-requires g c =
    let is : IsForm c.args.words.now (form_of c.in-Ok-Some.form) = rw c.in-Ok-Some.field-0-is at c.in-Ok-Some.ensures.form in
    record { within = is.within }

pub returns-in-Ok-Some-clause-readings : goal.returns-in-Ok-Some-clause-readings
returns-in-Ok-Some-clause-readings g c files = some_readings c.documents_stay.ensures.stay c.some_output.ensures c.args.words.now files (read_form_of c.in-Ok-Some.field-0) c.in-Ok-Some.ensures.form

pub returns-in-Ok-Some-clause-told : goal.returns-in-Ok-Some-clause-told
returns-in-Ok-Some-clause-told g c files readings told reads =
    let is : IsForm c.args.words.now (form_of c.in-Ok-Some.form) = rw c.in-Ok-Some.field-0-is at c.in-Ok-Some.ensures.form in
    ends_same (output_of c.args.words.now files readings _ is reads.form) c.status_of.ensures
    (c.perform.ensures.told files readings told (texts_of c.args.words.now files readings _ is reads))

pub returns-in-Ok-Some-clause-commands : goal.returns-in-Ok-Some-clause-commands
returns-in-Ok-Some-clause-commands g c files readings told reads tells =
    let is : IsForm c.args.words.now (form_of c.in-Ok-Some.form) = rw c.in-Ok-Some.field-0-is at c.in-Ok-Some.ensures.form in
    c.perform.ensures.commands files readings told (texts_of c.args.words.now files readings _ is reads)
    (subst TellsOfLine c.status_of.ensures tells)

pub returns-in-Ok-Some-clause-reads : goal.returns-in-Ok-Some-clause-reads
returns-in-Ok-Some-clause-reads g c files readings told reads whole =
    let is : IsForm c.args.words.now (form_of c.in-Ok-Some.form) = rw c.in-Ok-Some.field-0-is at c.in-Ok-Some.ensures.form in
    raised_as (sym (size_same c.args.words.now files readings _ is reads.form))
    (c.perform.ensures.reads files readings told (texts_of c.args.words.now files readings _ is reads) (subst IsWhole c.status_of.ensures whole))

pub returns-in-Ok-Some-clause-steps : goal.returns-in-Ok-Some-clause-steps
returns-in-Ok-Some-clause-steps g c files readings told reads =
    let is : IsForm c.args.words.now (form_of c.in-Ok-Some.form) = rw c.in-Ok-Some.field-0-is at c.in-Ok-Some.ensures.form in
    let same = steps_same c.args.words.now files readings _ is reads.form in
    let taken = c.perform.ensures.steps files readings told (texts_of c.args.words.now files readings _ is reads) in
    omega (arith, same, taken)

pub returns-in-Ok-Some-clause-no_steps : goal.returns-in-Ok-Some-clause-no_steps
returns-in-Ok-Some-clause-no_steps g c (inl none) = absurd (none _ (rw c.in-Ok-Some.field-0-is at c.in-Ok-Some.ensures.form))
returns-in-Ok-Some-clause-no_steps g c (inr other) =
    let is : IsForm c.args.words.now (form_of c.in-Ok-Some.form) = rw c.in-Ok-Some.field-0-is at c.in-Ok-Some.ensures.form in
    c.perform.ensures.no_steps (subst IsOfTable (sym (one_form c.args.words.now (table other.0 other.1 other.2 other.3) _ other.4 is)) tt)

pub returns-in-Ok-None-clause-readings : goal.returns-in-Ok-None-clause-readings
returns-in-Ok-None-clause-readings g c files = some_readings c.documents_stay.ensures.stay c.some_output.ensures c.args.words.now files (read_form_of c.in-Ok-None.field-0) c.in-Ok-None.ensures.form

pub returns-in-Ok-None-clause-told : goal.returns-in-Ok-None-clause-told
returns-in-Ok-None-clause-told g c files readings told reads =
    ends_same (output_usage c.args.words.now files readings (rw c.in-Ok-None.field-0-is at c.in-Ok-None.ensures.form) reads.form) refl (ends_whole (at_start _ _))

pub returns-in-Err-clause-readings : goal.returns-in-Err-clause-readings
returns-in-Err-clause-readings g c files =
    let memory = c.in-Err.ensures.memory in
    some_readings c.documents_stay.ensures.stay c.some_output.ensures c.args.words.now files (Some memory.0) memory.1

pub returns-in-Ok-Some-clause-within_work : goal.returns-in-Ok-Some-clause-within_work
returns-in-Ok-Some-clause-within_work g c files readings told reads =
    let is : IsForm c.args.words.now (form_of c.in-Ok-Some.form) = rw c.in-Ok-Some.field-0-is at c.in-Ok-Some.ensures.form in
    within_same c.args.words.now files readings _ is _ _ reads.form (c.perform.ensures.within_work files readings told (texts_of c.args.words.now files readings _ is reads))

pub returns-in-Ok-None-clause-within_work : goal.returns-in-Ok-None-clause-within_work
returns-in-Ok-None-clause-within_work g c files readings told reads = run_still files readings readings.form _ _ (omega arith)

pub returns-in-Err-clause-within_work : goal.returns-in-Err-clause-within_work
returns-in-Err-clause-within_work g c files readings told reads = run_still files readings readings.form _ _ (omega arith)
