-- From the words of a run to its command.
use Rattle.std.proofs.Common.{◌≡◌, ◌≤◌, ◌∙◌, ◌+◌, ℕ, List, [], ◌∷◌, Option, Result, arith, inl, sym, ap, subst, refl}
use Rattle.std.specs.Prelude.{Some, None, Ok, Err}
use Rattle.std.specs.List.{AllZip}
use Rattle.bake_book.specs.Dressing.{dressed_document}
use Rattle.bake_definitions.specs.Places.{placed}
use Rattle.bake_book.specs.Laws.{DocumentsStay}
use Rattle.edit_script.specs.Scripts.{ReadsAsScript}
use Rattle.edit_script.specs.declared.command.Command.{Command}
use Rattle.edit_script.specs.declared.script_kind.ScriptKind.{ScriptKind}
use Rattle.edit_script.specs.declared.script_kind.ScriptKind.TheVariants.{Book}
use Rattle.edit_script.proofs.TotalLaws.{some_reading}
use Rattle.ports.specs.Files.{Files}
use Rattle.xhtml_reader.specs.Readings.{ReadsAsDocument}
use Rattle.xhtml_reader.proofs.Totals.{some_document}
use Rattle.marker_cli.specs.declared.status.FileAt.TheVariants.{Word, Line}
use Rattle.marker_cli.specs.declared.status.Status.{Status}
use Rattle.marker_cli.specs.declared.status.Status.TheVariants.{Usage, WriteFault}
use Rattle.marker_cli.specs.declared.status.Status.TheVariants as status
use Rattle.marker_cli.specs.Bake.{BakesTo}
use Rattle.marker_cli.specs.Book.{BookScriptReadsAs}
use Rattle.marker_cli.specs.Documents.{DocumentReadsAs, Reading}
use Rattle.marker_cli.specs.Edit.{ScriptReadsAs, kind_of}
use Rattle.marker_cli.specs.Ends.{IsCaused}
use Rattle.marker_cli.specs.Lines.{message}
use Rattle.marker_cli.specs.Names.{TellsOfLine}
use Rattle.marker_cli.specs.Output.{ends}
use Rattle.marker_cli.specs.Parts.{HaveTexts, PartsReadAs}
use Rattle.marker_cli.specs.Run.{AreReadings, IsFormWithinWork, IsRunWithinWork, Readings, TextsReadAs, form_output, form_size, form_steps, most_run_steps, output, read_size}
use Rattle.marker_cli.specs.Turns.{text_in}
use Rattle.marker_cli.specs.Words.{Form, IsForm, ReadsAsForm, aspect, bake, book, edit, gen, table}
use Rattle.marker_cli.proofs.BakeLemmas.{SomeOutput, baked_as, placed_document}
use Rattle.marker_cli.proofs.FormLemmas.{one_form}
use Rattle.marker_cli.proofs.PlayedLemmas.{script_still}
use Rattle.marker_cli.proofs.PlayedBookLemmas.{book_still}

-- the output, by the form of the words
read_as : (words : List (List ℕ)) (form : Form) (read : Option Form) → IsForm words form → ReadsAsForm words read → read ≡ Some form
read_as words form None is reads = absurd (reads form is)
read_as words form (Some other) is reads = ap Some (one_form words form other is reads)

module _ (words : List (List ℕ)) (files : Files) (readings : Readings) (form : Form) (is : IsForm words form) where
  pub output_of : ReadsAsForm words readings.form → form_output files readings (Some form) ≡ output files readings
  unfolding output
  output_of reads = sym (ap (λ read. form_output files readings read) (read_as words form readings.form is reads))

  pub texts_of : AreReadings words files readings → TextsReadAs files readings (Some form)
  texts_of reads = subst (λ read. TextsReadAs files readings read) (read_as words form readings.form is reads.form) reads.texts

  pub size_same : ReadsAsForm words readings.form → form_size files readings.script (Some form) ≡ read_size files readings
  size_same reads = sym (ap (λ read. form_size files readings.script read) (read_as words form readings.form is reads))

  pub steps_same : ReadsAsForm words readings.form → form_steps files readings (Some form) ≡ most_run_steps files readings
  steps_same reads = sym (ap (λ read. form_steps files readings read) (read_as words form readings.form is reads))

  pub within_same : (old new : ℕ) → ReadsAsForm words readings.form → IsFormWithinWork files readings (Some form) old new → IsRunWithinWork files readings old new
  within_same old new reads within = subst (λ read. IsFormWithinWork files readings read old new) (sym (read_as words form readings.form is reads)) within

-- a run that took no step
pub run_still : (files : Files) (readings : Readings) (read : Option Form) (old new : ℕ) → new ≤ old → IsFormWithinWork files readings read old new
run_still files readings None old new still = tt
run_still files readings (Some (aspect what doc sheet)) old new still = tt
run_still files readings (Some (bake doc sheet)) old new still = tt
run_still files readings (Some (edit doc sheet commands depth)) old new still = script_still files doc sheet commands depth readings.document readings.script old new still
run_still files readings (Some (book sheet commands documents)) old new still = book_still files sheet commands documents readings.parts readings.script old new still
run_still files readings (Some (table sheet style from to)) old new still = tt
run_still files readings (Some (gen seed count)) old new still = inl (omega (arith, still))

-- each text has a reading
some_tree : (files : Files) (document sheet : List ℕ) → (reading : Reading) × DocumentReadsAs files document sheet reading
some_tree files document sheet = by (text_in (Word 1) (files document)) refl
  where
    by : (given : Result (List ℕ) Status) → text_in (Word 1) (files document) ≡ given → (reading : Reading) × DocumentReadsAs files document sheet reading
    by (Ok text) is =
        let found = some_document text in
        (found.0, λ other style same there. let known : text ≡ other = cc (sym is ∙ same) in subst (λ t. ReadsAsDocument t found.0) known found.1)
    by (Err refusal) is = (Err (1, 1), λ other style same there. absurd (cc (sym is ∙ same)))

some_script : (files : Files) (document sheet script : List ℕ) (kind : ScriptKind) → (reading : Result (List Command) ℕ) × ScriptReadsAs files document sheet script kind reading
some_script files document sheet script kind = by (text_in (Word 3) (files script)) refl
  where
    by : (given : Result (List ℕ) Status) → text_in (Word 3) (files script) ≡ given → (reading : Result (List Command) ℕ) × ScriptReadsAs files document sheet script kind reading
    by (Ok text) is =
        let found = some_reading kind text in
        (found.0, λ other style lines first second third. let known : text ≡ lines = cc (sym is ∙ third) in subst (λ t. ReadsAsScript kind t found.0) known found.1)
    by (Err refusal) is = (Err 1, λ other style lines first second third. absurd (cc (sym is ∙ third)))

some_part : (files : Files) (place : ℕ) (name : List ℕ) → (reading : Reading) × ((text : List ℕ) → text_in (Word place) (files name) ≡ Ok text → ReadsAsDocument text reading)
some_part files place name = by (text_in (Word place) (files name)) refl
  where
    by : (given : Result (List ℕ) Status) → text_in (Word place) (files name) ≡ given
        → (reading : Reading) × ((text : List ℕ) → text_in (Word place) (files name) ≡ Ok text → ReadsAsDocument text reading)
    by (Ok text) is =
        let found = some_document text in
        (found.0, λ other same. let known : text ≡ other = cc (sym is ∙ same) in subst (λ t. ReadsAsDocument t found.0) known found.1)
    by (Err refusal) is = (Err (1, 1), λ other same. absurd (cc (sym is ∙ same)))

abbrev ReadTexts : Files → ℕ → List (List ℕ) → List Reading → Type 0
ReadTexts files place names readings = (texts : List (List ℕ)) → HaveTexts files place names texts → AllZip ReadsAsDocument texts readings

no_texts : (files : Files) (place : ℕ) → ReadTexts files place [] []
no_texts files place [] have = tt
no_texts files place (text ∷ texts) have = absurd have

more_texts : (files : Files) (place : ℕ) (name : List ℕ) (names : List (List ℕ)) (reading : Reading) (readings : List Reading)
    → ((text : List ℕ) → text_in (Word place) (files name) ≡ Ok text → ReadsAsDocument text reading) → ReadTexts files (place + 1) names readings
    → ReadTexts files place (name ∷ names) (reading ∷ readings)
more_texts files place name names reading readings first rest [] have = absurd have
more_texts files place name names reading readings first rest (text ∷ texts) have = (first text have.0, rest texts have.1)

some_texts : (files : Files) (place : ℕ) (names : List (List ℕ)) → (readings : List Reading) × ReadTexts files place names readings
some_texts files place [] = ([], no_texts files place)
some_texts files place (name ∷ names) =
    let first = some_part files place name in
    let rest = some_texts files (place + 1) names in
    (first.0 ∷ rest.0, more_texts files place name names first.0 rest.0 first.1 rest.1)

some_parts : (files : Files) (sheet script : List ℕ) (documents : List (List ℕ)) → (readings : List Reading) × PartsReadAs files sheet script documents readings
some_parts files sheet script documents =
    let found = some_texts files 3 documents in (found.0, λ style lines texts have. found.1 texts have.of_documents)

some_book_script : (files : Files) (sheet script : List ℕ) (documents : List (List ℕ)) → (reading : Result (List Command) ℕ) × BookScriptReadsAs files sheet script documents reading
some_book_script files sheet script documents = by (text_in (Word 2) (files script)) refl
  where
    by : (given : Result (List ℕ) Status) → text_in (Word 2) (files script) ≡ given → (reading : Result (List Command) ℕ) × BookScriptReadsAs files sheet script documents reading
    by (Ok text) is =
        let found = some_reading Book text in
        (found.0, λ style lines texts have. let known : text ≡ lines = cc (sym is ∙ have.of_script) in subst (λ t. ReadsAsScript Book t found.0) known found.1)
    by (Err refusal) is = (Err 1, λ style lines texts have. absurd (cc (sym is ∙ have.of_script)))

-- and each document a text to which it bakes
some_baked_text : DocumentsStay → SomeOutput → (files : Files) (document sheet : List ℕ) (reading : Reading) → DocumentReadsAs files document sheet reading → (baked : List ℕ) × BakesTo files document sheet reading baked
some_baked_text stay some files document sheet (Err place) reads = ([], λ text style tree first second is. absurd (cc is))
some_baked_text stay some files document sheet (Ok tree) reads = by (text_in (Word 1) (files document)) (text_in (Word 2) (files sheet)) refl refl
  where
    by : (given styles : Result (List ℕ) Status) → text_in (Word 1) (files document) ≡ given → text_in (Word 2) (files sheet) ≡ styles
        → (baked : List ℕ) × BakesTo files document sheet (Ok tree) baked
    by (Err refusal) styles first_is second_is = ([], λ text style other first second is. absurd (cc (sym first_is ∙ first)))
    by (Ok text) (Err refusal) first_is second_is = ([], λ other style others first second is. absurd (cc (sym second_is ∙ second)))
    by (Ok text) (Ok style) first_is second_is =
        let found = some text (placed (dressed_document style tree)) (placed_document stay text style tree (reads text style first_is second_is)) in (
          found.0,
          λ other styled others first second is.
              let text_same : text ≡ other = cc (sym first_is ∙ first) in
              let style_same : style ≡ styled = cc (sym second_is ∙ second) in
              let tree_same : tree ≡ others = cc is in
              baked_as found.1 text_same style_same tree_same,
        )

pub some_readings : DocumentsStay → SomeOutput → (words : List (List ℕ)) (files : Files) (form : Option Form) → ReadsAsForm words form → (readings : Readings) × AreReadings words files readings
some_readings stay some words files None is = (record { form = None; document = Err (1, 1); parts = []; script = Err 1; baked = [] }, record { form = is; texts = tt })
some_readings stay some words files (Some (aspect what document sheet)) is =
    let tree = some_tree files document sheet in
    (record { form = Some (aspect what document sheet); document = tree.0; parts = []; script = Err 1; baked = [] }, record { form = is; texts = tree.1 })
some_readings stay some words files (Some (bake document sheet)) is =
    let tree = some_tree files document sheet in
    let text = some_baked_text stay some files document sheet tree.0 tree.1 in
    (record { form = Some (bake document sheet); document = tree.0; parts = []; script = Err 1; baked = text.0 }, record { form = is; texts = (tree.1, text.1) })
some_readings stay some words files (Some (edit document sheet script depth)) is =
    let tree = some_tree files document sheet in
    let commands = some_script files document sheet script (kind_of depth) in
    (record { form = Some (edit document sheet script depth); document = tree.0; parts = []; script = commands.0; baked = [] }, record { form = is; texts = (tree.1, commands.1) })
some_readings stay some words files (Some (book sheet script documents)) is =
    let parts = some_parts files sheet script documents in
    let commands = some_book_script files sheet script documents in
    (record { form = Some (book sheet script documents); document = Err (1, 1); parts = parts.0; script = commands.0; baked = [] }, record { form = is; texts = (parts.1, commands.1) })
some_readings stay some words files (Some (table sheet style from to)) is =
    (record { form = Some (table sheet style from to); document = Err (1, 1); parts = []; script = Err 1; baked = [] }, record { form = is; texts = tt })
some_readings stay some words files (Some (gen seed count)) is =
    (record { form = Some (gen seed count); document = Err (1, 1); parts = []; script = Err 1; baked = [] }, record { form = is; texts = tt })

no_form : (words : List (List ℕ)) (form : Option Form) → ReadsAsForm words None → ReadsAsForm words form → form ≡ None
no_form words None none reads = refl
no_form words (Some form) none reads = absurd (none form reads)

pub output_usage : (words : List (List ℕ)) (files : Files) (readings : Readings) → ReadsAsForm words None → ReadsAsForm words readings.form → ends Usage ≡ output files readings
unfolding output
output_usage words files readings none reads =
    sym (ap (λ form. form_output files readings form) (no_form words readings.form none reads))

-- words of one form are of no other
pub not_both : {P : Type 0} (words : List (List ℕ)) (form other : Form) → IsForm words form → IsForm words other → (other ≡ form → ⊥) → P
not_both words form other is reads differ = absurd (differ (one_form words form other is reads))

-- the cause of a status
pub cause_as : (U R L W : Type 0) (status other : Status) → IsCaused U R L W status → status ≡ other → IsCaused U R L W other
cause_as U R L W status other cause is = subst (λ s. IsCaused U R L W s) is cause

-- only a line about a file that the script names has a name from there
pub message_same : (words : List (List ℕ)) (commands others : List Command) (status : Status) → (TellsOfLine status → ⊥) → message words commands status ≡ message words others status
message_same words commands others status.Ok not_line = refl
message_same words commands others status.Memory not_line = refl
message_same words commands others status.Usage not_line = refl
message_same words commands others (status.ReadFault (Word place)) not_line = refl
message_same words commands others (status.ReadFault (Line number)) not_line = absurd (not_line tt)
message_same words commands others (status.TooLarge (Word place)) not_line = refl
message_same words commands others (status.TooLarge (Line number)) not_line = absurd (not_line tt)
message_same words commands others (status.NotUtf8 (Word place) offset) not_line = refl
message_same words commands others (status.NotUtf8 (Line number) offset) not_line = absurd (not_line tt)
message_same words commands others (status.BadDocument line column) not_line = refl
message_same words commands others (status.BadScript number) not_line = refl
message_same words commands others WriteFault not_line = refl
message_same words commands others (status.LeftOut count) not_line = refl
message_same words commands others (status.BadPart (Word place) line column) not_line = refl
message_same words commands others (status.BadPart (Line number) line column) not_line = absurd (not_line tt)
