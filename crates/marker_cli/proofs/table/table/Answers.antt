use Rattle.std.proofs.Common.{◌≡◌, ◌∙◌, ap, refl, sym, w64}
use Rattle.std.proofs.lemmas.Int.{to_z-of_z}
use Rattle.std.specs.Str.{chars}
use Rattle.css_definitions.specs.CounterStyles.{finished_styles}
use Rattle.css_reader.specs.Sheets.{sheet as sheet_of}
use Rattle.plain_types.specs.declared.style_ref.StyleRef.TheVariants.{Name}
use Rattle.table_text.specs.Rows.{rows, values_between}
use Rattle.marker_cli.specs.declared.status.Status.TheVariants as status
use Rattle.marker_cli.specs.Output.{ends, writes}
use Rattle.marker_cli.proofs.EndsLemmas.{at_same, at_start, at_text, ends_no_memory, ends_no_text, ends_put, ends_stopped}
use Rattle.marker_cli.proofs.ReadLemmas.{on_ok}
use Rattle.marker_cli.proofs.table.table.Goals as goal

pub returns-in_err-text-clause-told : goal.returns-in_err-text-clause-told
returns-in_err-text-clause-told g c files told =
    ends_stopped c.from_residual.result c.from_residual.ensures
    (ends_no_text files _ _ _ (at_start _ _) (c.in_err-text.ensures.told files told) (λ failed. failed))

pub returns-in_err-styles-clause-told : goal.returns-in_err-styles-clause-told
returns-in_err-styles-clause-told g c files told =
    ends_stopped c.from_residual-in_err-styles.result c.from_residual-in_err-styles.ensures
    (ends_no_memory (at_text files _ _ _ (at_start _ _) (c.in_ok-text.ensures.told files told)) refl)

pub returns-clause-told : goal.returns-clause-told
returns-clause-told g c files told =
    let styles : c.in_ok-styles.styles ≡ finished_styles (sheet_of c.in_ok-text.text).styles =
    c.in_ok-styles.ensures.styles ∙ ap (λ text. finished_styles (sheet_of text).styles) c.as_str.ensures.characters in
    ends_put c.put_values.result
    (at_same (λ i. writes (rows (sym styles i) (Name (chars c.args.style.now))
    (values_between (sym (to_z-of_z w64 c.args.from c.ranges.from) i) (sym (to_z-of_z w64 c.args.to c.ranges.to) i))) (ends status.Ok))
    (at_text files _ _ _ (at_start _ _) (c.in_ok-text.ensures.told files told)))
    c.put_values.ensures.ok c.put_values.ensures.failed c.put_values.ensures.cause

pub returns-clause-reads : goal.returns-clause-reads
returns-clause-reads g c files told = on_ok c.put_values.result (c.in_ok-text.ensures.came files told)
