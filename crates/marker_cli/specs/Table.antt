-- The command `table SHEET STYLE FROM TO` (our own).
use Rattle.std.specs.Prelude.{ℕ, ℤ, List}
use Rattle.css_reader.specs.Sheets.{sheet as sheet_of}
use Rattle.css_definitions.specs.CounterStyles.{finished_styles}
use Rattle.plain_types.specs.declared.style_ref.StyleRef.TheVariants.{Name}
use Rattle.ports.specs.Files.{Files}
use Rattle.table_text.specs.Rows.{rows, values_between}
use Rattle.marker_cli.specs.declared.status.FileAt.TheVariants.{Word}
use Rattle.marker_cli.specs.declared.status.Status.TheVariants as status
use Rattle.marker_cli.specs.Output.{Output, ends, writes}
use Rattle.marker_cli.specs.Turns.{with_text}

-- the output of `table SHEET STYLE FROM TO`: a row for each value, in the style of that name among those of
-- the sheet
abbrev pub table_output : Files → (sheet style : List ℕ) → (from to : ℤ) → Output
table_output files sheet style from to =
    with_text files (Word 1) sheet (λ text.
    writes (rows (finished_styles (sheet_of text).styles) (Name style) (values_between from to)) (ends status.Ok))
