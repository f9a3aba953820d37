use Rattle.std.proofs.Common.{◌+◌, FitsSigned, map, refl, rules, sym, w64}
use Rattle.std.specs.Prelude.{Some, sum}
use Rattle.std.proofs.lemmas.Int.{to_z-of_z}
use Rattle.marker_cli.specs.Aspects.{aspect_output}
use Rattle.marker_cli.specs.Bake.{bake_output}
use Rattle.marker_cli.specs.Book.{book_output}
use Rattle.marker_cli.specs.Edit.{edit_output}
use Rattle.marker_cli.specs.Run.{TextsReadAs, commands_in, commands_size, size_of}
use Rattle.marker_cli.specs.Table.{table_output}
use Rattle.marker_cli.specs.Words.{aspect, bake, book, edit}
use Rattle.marker_cli.proofs.EndsLemmas.{ends_same}
use Rattle.marker_cli.proofs.ReadLemmas.{of_whole, raised_as}
use Rattle.marker_cli.proofs.run.perform.Goals as goal

pub returns-in-Aspect-clause-told : goal.returns-in-Aspect-clause-told
returns-in-Aspect-clause-told g c files readings told reads =
    let texts : TextsReadAs files readings (Some (aspect c.in-Aspect.aspect c.in-Aspect.document.now c.in-Aspect.sheet.now)) = rw c.in-Aspect.is at reads in
    let document = c.as_str.ensures.characters in
    let sheet = c.as_str-in-Aspect.ensures.characters in
    rw c.in-Aspect.is
    (ends_same (λ i. aspect_output files c.in-Aspect.aspect (document i) (sheet i) readings.document) refl
    (c.write_aspect.ensures.told files readings.document told (rw (document, sheet) texts)))

pub returns-in-Aspect-clause-steps : goal.returns-in-Aspect-clause-steps
returns-in-Aspect-clause-steps g c files readings told reads =
    let texts : TextsReadAs files readings (Some (aspect c.in-Aspect.aspect c.in-Aspect.document.now c.in-Aspect.sheet.now)) = rw c.in-Aspect.is at reads in
    let document = c.as_str.ensures.characters in
    let sheet = c.as_str-in-Aspect.ensures.characters in
    rw c.in-Aspect.is (c.write_aspect.ensures.steps files readings.document told (rw (document, sheet) texts))

pub returns-in-Aspect-clause-reads : goal.returns-in-Aspect-clause-reads
returns-in-Aspect-clause-reads g c files readings told reads =
    let document = c.as_str.ensures.characters in
    let sheet = c.as_str-in-Aspect.ensures.characters in
    rw c.in-Aspect.is
    (λ whole. raised_as (λ i. size_of files (sym document i) + size_of files (sym sheet i))
    (of_whole c.write_aspect.result c.write_aspect.ensures.stops (c.write_aspect.ensures.reads files told) whole))

pub returns-in-Bake-clause-told : goal.returns-in-Bake-clause-told
returns-in-Bake-clause-told g c files readings told reads =
    let texts : TextsReadAs files readings (Some (bake c.in-Bake.document.now c.in-Bake.sheet.now)) = rw c.in-Bake.is at reads in
    let document = c.as_str-in-Bake.ensures.characters in
    let sheet = c.as_str-in-Bake-2.ensures.characters in
    rw c.in-Bake.is
    (ends_same (λ i. bake_output files (document i) (sheet i) readings.document readings.baked) refl
    (c.write_baked.ensures.told files readings.document readings.baked told (rw (document, sheet) texts.0) (rw (document, sheet) texts.1)))

pub returns-in-Bake-clause-reads : goal.returns-in-Bake-clause-reads
returns-in-Bake-clause-reads g c files readings told reads =
    let document = c.as_str-in-Bake.ensures.characters in
    let sheet = c.as_str-in-Bake-2.ensures.characters in
    rw c.in-Bake.is
    (λ whole. raised_as (λ i. size_of files (sym document i) + size_of files (sym sheet i)) (c.write_baked.ensures.reads files told whole))

pub returns-in-Bake-clause-steps : goal.returns-in-Bake-clause-steps
returns-in-Bake-clause-steps g c files readings told reads =
    let texts : TextsReadAs files readings (Some (bake c.in-Bake.document.now c.in-Bake.sheet.now)) = rw c.in-Bake.is at reads in
    let document = c.as_str-in-Bake.ensures.characters in
    let sheet = c.as_str-in-Bake-2.ensures.characters in
    rw c.in-Bake.is (c.write_baked.ensures.steps files readings.document told (rw (document, sheet) texts.0))

pub returns-in-Script-clause-told : goal.returns-in-Script-clause-told
returns-in-Script-clause-told g c files readings told reads =
    let texts : TextsReadAs files readings (Some (edit c.in-Script.document.now c.in-Script.sheet.now c.in-Script.script.now c.in-Script.depth)) = rw c.in-Script.is at reads in
    let document = c.as_str-in-Script.ensures.characters in
    let sheet = c.as_str-in-Script-2.ensures.characters in
    let script = c.as_str-in-Script-3.ensures.characters in
    rw c.in-Script.is
    (ends_same (λ i. edit_output files (document i) (sheet i) (script i) c.in-Script.depth readings.document readings.script) refl
    (c.edit.ensures.told files readings.document readings.script told (rw (document, sheet) texts.0) (rw (document, sheet, script) texts.1)))

pub returns-in-Script-clause-commands : goal.returns-in-Script-clause-commands
returns-in-Script-clause-commands g c files readings told reads tells =
    let texts : TextsReadAs files readings (Some (edit c.in-Script.document.now c.in-Script.sheet.now c.in-Script.script.now c.in-Script.depth)) = rw c.in-Script.is at reads in
    let document = c.as_str-in-Script.ensures.characters in
    let sheet = c.as_str-in-Script-2.ensures.characters in
    let script = c.as_str-in-Script-3.ensures.characters in
    c.edit.ensures.commands files readings.script told (rw (document, sheet, script) texts.1) tells

pub returns-in-Script-clause-reads : goal.returns-in-Script-clause-reads
returns-in-Script-clause-reads g c files readings told reads =
    let texts : TextsReadAs files readings (Some (edit c.in-Script.document.now c.in-Script.sheet.now c.in-Script.script.now c.in-Script.depth)) = rw c.in-Script.is at reads in
    let document = c.as_str-in-Script.ensures.characters in
    let sheet = c.as_str-in-Script-2.ensures.characters in
    let script = c.as_str-in-Script-3.ensures.characters in
    rw c.in-Script.is
    (λ whole. raised_as (λ i. size_of files (sym document i) + (size_of files (sym sheet i) + (size_of files (sym script i) + commands_size files (commands_in readings.script))))
    (of_whole c.edit.result c.edit.ensures.stops (c.edit.ensures.reads files readings.script told (rw (document, sheet, script) texts.1)) whole))

pub returns-in-Script-clause-steps : goal.returns-in-Script-clause-steps
returns-in-Script-clause-steps g c files readings told reads =
    let texts : TextsReadAs files readings (Some (edit c.in-Script.document.now c.in-Script.sheet.now c.in-Script.script.now c.in-Script.depth)) = rw c.in-Script.is at reads in
    let document = c.as_str-in-Script.ensures.characters in
    let sheet = c.as_str-in-Script-2.ensures.characters in
    let script = c.as_str-in-Script-3.ensures.characters in
    let taken = c.edit.ensures.steps files readings.document readings.script told (rw (document, sheet) texts.0) (rw (document, sheet, script) texts.1) in
    rw c.in-Script.is (rw (document, sheet, script) at taken)

pub book-requires : goal.book-requires
book-requires g c = record { names = rw c.in-Book.is at c.requires.within }

pub returns-in-Book-clause-told : goal.returns-in-Book-clause-told
returns-in-Book-clause-told g c files readings told reads =
    let texts : TextsReadAs files readings (Some (book c.in-Book.sheet.now c.in-Book.script.now c.in-Book.documents.now)) = rw c.in-Book.is at reads in
    let sheet = c.as_str-in-Book.ensures.characters in
    let script = c.as_str-in-Book-2.ensures.characters in
    rw c.in-Book.is
    (ends_same (λ i. book_output files (sheet i) (script i) c.in-Book.documents.now readings.parts readings.script) refl
    (c.book.ensures.told files readings.parts readings.script told (rw (sheet, script) texts.0) (rw (sheet, script) texts.1)))

pub returns-in-Book-clause-commands : goal.returns-in-Book-clause-commands
returns-in-Book-clause-commands g c files readings told reads tells =
    let texts : TextsReadAs files readings (Some (book c.in-Book.sheet.now c.in-Book.script.now c.in-Book.documents.now)) = rw c.in-Book.is at reads in
    let sheet = c.as_str-in-Book.ensures.characters in
    let script = c.as_str-in-Book-2.ensures.characters in
    c.book.ensures.commands files readings.script told (rw (sheet, script) texts.1) tells

pub returns-in-Book-clause-reads : goal.returns-in-Book-clause-reads
returns-in-Book-clause-reads g c files readings told reads =
    let texts : TextsReadAs files readings (Some (book c.in-Book.sheet.now c.in-Book.script.now c.in-Book.documents.now)) = rw c.in-Book.is at reads in
    let sheet = c.as_str-in-Book.ensures.characters in
    let script = c.as_str-in-Book-2.ensures.characters in
    rw c.in-Book.is
    (λ whole. raised_as (λ i. size_of files (sym sheet i) + (size_of files (sym script i) + (sum (map (size_of files) c.in-Book.documents.now) + commands_size files (commands_in readings.script))))
    (of_whole c.book.result c.book.ensures.stops (c.book.ensures.reads files readings.script told (rw (sheet, script) texts.1)) whole))

pub returns-in-Book-clause-steps : goal.returns-in-Book-clause-steps
returns-in-Book-clause-steps g c files readings told reads =
    let texts : TextsReadAs files readings (Some (book c.in-Book.sheet.now c.in-Book.script.now c.in-Book.documents.now)) = rw c.in-Book.is at reads in
    let sheet = c.as_str-in-Book.ensures.characters in
    let script = c.as_str-in-Book-2.ensures.characters in
    let taken = c.book.ensures.steps files readings.parts readings.script told (rw (sheet, script) texts.0) (rw (sheet, script) texts.1) in
    rw c.in-Book.is (rw (sheet, script) at taken)

pub returns-in-Table-clause-told : goal.returns-in-Table-clause-told
returns-in-Table-clause-told g c files readings told reads =
    let sheet = c.as_str-in-Table.ensures.characters in
    let style = c.as_str-in-Table-2.ensures.characters in
    let from_fits : FitsSigned w64 c.in-Table.from = search rules in
    let to_fits : FitsSigned w64 c.in-Table.to = search rules in
    rw c.in-Table.is
    (ends_same (λ i. table_output files (sheet i) (style i) (to_z-of_z w64 c.in-Table.from from_fits i) (to_z-of_z w64 c.in-Table.to to_fits i)) refl
    (c.table.ensures.told files told))

pub returns-in-Table-clause-reads : goal.returns-in-Table-clause-reads
returns-in-Table-clause-reads g c files readings told reads =
    let sheet = c.as_str-in-Table.ensures.characters in
    rw c.in-Table.is
    (λ whole. raised_as (λ i. size_of files (sym sheet i)) (of_whole c.table.result c.table.ensures.stops (c.table.ensures.reads files told) whole))

pub returns-in-Gen-clause-steps : goal.returns-in-Gen-clause-steps
returns-in-Gen-clause-steps g c files readings told reads = rw c.in-Gen.is c.generated.ensures.steps

pub returns-in-Aspect-clause-within_work : goal.returns-in-Aspect-clause-within_work
returns-in-Aspect-clause-within_work g c files readings told reads = rw c.in-Aspect.is tt

pub returns-in-Bake-clause-within_work : goal.returns-in-Bake-clause-within_work
returns-in-Bake-clause-within_work g c files readings told reads = rw c.in-Bake.is tt

pub returns-in-Script-clause-within_work : goal.returns-in-Script-clause-within_work
returns-in-Script-clause-within_work g c files readings told reads =
    let texts : TextsReadAs files readings (Some (edit c.in-Script.document.now c.in-Script.sheet.now c.in-Script.script.now c.in-Script.depth)) = rw c.in-Script.is at reads in
    let document = c.as_str-in-Script.ensures.characters in
    let sheet = c.as_str-in-Script-2.ensures.characters in
    let script = c.as_str-in-Script-3.ensures.characters in
    let taken = c.edit.ensures.within_work files readings.document readings.script told (rw (document, sheet) texts.0) (rw (document, sheet, script) texts.1) in
    rw c.in-Script.is (rw (document, sheet, script) at taken)

pub returns-in-Book-clause-within_work : goal.returns-in-Book-clause-within_work
returns-in-Book-clause-within_work g c files readings told reads =
    let texts : TextsReadAs files readings (Some (book c.in-Book.sheet.now c.in-Book.script.now c.in-Book.documents.now)) = rw c.in-Book.is at reads in
    let sheet = c.as_str-in-Book.ensures.characters in
    let script = c.as_str-in-Book-2.ensures.characters in
    let taken = c.book.ensures.within_work files readings.parts readings.script told (rw (sheet, script) texts.0) (rw (sheet, script) texts.1) in
    rw c.in-Book.is (rw (sheet, script) at taken)

pub returns-in-Table-clause-within_work : goal.returns-in-Table-clause-within_work
returns-in-Table-clause-within_work g c files readings told reads = rw c.in-Table.is tt

pub returns-in-Gen-clause-within_work : goal.returns-in-Gen-clause-within_work
returns-in-Gen-clause-within_work g c files readings told reads = rw c.in-Gen.is c.generated.ensures.within_work
