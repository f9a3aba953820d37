use Rattle.std.proofs.Common.{◌≡◌, ◌∙◌, ap, arith, inl, inr, length, map, refl, sym}
use Rattle.std.specs.Str.{chars}
use Rattle.std.proofs.lemmas.Result.{on_ok_weaker}
use Rattle.book_refs.specs.Given.{given_source}
use Rattle.ports.proofs.CauseLemmas.{raises_more, rose_above_after, rose_after}
use Rattle.marker_cli.specs.Book.{play_book}
use Rattle.marker_cli.specs.BookSteps.{begin_steps, book_script_steps}
use Rattle.marker_cli.specs.Ends.{part_status}
use Rattle.marker_cli.specs.OpenBooks.{chapters_of, opened}
use Rattle.marker_cli.specs.OpenVolumes.{book_of}
use Rattle.marker_cli.specs.Parts.{HaveBookTexts}
use Rattle.marker_cli.specs.Run.{commands_in, commands_size}
use Rattle.marker_cli.proofs.EndsLemmas.{at_part, at_same, at_start, at_text, at_value, caused_more, ends_no_memory, ends_no_text, ends_not_given, ends_part, ends_stopped, reads_after}
use Rattle.marker_cli.proofs.PartLemmas.{after_texts, chapter_tree, make_volume, most_of_book, some_chapter, some_opened, volume_opened}
use Rattle.marker_cli.proofs.PlayLemmas.{given_commands}
use Rattle.marker_cli.proofs.ReadLemmas.{raised_as}
use Rattle.marker_cli.proofs.PlayedBookLemmas.{book_still, book_within, calls_as}
use Rattle.marker_cli.proofs.book.book.Goals as goal

pub read_chapters-requires : goal.read_chapters-requires
read_chapters-requires g c = record { each = ap length c.as_slice.ensures.items ∙ c.in_ok-texts.ensures.each }

pub start-requires : goal.start-requires
start-requires g c = record {
  volume = make_volume c.in_ok-chapters.chapters c.args.documents.now c.in_ok-chapters.ensures.names c.requires.names c.in_ok-chapters.ensures.roots;
  some = some_chapter c.in_ok-chapters.chapters c.args.documents.now c.in_ok-chapters.ensures.names c.requires.names;
}

pub returns-in_err-style-clause-told : goal.returns-in_err-style-clause-told
returns-in_err-style-clause-told g c files readings read told parts script =
    ends_stopped c.from_residual.result c.from_residual.ensures
    (ends_no_text files _ _ _ (at_start _ _) (c.in_err-style.ensures.told files told) (λ failed. failed))

pub returns-in_err-lines-clause-told : goal.returns-in_err-lines-clause-told
returns-in_err-lines-clause-told g c files readings read told parts script =
    ends_stopped c.from_residual-in_err-lines.result c.from_residual-in_err-lines.ensures
    (ends_no_text files _ _ _ (at_text files _ _ _ (at_start _ _) (c.in_ok-style.ensures.told files told))
    (c.in_err-lines.ensures.told files (c.in_ok-style.ensures.held ∙ told))
    (λ failed. reads_after c.in_ok-style.ensures.honest c.in_ok-style.ensures.faults failed))

pub returns-in_err-texts-clause-told : goal.returns-in_err-texts-clause-told
returns-in_err-texts-clause-told g c files readings read told parts script =
    let style = c.in_ok-style.ensures.told files told in
    let lines = c.in_ok-lines.ensures.told files (c.in_ok-style.ensures.held ∙ told) in
    let held = c.in_ok-lines.ensures.held ∙ c.in_ok-style.ensures.held ∙ told in
    ends_stopped c.from_residual-in_err-texts.result c.from_residual-in_err-texts.ensures
    (ends_part _ _ (at_text files _ _ _ (at_text files _ _ _ (at_start _ _) style) lines)
    (c.in_err-texts.ensures.told files _ (after_texts files c.args.documents.now c.in_ok-style.style readings read) held).stops
    (λ failed. reads_after c.in_ok-style.ensures.honest c.in_ok-style.ensures.faults (reads_after c.in_ok-lines.ensures.honest c.in_ok-lines.ensures.faults failed))
    (λ none. absurd none))

pub returns-in_err-chapters-clause-told : goal.returns-in_err-chapters-clause-told
returns-in_err-chapters-clause-told g c files readings read told parts script =
    let style = c.in_ok-style.ensures.told files told in
    let lines = c.in_ok-lines.ensures.told files (c.in_ok-style.ensures.held ∙ told) in
    let held = c.in_ok-lines.ensures.held ∙ c.in_ok-style.ensures.held ∙ told in
    let texts : HaveBookTexts files (chars c.args.sheet.now) (chars c.args.script.now) c.args.documents.now c.in_ok-style.style c.in_ok-lines.lines c.in_ok-texts.texts =
    record { of_sheet = style; of_script = lines; of_documents = c.in_ok-texts.ensures.texts files held } in
    ends_stopped c.from_residual-in_err-chapters.result c.from_residual-in_err-chapters.ensures
    (ends_not_given _
    (at_part (at_text files _ _ _ (at_text files _ _ _ (at_start _ _) style) lines)
    (c.in_ok-texts.ensures.told files _ (after_texts files c.args.documents.now c.in_ok-style.style readings read) held).on)
    (c.in_err-chapters.ensures.trees readings (rw c.as_slice.ensures.items (parts c.in_ok-style.style c.in_ok-lines.lines c.in_ok-texts.texts texts))))

pub returns-in_err-commands-clause-told : goal.returns-in_err-commands-clause-told
returns-in_err-commands-clause-told g c files readings read told parts script =
    let style = c.in_ok-style.ensures.told files told in
    let lines = c.in_ok-lines.ensures.told files (c.in_ok-style.ensures.held ∙ told) in
    let held = c.in_ok-lines.ensures.held ∙ c.in_ok-style.ensures.held ∙ told in
    let texts : HaveBookTexts files (chars c.args.sheet.now) (chars c.args.script.now) c.args.documents.now c.in_ok-style.style c.in_ok-lines.lines c.in_ok-texts.texts =
    record { of_sheet = style; of_script = lines; of_documents = c.in_ok-texts.ensures.texts files held } in
    ends_stopped c.from_residual-in_err-commands.result c.from_residual-in_err-commands.ensures
    (ends_not_given _ (at_value _
    (at_part (at_text files _ _ _ (at_text files _ _ _ (at_start _ _) style) lines)
    (c.in_ok-texts.ensures.told files _ (after_texts files c.args.documents.now c.in_ok-style.style readings read) held).on)
    (c.in_ok-chapters.ensures.trees readings (rw c.as_slice.ensures.items (parts c.in_ok-style.style c.in_ok-lines.lines c.in_ok-texts.texts texts))))
    (c.in_err-commands.ensures.commands read (rw c.as_str-2.ensures.characters (script c.in_ok-style.style c.in_ok-lines.lines c.in_ok-texts.texts texts))))

pub returns-in_err-book-clause-told : goal.returns-in_err-book-clause-told
returns-in_err-book-clause-told g c files readings read told parts script =
    let style = c.in_ok-style.ensures.told files told in
    let lines = c.in_ok-lines.ensures.told files (c.in_ok-style.ensures.held ∙ told) in
    let held = c.in_ok-lines.ensures.held ∙ c.in_ok-style.ensures.held ∙ told in
    ends_stopped c.from_residual-in_err-book.result c.from_residual-in_err-book.ensures
    (ends_no_memory
    (at_part (at_text files _ _ _ (at_text files _ _ _ (at_start _ _) style) lines)
    (c.in_ok-texts.ensures.told files _ (after_texts files c.args.documents.now c.in_ok-style.style readings read) held).on) refl)

pub returns-clause-told : goal.returns-clause-told
returns-clause-told g c files readings read told parts script =
    let style = c.in_ok-style.ensures.told files told in
    let lines = c.in_ok-lines.ensures.told files (c.in_ok-style.ensures.held ∙ told) in
    let held = c.in_ok-lines.ensures.held ∙ c.in_ok-style.ensures.held ∙ told in
    let texts : HaveBookTexts files (chars c.args.sheet.now) (chars c.args.script.now) c.args.documents.now c.in_ok-style.style c.in_ok-lines.lines c.in_ok-texts.texts =
    record { of_sheet = style; of_script = lines; of_documents = c.in_ok-texts.ensures.texts files held } in
    let sources : map given_source c.in_ok-chapters.chapters ≡ chapters_of c.in_ok-style.style c.args.documents.now (map chapter_tree c.in_ok-chapters.chapters) =
    rw c.as_str.ensures.characters at c.in_ok-chapters.ensures.sources in
    ends_part _ _
    (at_same (λ i. play_book files (sym c.as_slice-2.ensures.items i) (book_of c.in_ok-book.book))
    (at_value _ (at_value _ (at_value _
    (at_part (at_text files _ _ _ (at_text files _ _ _ (at_start _ _) style) lines)
    (c.in_ok-texts.ensures.told files _ (after_texts files c.args.documents.now c.in_ok-style.style readings read) held).on)
    (c.in_ok-chapters.ensures.trees readings (rw c.as_slice.ensures.items (parts c.in_ok-style.style c.in_ok-lines.lines c.in_ok-texts.texts texts))))
    (c.in_ok-commands.ensures.commands read (rw c.as_str-2.ensures.characters (script c.in_ok-style.style c.in_ok-lines.lines c.in_ok-texts.texts texts))))
    (ap opened (sym sources) ∙ c.in_ok-book.ensures.opened)))
    (c.play_book.ensures.told files (c.in_ok-texts.ensures.held ∙ held))
    (λ failed. reads_after (c.in_ok-texts.ensures.honest ∙ c.in_ok-lines.ensures.honest ∙ c.in_ok-style.ensures.honest)
    (omega (arith, c.in_ok-style.ensures.faults, c.in_ok-lines.ensures.faults, c.in_ok-texts.ensures.faults)) failed)
    (λ failed. failed)

pub returns-clause-commands : goal.returns-clause-commands
returns-clause-commands g c files read told script tells =
    let style = c.in_ok-style.ensures.told files told in
    let lines = c.in_ok-lines.ensures.told files (c.in_ok-style.ensures.held ∙ told) in
    let held = c.in_ok-lines.ensures.held ∙ c.in_ok-style.ensures.held ∙ told in
    let texts : HaveBookTexts files (chars c.args.sheet.now) (chars c.args.script.now) c.args.documents.now c.in_ok-style.style c.in_ok-lines.lines c.in_ok-texts.texts =
    record { of_sheet = style; of_script = lines; of_documents = c.in_ok-texts.ensures.texts files held } in
    given_commands read _ (c.in_ok-commands.ensures.commands read (rw c.as_str-2.ensures.characters (script c.in_ok-style.style c.in_ok-lines.lines c.in_ok-texts.texts texts)))

pub returns-clause-reads : goal.returns-clause-reads
returns-clause-reads g c files read told script =
    let style = c.in_ok-style.ensures.told files told in
    let lines = c.in_ok-lines.ensures.told files (c.in_ok-style.ensures.held ∙ told) in
    let held = c.in_ok-lines.ensures.held ∙ c.in_ok-style.ensures.held ∙ told in
    let texts : HaveBookTexts files (chars c.args.sheet.now) (chars c.args.script.now) c.args.documents.now c.in_ok-style.style c.in_ok-lines.lines c.in_ok-texts.texts =
    record { of_sheet = style; of_script = lines; of_documents = c.in_ok-texts.ensures.texts files held } in
    let given = given_commands read _ (c.in_ok-commands.ensures.commands read (rw c.as_str-2.ensures.characters (script c.in_ok-style.style c.in_ok-lines.lines c.in_ok-texts.texts texts))) in
    on_ok_weaker c.play_book.result
    (λ played. raises_more _ _ _ _ _ _ (c.in_ok-style.ensures.came files told)
    (raises_more _ _ _ _ _ _ (c.in_ok-lines.ensures.came files (c.in_ok-style.ensures.held ∙ told))
    (raises_more _ _ _ _ _ _ (c.in_ok-texts.ensures.came files held)
    (raised_as (ap (λ r. commands_size files (commands_in r)) given ∙ ap (λ cs. commands_size files cs) (sym c.as_slice-2.ensures.items)) played) refl) refl) refl)
    (c.play_book.ensures.reads files (c.in_ok-texts.ensures.held ∙ held))

pub returns-clause-cause : goal.returns-clause-cause
returns-clause-cause g c =
    caused_more (part_status c.play_book.result)
    (λ rose. rose_after _ _ _ (omega (arith, c.in_ok-style.ensures.faults, c.in_ok-lines.ensures.faults, c.in_ok-texts.ensures.faults)) rose)
    (λ rose. rose_above_after 16777216 _ _ _ (omega (arith, c.in_ok-style.ensures.taken, c.in_ok-lines.ensures.taken, c.in_ok-texts.ensures.taken)) rose)
    (λ rose. rose)
    c.play_book.ensures.cause

pub returns-in_err-book-clause-steps : goal.returns-in_err-book-clause-steps
returns-in_err-book-clause-steps g c files readings read told parts script =
    let style = c.in_ok-style.ensures.told files told in
    let lines = c.in_ok-lines.ensures.told files (c.in_ok-style.ensures.held ∙ told) in
    let held = c.in_ok-lines.ensures.held ∙ c.in_ok-style.ensures.held ∙ told in
    let texts : HaveBookTexts files (chars c.args.sheet.now) (chars c.args.script.now) c.args.documents.now c.in_ok-style.style c.in_ok-lines.lines c.in_ok-texts.texts =
    record { of_sheet = style; of_script = lines; of_documents = c.in_ok-texts.ensures.texts files held } in
    let sources : map given_source c.in_ok-chapters.chapters ≡ chapters_of c.in_ok-style.style c.args.documents.now (map chapter_tree c.in_ok-chapters.chapters) =
    rw c.as_str.ensures.characters at c.in_ok-chapters.ensures.sources in
    let some = some_opened c.in_ok-chapters.chapters (some_chapter c.in_ok-chapters.chapters c.args.documents.now c.in_ok-chapters.ensures.names c.requires.names) in
    let most = most_of_book files _ _ _ readings read _ _ _ _ _ some.0 texts
    (c.in_ok-chapters.ensures.trees readings (rw c.as_slice.ensures.items (parts c.in_ok-style.style c.in_ok-lines.lines c.in_ok-texts.texts texts)))
    (c.in_ok-commands.ensures.commands read (rw c.as_str-2.ensures.characters (script c.in_ok-style.style c.in_ok-lines.lines c.in_ok-texts.texts texts)))
    (ap opened (sym sources) ∙ some.1) in
    let begins = ap begin_steps (volume_opened _ some.0 some.1) in
    omega (arith, most, begins, c.in_err-book.ensures.steps)

pub returns-clause-steps : goal.returns-clause-steps
returns-clause-steps g c files readings read told parts script =
    let style = c.in_ok-style.ensures.told files told in
    let lines = c.in_ok-lines.ensures.told files (c.in_ok-style.ensures.held ∙ told) in
    let held = c.in_ok-lines.ensures.held ∙ c.in_ok-style.ensures.held ∙ told in
    let texts : HaveBookTexts files (chars c.args.sheet.now) (chars c.args.script.now) c.args.documents.now c.in_ok-style.style c.in_ok-lines.lines c.in_ok-texts.texts =
    record { of_sheet = style; of_script = lines; of_documents = c.in_ok-texts.ensures.texts files held } in
    let sources : map given_source c.in_ok-chapters.chapters ≡ chapters_of c.in_ok-style.style c.args.documents.now (map chapter_tree c.in_ok-chapters.chapters) =
    rw c.as_str.ensures.characters at c.in_ok-chapters.ensures.sources in
    let most = most_of_book files _ _ _ readings read _ _ _ _ _ (book_of c.in_ok-book.book) texts
    (c.in_ok-chapters.ensures.trees readings (rw c.as_slice.ensures.items (parts c.in_ok-style.style c.in_ok-lines.lines c.in_ok-texts.texts texts)))
    (c.in_ok-commands.ensures.commands read (rw c.as_str-2.ensures.characters (script c.in_ok-style.style c.in_ok-lines.lines c.in_ok-texts.texts texts)))
    (ap opened (sym sources) ∙ c.in_ok-book.ensures.opened) in
    let begins = ap begin_steps (volume_opened _ (book_of c.in_ok-book.book) c.in_ok-book.ensures.opened) in
    let played = c.play_book.ensures.steps files (c.in_ok-texts.ensures.held ∙ held) in
    let same = ap (λ commands. book_script_steps files commands (book_of c.in_ok-book.book)) c.as_slice-2.ensures.items in
    omega (arith, most, begins, same, c.in_ok-book.ensures.steps, played)

pub returns-in_err-style-clause-within_work : goal.returns-in_err-style-clause-within_work
returns-in_err-style-clause-within_work g c files readings read told parts script = book_still files _ _ c.args.documents.now readings read _ _ (omega arith)

pub returns-in_err-lines-clause-within_work : goal.returns-in_err-lines-clause-within_work
returns-in_err-lines-clause-within_work g c files readings read told parts script = book_still files _ _ c.args.documents.now readings read _ _ (omega arith)

pub returns-in_err-texts-clause-within_work : goal.returns-in_err-texts-clause-within_work
returns-in_err-texts-clause-within_work g c files readings read told parts script = book_still files _ _ c.args.documents.now readings read _ _ (omega arith)

pub returns-in_err-chapters-clause-within_work : goal.returns-in_err-chapters-clause-within_work
returns-in_err-chapters-clause-within_work g c files readings read told parts script = book_still files _ _ c.args.documents.now readings read _ _ (omega arith)

pub returns-in_err-commands-clause-within_work : goal.returns-in_err-commands-clause-within_work
returns-in_err-commands-clause-within_work g c files readings read told parts script = book_still files _ _ c.args.documents.now readings read _ _ (omega arith)

pub returns-in_err-book-clause-within_work : goal.returns-in_err-book-clause-within_work
returns-in_err-book-clause-within_work g c files readings read told parts script =
    let style = c.in_ok-style.ensures.told files told in
    let lines = c.in_ok-lines.ensures.told files (c.in_ok-style.ensures.held ∙ told) in
    let held = c.in_ok-lines.ensures.held ∙ c.in_ok-style.ensures.held ∙ told in
    let texts : HaveBookTexts files (chars c.args.sheet.now) (chars c.args.script.now) c.args.documents.now c.in_ok-style.style c.in_ok-lines.lines c.in_ok-texts.texts =
    record { of_sheet = style; of_script = lines; of_documents = c.in_ok-texts.ensures.texts files held } in
    let sources : map given_source c.in_ok-chapters.chapters ≡ chapters_of c.in_ok-style.style c.args.documents.now (map chapter_tree c.in_ok-chapters.chapters) =
    rw c.as_str.ensures.characters at c.in_ok-chapters.ensures.sources in
    let begins = ap begin_steps sources in
    book_within files _ _ _ readings read _ _ _ _ _ _ _ texts
    (c.in_ok-chapters.ensures.trees readings (rw c.as_slice.ensures.items (parts c.in_ok-style.style c.in_ok-lines.lines c.in_ok-texts.texts texts)))
    (c.in_ok-commands.ensures.commands read (rw c.as_str-2.ensures.characters (script c.in_ok-style.style c.in_ok-lines.lines c.in_ok-texts.texts texts)))
    (inl (omega (arith, begins, c.in_err-book.ensures.steps)))

pub returns-clause-within_work : goal.returns-clause-within_work
returns-clause-within_work g c files readings read told parts script =
    let style = c.in_ok-style.ensures.told files told in
    let lines = c.in_ok-lines.ensures.told files (c.in_ok-style.ensures.held ∙ told) in
    let held = c.in_ok-lines.ensures.held ∙ c.in_ok-style.ensures.held ∙ told in
    let texts : HaveBookTexts files (chars c.args.sheet.now) (chars c.args.script.now) c.args.documents.now c.in_ok-style.style c.in_ok-lines.lines c.in_ok-texts.texts =
    record { of_sheet = style; of_script = lines; of_documents = c.in_ok-texts.ensures.texts files held } in
    let sources : map given_source c.in_ok-chapters.chapters ≡ chapters_of c.in_ok-style.style c.args.documents.now (map chapter_tree c.in_ok-chapters.chapters) =
    rw c.as_str.ensures.characters at c.in_ok-chapters.ensures.sources in
    let begins = ap begin_steps sources in
    let played = c.play_book.ensures.takes files (c.in_ok-texts.ensures.held ∙ held) in
    let first = c.in_ok-book.ensures.first in
    let volume : c.in_ok-book.book ≡ record { chapters = c.in_ok-book.book.chapters; place = 0 } = (λ i. record { chapters = c.in_ok-book.book.chapters; place = first.1 i }) in
    book_within files _ _ _ readings read _ _ _ _ _ _ _ texts
    (c.in_ok-chapters.ensures.trees readings (rw c.as_slice.ensures.items (parts c.in_ok-style.style c.in_ok-lines.lines c.in_ok-texts.texts texts)))
    (c.in_ok-commands.ensures.commands read (rw c.as_str-2.ensures.characters (script c.in_ok-style.style c.in_ok-lines.lines c.in_ok-texts.texts texts)))
    (inr (record {
      chapters = c.in_ok-book.book.chapters;
      keyed = c.book_holds_documents.ensures;
      sources_are = first.0 ∙ sources;
      taken = played.0;
      takes = calls_as files _ _ _ _ played.0 c.as_slice-2.ensures.items volume played.1;
      all = omega (arith, begins, c.in_ok-book.ensures.steps, played.2);
    }))
