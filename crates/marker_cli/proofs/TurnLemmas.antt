-- The turns of files in a run: a run with this output ends as a failed read exactly where a file whose turn
-- comes isn't held.
use Rattle.std.proofs.Common.{◌≡◌, ℕ, ℤ, ◌≤◌, ◌+◌, ◌==◌, Bool, true, false, nat_lt, if◌then◌else◌, List, [], ◌∷◌, ◌++◌, length, Option, Result, IsTrue, refl, sym, ◌∙◌, ap, subst, append_assoc, arith, inl, inr, ◌⊎◌}
use Rattle.std.specs.Prelude.{Some, None, Ok, Err, codes, encode_utf8_all}
use Rattle.std.specs.Str.{chars, is_utf8}
use Rattle.std.specs.Str.Lossy.{utf8_valid_len}
use Rattle.bake_book.specs.Dressing.{dressed_document}
use Rattle.bake_definitions.specs.Places.{left_out}
use Rattle.baked_text.specs.Walks.{saturated}
use Rattle.book_definitions.specs.Fresh.{ChapterSource}
use Rattle.edit_script.specs.Scripts.{AreCommands, ReadsAsScript, command_line, no_line, skipped_line}
use Rattle.edit_script.specs.declared.action.Action.{Action}
use Rattle.edit_script.specs.declared.action.Action.TheVariants.{Change, SheetFile, Show, Undo, Redo, Enter}
use Rattle.edit_script.specs.declared.command.Command.{Command}
use Rattle.edit_script.specs.declared.script_kind.ScriptKind.{ScriptKind}
use Rattle.edit_script.specs.declared.script_kind.ScriptKind.TheVariants.{Book}
use Rattle.forest.specs.Forest.{Forest}
use Rattle.node_arena.specs.Edits.{place_fault}
use Rattle.node_arena.specs.declared.place_fault.PlaceFault.{PlaceFault}
use Rattle.plain_types.specs.declared.edit.Edit.{Edit}
use Rattle.plain_types.specs.declared.node.Node.{Node}
use Rattle.ports.specs.Files.{Files}
use Rattle.marker_cli.specs.declared.aspect.Aspect.{Aspect}
use Rattle.marker_cli.specs.declared.aspect.Aspect.TheVariants.{Dump, Text, Why}
use Rattle.marker_cli.specs.declared.status.FileAt.{FileAt}
use Rattle.marker_cli.specs.declared.status.FileAt.TheVariants.{Word, Line}
use Rattle.marker_cli.specs.declared.status.Status.{Status}
use Rattle.marker_cli.specs.declared.status.Status.TheVariants.{Memory, NotUtf8, ReadFault, TooLarge, WriteFault}
use Rattle.marker_cli.specs.declared.status.Status.TheVariants as status
use Rattle.marker_cli.specs.Aspects.{aspect_bytes, aspect_output}
use Rattle.marker_cli.specs.Bake.{bake_output, with_left_out}
use Rattle.marker_cli.specs.Book.{BookScriptReadsAs, after_chapter_edit, after_enter, book_action, book_output, play_book}
use Rattle.marker_cli.specs.Documents.{Reading, tree_of}
use Rattle.marker_cli.specs.Edit.{ScriptReadsAs, action_output, after_edit, after_step, commands_of, edit_output, kept_edits, kind_of, play}
use Rattle.marker_cli.specs.Ends.{EndsAs, ReadsFailed, no_memory, not_read, not_written, whole}
use Rattle.marker_cli.specs.Names.{file_of, sheet_name}
use Rattle.marker_cli.specs.OpenBooks.{OpenBook, chapters_of, entered, opened}
use Rattle.marker_cli.specs.Output.{ComesAfter, Output, ends, goes_on, status_of, turn, writes}
use Rattle.marker_cli.specs.Parts.{HaveTexts, before_trees, trees_of, with_texts}
use Rattle.marker_cli.specs.Run.{AreReadings, HasTurn, Readings, TextsReadAs, commands_in, form_output, name_in, output}
use Rattle.marker_cli.specs.Table.{table_output}
use Rattle.marker_cli.specs.Turns.{text_in, text_of, with_text}
use Rattle.marker_cli.specs.Versions.{Versions, begun, redone, undone}
use Rattle.marker_cli.specs.Words.{Form, ReadsAsForm, aspect, bake, book, edit, gen, table, word}

-- a file that is held doesn't end a run as one that isn't
text_gives : (file : FileAt) (bytes : List ℕ) (other : FileAt) → text_of file bytes ≡ Err (ReadFault other) → ⊥
text_gives file bytes other is = by (is_utf8 bytes) is
  where
    by : (b : Bool) → (if b then Ok (chars bytes) else Err (NotUtf8 file (utf8_valid_len bytes))) ≡ Err (ReadFault other) → ⊥
    by true same = cc same
    by false same = cc same

held_gives : (file : FileAt) (bytes : List ℕ) (other : FileAt) → text_in file (Some bytes) ≡ Err (ReadFault other) → ⊥
held_gives file bytes other is = by (nat_lt 16777216 (length bytes)) is
  where
    by : (b : Bool) → (if b then Err (TooLarge file) else text_of file bytes) ≡ Err (ReadFault other) → ⊥
    by true same = cc same
    by false same = text_gives file bytes other same

-- Each file whose turn comes is held, and something follows; or it isn't held, and that ends the run.
pub data AreTurns (files : Files) (name : FileAt → List ℕ) : Output → Type 0 where
  at_end : (status : Status) → ((file : FileAt) → status ≡ ReadFault file → ⊥) → AreTurns files name (ends status)
  at_bytes : {rest : Output} (bytes : List ℕ) → AreTurns files name rest → AreTurns files name (writes bytes rest)
  at_held : {rest : Output} (file : FileAt) → (files (name file) ≡ None → ⊥) → AreTurns files name rest → AreTurns files name (turn file rest)
  at_gone : (file : FileAt) → files (name file) ≡ None → AreTurns files name (turn file (ends (ReadFault file)))

-- a file's turn, and what follows for its text
module _ (files : Files) (name : FileAt → List ℕ) (file : FileAt) (next : List ℕ → Output) where
  turn_of : (held : Option (List ℕ)) → files (name file) ≡ held → ((text : List ℕ) → text_in file held ≡ Ok text → AreTurns files name (next text))
      → AreTurns files name (turn file (goes_on (text_in file held) next))
  turn_of None gone follows = at_gone file gone
  turn_of (Some bytes) held follows = at_held file (λ gone. cc (sym gone ∙ held)) (by (text_in file (Some bytes)) refl)
    where
      by : (given : Result (List ℕ) Status) → text_in file (Some bytes) ≡ given → AreTurns files name (goes_on given next)
      by (Ok text) is = follows text is
      by (Err status) is = at_end status (λ other fault. held_gives file bytes other (is ∙ ap Err fault))

  turns_text : (called : List ℕ) → name file ≡ called → ((text : List ℕ) → text_in file (files called) ≡ Ok text → AreTurns files name (next text))
      → AreTurns files name (with_text files file called next)
  turns_text called is follows = turn_of (files called) (ap files is) follows

-- the names of the files of commands
abbrev AreNamed : (FileAt → List ℕ) → List Command → Type 0
AreNamed name [] = Unit {0}
AreNamed name (command ∷ commands) = (name (Line command.line) ≡ file_of command.action) × AreNamed name commands

turns_edit : (files : Files) (name : FileAt → List ℕ) (depth number : ℕ) (change : Edit) (versions : Versions) (place : Option PlaceFault) (next : Versions → Output)
    → ((now : Versions) → AreTurns files name (next now)) → AreTurns files name (after_edit depth number change versions place next)
turns_edit files name depth number change versions None next follows = follows _
turns_edit files name depth number change versions (Some fault) next follows = at_bytes _ (follows versions)

turns_step : (files : Files) (name : FileAt → List ℕ) (number : ℕ) (versions : Versions) (step : Option Versions) (next : Versions → Output)
    → ((now : Versions) → AreTurns files name (next now)) → AreTurns files name (after_step number versions step next)
turns_step files name number versions (Some led) next follows = follows led
turns_step files name number versions None next follows = at_bytes _ (follows versions)

turns_action : (files : Files) (name : FileAt → List ℕ) (depth number : ℕ) (action : Action) (versions : Versions) (next : Versions → Output) → name (Line number) ≡ file_of action
    → ((now : Versions) → AreTurns files name (next now)) → AreTurns files name (action_output files depth number action versions next)
turns_action files name depth number (Change change) versions next is follows =
    turns_edit files name depth number change versions (place_fault change versions.present.document) next follows
turns_action files name depth number (SheetFile file) versions next is follows = turns_text files name (Line number) _ file is (λ text found. follows _)
turns_action files name depth number Show versions next is follows = at_bytes _ (follows versions)
turns_action files name depth number Undo versions next is follows = turns_step files name number versions (undone versions) next follows
turns_action files name depth number Redo versions next is follows = turns_step files name number versions (redone versions) next follows
turns_action files name depth number (Enter document) versions next is follows = at_bytes _ (follows versions)

turns_play : (files : Files) (name : FileAt → List ℕ) (depth : ℕ) (commands : List Command) (versions : Versions) → AreNamed name commands
    → AreTurns files name (play files depth commands versions)
turns_play files name depth [] versions named = at_end _ (λ file fault. cc fault)
turns_play files name depth (command ∷ commands) versions named =
    turns_action files name depth command.line command.action versions (play files depth commands) named.0 (λ now. turns_play files name depth commands now named.1)

-- The commands of a book.

turns_chapter_edit : (files : Files) (name : FileAt → List ℕ) (number : ℕ) (change : Edit) (opening : OpenBook) (place : Option PlaceFault) (next : OpenBook → Output)
    → ((now : OpenBook) → AreTurns files name (next now)) → AreTurns files name (after_chapter_edit number change opening place next)
turns_chapter_edit files name number change opening None next follows = follows _
turns_chapter_edit files name number change opening (Some fault) next follows = at_bytes _ (follows opening)

turns_enter : (files : Files) (name : FileAt → List ℕ) (number : ℕ) (opening : OpenBook) (led : Option OpenBook) (next : OpenBook → Output)
    → ((now : OpenBook) → AreTurns files name (next now)) → AreTurns files name (after_enter number opening led next)
turns_enter files name number opening (Some led) next follows = follows led
turns_enter files name number opening None next follows = at_bytes _ (follows opening)

turns_book_action : (files : Files) (name : FileAt → List ℕ) (number : ℕ) (action : Action) (opening : OpenBook) (next : OpenBook → Output) → name (Line number) ≡ file_of action
    → ((now : OpenBook) → AreTurns files name (next now)) → AreTurns files name (book_action files number action opening next)
turns_book_action files name number (Change change) opening next is follows = turns_chapter_edit files name number change opening (place_fault change opening.present.tree) next follows
turns_book_action files name number (SheetFile file) opening next is follows = turns_text files name (Line number) _ file is (λ text found. follows _)
turns_book_action files name number Show opening next is follows = at_bytes _ (follows opening)
turns_book_action files name number Undo opening next is follows = at_bytes _ (follows opening)
turns_book_action files name number Redo opening next is follows = at_bytes _ (follows opening)
turns_book_action files name number (Enter document) opening next is follows = turns_enter files name number opening (entered document opening) next follows

turns_play_book : (files : Files) (name : FileAt → List ℕ) (commands : List Command) (opening : OpenBook) → AreNamed name commands → AreTurns files name (play_book files commands opening)
turns_play_book files name [] opening named = at_end _ (λ file fault. cc fault)
turns_play_book files name (command ∷ commands) opening named =
    turns_book_action files name command.line command.action opening (play_book files commands) named.0 (λ now. turns_play_book files name commands now named.1)

-- the lines of a script differ, so each command has the name of its own file
other_line : (number other : ℕ) → number + 1 ≤ other → (number == other) ≡ false
other_line number other more = grind (arith, more)

same_line : (number : ℕ) → (number == number) ≡ true
same_line number = grind arith

named_from : {kind : ScriptKind} {number : ℕ} {lines : List (List ℕ)} {commands : List Command} (name : FileAt → List ℕ) → AreCommands kind number lines commands
    → ((line : ℕ) → number ≤ line → name (Line line) ≡ sheet_name commands line) → AreNamed name commands
named_from name (no_line number) same = tt
named_from {number} name (skipped_line skipped rest) same = named_from name rest (λ line more. same line (omega (arith, more)))
named_from {number} name (command_line {commands = commands} action counts is rest) same = (
  same number (omega arith) ∙ ap (λ b. if b then file_of action else sheet_name commands number) (same_line number),
  named_from name rest (λ line more. same line (omega (arith, more)) ∙ ap (λ b. if b then file_of action else sheet_name commands line) (other_line number line more)),
)

-- texts without a place are no failed read
left_out_no_fault : (count : ℕ) (file : FileAt) → with_left_out count ≡ ReadFault file → ⊥
left_out_no_fault count file is = by (count == 0) is
  where
    by : (none : Bool) → (if none then status.Ok else status.LeftOut count) ≡ ReadFault file → ⊥
    by true same = cc same
    by false same = cc same

-- The turns of each command.
module _ (files : Files) (name : FileAt → List ℕ) where
  turns_written : (what : Aspect) (style : List ℕ) (reading : Reading)
      → AreTurns files name (goes_on (tree_of reading) (λ tree. writes (aspect_bytes what style tree) (ends status.Ok)))
  turns_written what style (Ok tree) = at_bytes _ (at_end _ (λ file fault. cc fault))
  turns_written what style (Err place) = at_end _ (λ file fault. cc fault)

  turns_aspect : (what : Aspect) (document sheet : List ℕ) (reading : Reading) → name (Word 1) ≡ document → name (Word 2) ≡ sheet
      → AreTurns files name (aspect_output files what document sheet reading)
  turns_aspect what document sheet reading first second =
      turns_text files name (Word 1) _ document first (λ text found. turns_text files name (Word 2) _ sheet second (λ style held. turns_written what style reading))

  turns_baked : (style : List ℕ) (reading : Reading) (baked : List ℕ)
      → AreTurns files name (goes_on (tree_of reading) (λ tree. writes (encode_utf8_all baked) (ends (with_left_out (saturated (left_out (dressed_document style tree)))))))
  turns_baked style (Ok tree) baked = at_bytes _ (at_end _ (λ file fault. left_out_no_fault _ file fault))
  turns_baked style (Err place) baked = at_end _ (λ file fault. cc fault)

  turns_bake : (document sheet : List ℕ) (reading : Reading) (baked : List ℕ) → name (Word 1) ≡ document → name (Word 2) ≡ sheet
      → AreTurns files name (bake_output files document sheet reading baked)
  turns_bake document sheet reading baked first second =
      turns_text files name (Word 1) _ document first (λ text found. turns_text files name (Word 2) _ sheet second (λ style held. turns_baked style reading baked))

  turns_table : (sheet style : List ℕ) (from to : ℤ) → name (Word 1) ≡ sheet → AreTurns files name (table_output files sheet style from to)
  turns_table sheet style from to first = turns_text files name (Word 1) _ sheet first (λ text found. at_bytes _ (at_end _ (λ file fault. cc fault)))

  module _ (depth : Option ℕ) where
    turns_commands : (lines : List ℕ) (style : List ℕ) (tree : Forest Node) (read : Result (List Command) ℕ) → ReadsAsScript (kind_of depth) lines read
        → ((line : ℕ) → name (Line line) ≡ sheet_name (commands_in read) line)
        → AreTurns files name (goes_on (commands_of read) (λ commands. play files (kept_edits depth) commands (begun (record { document = tree; sheet = style }))))
    turns_commands lines style tree (Ok commands) reads named = turns_play files name (kept_edits depth) commands _ (named_from name reads (λ line more. named line))
    turns_commands lines style tree (Err number) reads named = at_end _ (λ file fault. cc fault)

    turns_tree : (lines : List ℕ) (style : List ℕ) (reading : Reading) (read : Result (List Command) ℕ) → ReadsAsScript (kind_of depth) lines read
        → ((line : ℕ) → name (Line line) ≡ sheet_name (commands_in read) line)
        → AreTurns files name (goes_on (tree_of reading) (λ tree.
        goes_on (commands_of read) (λ commands. play files (kept_edits depth) commands (begun (record { document = tree; sheet = style })))))
    turns_tree lines style (Ok tree) read reads named = turns_commands lines style tree read reads named
    turns_tree lines style (Err place) read reads named = at_end _ (λ file fault. cc fault)

    turns_script : (document sheet script : List ℕ) (reading : Reading) (read : Result (List Command) ℕ) → name (Word 1) ≡ document → name (Word 2) ≡ sheet
        → name (Word 3) ≡ script → ScriptReadsAs files document sheet script (kind_of depth) read → ((line : ℕ) → name (Line line) ≡ sheet_name (commands_in read) line)
        → AreTurns files name (edit_output files document sheet script depth reading read)
    turns_script document sheet script reading read first second third reads named =
        turns_text files name (Word 1) _ document first (λ text found.
        turns_text files name (Word 2) _ sheet second (λ style held.
        turns_text files name (Word 3) _ script third (λ lines there.
        turns_tree lines style reading read (reads text style lines found held there) named)))

-- the words from this place on are these names
abbrev AreWords : (FileAt → List ℕ) → ℕ → List (List ℕ) → Type 0
AreWords name place [] = Unit {0}
AreWords name place (first ∷ names) = (name (Word place) ≡ first) × AreWords name (place + 1) names

word_behind : (front : List (List ℕ)) (name : List ℕ) (names : List (List ℕ)) → word (front ++ name ∷ names) (length front) ≡ name
word_behind [] name names = refl
word_behind (first ∷ front) name names = word_behind front name names

one_longer : (front : List (List ℕ)) (name : List ℕ) → length (front ++ name ∷ []) ≡ length front + 1
one_longer [] name = refl
one_longer (first ∷ front) name = let longer = one_longer front name in omega (arith, longer)

words_behind : (called : FileAt → List ℕ) (words : List (List ℕ)) → ((place : ℕ) → called (Word place) ≡ word words place) → (front names : List (List ℕ)) → words ≡ front ++ names
    → AreWords called (length front) names
words_behind called words agrees front [] written = tt
words_behind called words agrees front (name ∷ names) written = (
  agrees (length front) ∙ ap (λ ws. word ws (length front)) written ∙ word_behind front name names,
  subst (λ place. AreWords called place names) (one_longer front name)
      (words_behind called words agrees (front ++ name ∷ []) names (written ∙ sym (append_assoc front (name ∷ []) names))),
)

-- the trees of documents fail as no read does
tree_behind : (tree : Forest Node) (others : Result (List (Forest Node)) Status) (status : Status) → before_trees (Ok tree) others ≡ Err status → others ≡ Err status
tree_behind tree (Ok trees) status is = absurd (cc is)
tree_behind tree (Err fault) status is = is

trees_no_fault : (place : ℕ) (readings : List Reading) (told : Status) → trees_of place readings ≡ Err told → (file : FileAt) → told ≡ ReadFault file → ⊥
trees_no_fault place [] told is file fault = cc is
trees_no_fault place (Err there ∷ readings) told is file fault = let same : status.BadPart (Word place) there.0 there.1 ≡ told = cc is in cc (same ∙ fault)
trees_no_fault place (Ok tree ∷ readings) told is file fault =
    trees_no_fault (place + 1) readings told (tree_behind tree (trees_of (place + 1) readings) told is) file fault

module _ (files : Files) (name : FileAt → List ℕ) where
  turns_texts : (place : ℕ) (names : List (List ℕ)) (next : Output) → AreWords name place names
      → ((texts : List (List ℕ)) → HaveTexts files place names texts → AreTurns files name next) → AreTurns files name (with_texts files place names next)
  turns_texts place [] next are follows = follows [] tt
  turns_texts place (first ∷ names) next are follows =
      turns_text files name (Word place) _ first are.0 (λ text found. turns_texts (place + 1) names next are.1 (λ texts have. follows (text ∷ texts) (found, have)))

  turns_opened : (sources : List ChapterSource) (commands : List Command) → AreNamed name commands
      → AreTurns files name (goes_on (opened sources) (λ opening. play_book files commands opening))
  turns_opened [] commands named = at_end _ (λ file fault. cc fault)
  turns_opened (first ∷ rest) commands named = turns_play_book files name commands _ named

  turns_book_commands : (lines style : List ℕ) (documents : List (List ℕ)) (trees : List (Forest Node)) (read : Result (List Command) ℕ) → ReadsAsScript Book lines read
      → ((line : ℕ) → name (Line line) ≡ sheet_name (commands_in read) line)
      → AreTurns files name (goes_on (commands_of read) (λ commands. goes_on (opened (chapters_of style documents trees)) (λ opening. play_book files commands opening)))
  turns_book_commands lines style documents trees (Ok commands) reads named =
      turns_opened (chapters_of style documents trees) commands (named_from name reads (λ line more. named line))
  turns_book_commands lines style documents trees (Err number) reads named = at_end _ (λ file fault. cc fault)

  turns_trees : (lines style : List ℕ) (documents : List (List ℕ)) (given : Result (List (Forest Node)) Status) (read : Result (List Command) ℕ)
      → ((status : Status) → given ≡ Err status → (file : FileAt) → status ≡ ReadFault file → ⊥) → ReadsAsScript Book lines read
      → ((line : ℕ) → name (Line line) ≡ sheet_name (commands_in read) line)
      → AreTurns files name (goes_on given (λ trees.
      goes_on (commands_of read) (λ commands. goes_on (opened (chapters_of style documents trees)) (λ opening. play_book files commands opening))))
  turns_trees lines style documents (Ok trees) read no_fault reads named = turns_book_commands lines style documents trees read reads named
  turns_trees lines style documents (Err status) read no_fault reads named = at_end _ (no_fault status refl)

  turns_book : (sheet script : List ℕ) (documents : List (List ℕ)) (readings : List Reading) (read : Result (List Command) ℕ) → name (Word 1) ≡ sheet → name (Word 2) ≡ script
      → AreWords name 3 documents → BookScriptReadsAs files sheet script documents read → ((line : ℕ) → name (Line line) ≡ sheet_name (commands_in read) line)
      → AreTurns files name (book_output files sheet script documents readings read)
  turns_book sheet script documents readings read first second others reads named =
      turns_text files name (Word 1) _ sheet first (λ style found.
      turns_text files name (Word 2) _ script second (λ lines there.
      turns_texts 3 documents _ others (λ texts have.
      turns_trees lines style documents (trees_of 3 readings) read (trees_no_fault 3 readings)
      (reads style lines texts (record { of_sheet = found; of_script = there; of_documents = have })) named)))

-- the turns of a run
turns_form : (words : List (List ℕ)) (files : Files) (readings : Readings) (form : Option Form) → ReadsAsForm words form → TextsReadAs files readings form
    → AreTurns files (name_in words readings) (form_output files readings form)
turns_form words files readings None is reads = at_end _ (λ file fault. cc fault)
turns_form words files readings (Some (aspect Dump doc sheet)) is reads =
    turns_aspect files _ Dump doc sheet readings.document (ap (λ ws. word ws 1) is.written) (ap (λ ws. word ws 2) is.written)
turns_form words files readings (Some (aspect Text doc sheet)) is reads =
    turns_aspect files _ Text doc sheet readings.document (ap (λ ws. word ws 1) is.written) (ap (λ ws. word ws 2) is.written)
turns_form words files readings (Some (aspect (Why path) doc sheet)) is reads =
    turns_aspect files _ (Why path) doc sheet readings.document (ap (λ ws. word ws 1) is.written) (ap (λ ws. word ws 2) is.written)
turns_form words files readings (Some (bake doc sheet)) is reads =
    turns_bake files _ doc sheet readings.document readings.baked (ap (λ ws. word ws 1) is.written) (ap (λ ws. word ws 2) is.written)
turns_form words files readings (Some (edit doc sheet commands None)) is reads =
    turns_script files _ None doc sheet commands readings.document readings.script (ap (λ ws. word ws 1) is.written) (ap (λ ws. word ws 2) is.written) (ap (λ ws. word ws 3) is.written)
    reads.1 (λ line. refl)
turns_form words files readings (Some (edit doc sheet commands (Some depth))) is reads =
    turns_script files _ (Some depth) doc sheet commands readings.document readings.script (ap (λ ws. word ws 1) is.written) (ap (λ ws. word ws 2) is.written) (ap (λ ws. word ws 3) is.written)
    reads.1 (λ line. refl)
turns_form words files readings (Some (book sheet commands documents)) is reads =
    turns_book files _ sheet commands documents readings.parts readings.script (ap (λ ws. word ws 1) is.written) (ap (λ ws. word ws 2) is.written)
    (words_behind (name_in words readings) words (λ place. refl) (codes "book" ∷ sheet ∷ commands ∷ []) documents is.written) reads.1 (λ line. refl)
turns_form words files readings (Some (table sheet style from to)) is reads = turns_table files _ sheet style from to (ap (λ ws. word ws 1) is.written)
turns_form words files readings (Some (gen seed count)) is reads = at_bytes _ (at_end _ (λ file fault. cc fault))

pub turns_run : (words : List (List ℕ)) (files : Files) (readings : Readings) → AreReadings words files readings
    → AreTurns files (name_in words readings) (output files readings)
unfolding output
turns_run words files readings reads = turns_form words files readings readings.form reads.form reads.texts

-- What follows of turns.
module _ (files : Files) (name : FileAt → List ℕ) (file : FileAt) where
  -- a run that ends as a failed read does so at a file that isn't held, in its turn
  turn_ends : {output : Output} → AreTurns files name output → status_of output ≡ ReadFault file → HasTurn output file × (files (name file) ≡ None)
  turn_ends (at_end status other) is = absurd (other file is)
  turn_ends (at_bytes bytes rest) is = let ends = turn_ends rest is in ((bytes ++ ends.0.0, (ends.0.0, refl, ends.0.1)), ends.1)
  turn_ends (at_held first held rest) is = let ends = turn_ends rest is in ((ends.0.0, inr ends.0.1), ends.1)
  turn_ends (at_gone first gone) is = let same : first ≡ file = cc is in (([], inl (same, refl)), subst (λ f. files (name f) ≡ None) same gone)

  -- and the turn of a file that isn't held ends it so
  gone_ends : {output : Output} (written : List ℕ) → AreTurns files name output → ComesAfter output file written → files (name file) ≡ None → status_of output ≡ ReadFault file
  gone_ends written (at_end status other) comes gone = absurd comes
  gone_ends written (at_bytes bytes rest) comes gone = gone_ends comes.0 rest comes.2 gone
  gone_ends written (at_held first held rest) (inl here) gone = absurd (held (subst (λ f. files (name f) ≡ None) (sym here.0) gone))
  gone_ends written (at_held first held rest) (inr later) gone = gone_ends written rest later gone
  gone_ends written (at_gone first none) (inl here) gone = ap ReadFault here.0
  gone_ends written (at_gone first none) (inr later) gone = absurd later

  -- how a run may end at the turn of a file
  pub ends_turn : {R W : Type 0} {output : Output} {before now : Option (List ℕ)} {status : Status} → AreTurns files name output → EndsAs R W output before now status
      → status ≡ ReadFault file → HasTurn output file
  ends_turn turns (whole is grew) fault = (turn_ends turns (sym is ∙ fault)).0
  ends_turn turns (no_memory is grows) fault = absurd (cc (sym is ∙ fault))
  ends_turn turns (not_written is failed grows) fault = absurd (cc (sym is ∙ fault))
  ends_turn {output = output} turns (not_read other written is failed comes grew) fault =
      let same : other ≡ file = cc (sym is ∙ fault) in (written, subst (λ f. ComesAfter output f written) same comes)

  pub ends_not_held : {W : Type 0} {honest : Bool} {start end : ℕ} {output : Output} {before now : Option (List ℕ)} {status : Status} → AreTurns files name output
      → EndsAs (ReadsFailed honest start end) W output before now status → IsTrue honest → status ≡ ReadFault file → files (name file) ≡ None
  ends_not_held turns (whole is grew) honestly fault = (turn_ends turns (sym is ∙ fault)).1
  ends_not_held turns (no_memory is grows) honestly fault = absurd (cc (sym is ∙ fault))
  ends_not_held turns (not_written is failed grows) honestly fault = absurd (cc (sym is ∙ fault))
  ends_not_held turns (not_read other written is failed comes grew) honestly fault = absurd (cc (sym failed.dishonest ∙ honestly))

  pub ends_missing : {W : Type 0} {honest : Bool} {start end : ℕ} {output : Output} {before now : Option (List ℕ)} {status : Status} → AreTurns files name output
      → EndsAs (ReadsFailed honest start end) W output before now status → IsTrue honest → HasTurn output file → files (name file) ≡ None
      → (status ≡ Memory) ⊎ (status ≡ WriteFault) ⊎ (status ≡ ReadFault file)
  ends_missing turns (whole is grew) honestly comes gone = inr (inr (is ∙ gone_ends comes.0 turns comes.1 gone))
  ends_missing turns (no_memory is grows) honestly comes gone = inl is
  ends_missing turns (not_written is failed grows) honestly comes gone = inr (inl is)
  ends_missing turns (not_read other written is failed later grew) honestly comes gone = absurd (cc (sym failed.dishonest ∙ honestly))
