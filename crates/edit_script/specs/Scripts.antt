-- Scripts: which lines are which commands, and which texts are which scripts (our own).
use Rattle.std.specs.Prelude.{◌≡◌, ◌≢◌, ◌⊎◌, ℕ, ◌+◌, ◌≤◌, false, IsTrue, List, [], ◌∷◌, Option, Some, None, Result, Ok, Err, codes}
use Rattle.std.specs.Fmt.{decimal}
use Rattle.std.specs.List.{AllByRecursion, join_with_byte}
use Rattle.forest.specs.Forest.{Forest}
use Rattle.plain_types.specs.declared.edit.Edit.TheVariants.{Insert, Remove, Move, SetAttr, UnsetAttr}
use Rattle.plain_types.specs.declared.node.Node.{Node}
use Rattle.dump_definitions.specs.Dump.{path_text}
use Rattle.reading.specs.Reading.{without_mark}
use Rattle.xml_definitions.specs.Spelling.{IsName}
use Rattle.xml_definitions.specs.Texts.{IsFragmentText}
use Rattle.edit_script.specs.declared.action.Action.{Action}
use Rattle.edit_script.specs.declared.action.Action.TheVariants.{Change, SheetFile, Show, Undo, Redo, Enter}
use Rattle.edit_script.specs.declared.command.Command.{Command}
use Rattle.edit_script.specs.declared.script_kind.ScriptKind.{ScriptKind}
use Rattle.edit_script.specs.declared.script_kind.ScriptKind.TheVariants.{Edits, History, Book}
use Rattle.edit_script.specs.Lines.{is_skipped, lines}

-- Commands.

-- a position, or an index: it is written in decimal, so that `0` is the one number that begins with `0`
abbrev pub IsPosition : ℕ → Type 0
IsPosition number = number ≤ 4294967295

abbrev pub IsPath : List ℕ → Type 0
IsPath path = AllByRecursion IsPosition path

-- the text is this path
pub record IsPathText (text path : List ℕ) : Type 0 where
  pub written : text ≡ path_text path
  pub sound : IsPath path

-- the text is this path, or none
abbrev pub ReadsAsPath : List ℕ → Option (List ℕ) → Type 0
ReadsAsPath text (Some path) = IsPathText text path
ReadsAsPath text None = (path : List ℕ) → IsPathText text path → ⊥

-- words with one space between each two
abbrev pub spaced : List (List ℕ) → List ℕ
spaced words = join_with_byte 32 words

-- The line is this command of a script of edits. MARKUP, VALUE and FILE are all that is left of the line, as it stands.
pub data IsEditCommand : List ℕ → Action → Type 0 where
  -- insert PATH INDEX MARKUP
  insert_command : (parent : List ℕ) (index : ℕ) (markup : List ℕ) (fragment : Forest Node) → IsPath parent → IsPosition index → IsFragmentText markup fragment
      → IsEditCommand (spaced (codes "insert" ∷ path_text parent ∷ decimal index ∷ markup ∷ [])) (Change (Insert parent index fragment))
  -- remove PATH
  remove_command : (path : List ℕ) → IsPath path → IsEditCommand (spaced (codes "remove" ∷ path_text path ∷ [])) (Change (Remove path))
  -- move PATH PATH INDEX
  move_command : (from parent : List ℕ) (index : ℕ) → IsPath from → IsPath parent → IsPosition index
      → IsEditCommand (spaced (codes "move" ∷ path_text from ∷ path_text parent ∷ decimal index ∷ [])) (Change (Move from parent index))
  -- set PATH NAME VALUE
  set_command : (path name value : List ℕ) → IsPath path → IsName name
      → IsEditCommand (spaced (codes "set" ∷ path_text path ∷ name ∷ value ∷ [])) (Change (SetAttr path name value))
  -- set PATH NAME, which sets an empty value
  set_empty_command : (path name : List ℕ) → IsPath path → IsName name
      → IsEditCommand (spaced (codes "set" ∷ path_text path ∷ name ∷ [])) (Change (SetAttr path name []))
  -- unset PATH NAME
  unset_command : (path name : List ℕ) → IsPath path → IsName name
      → IsEditCommand (spaced (codes "unset" ∷ path_text path ∷ name ∷ [])) (Change (UnsetAttr path name))
  -- sheet FILE
  sheet_command : (name : List ℕ) → name ≢ [] → IsEditCommand (spaced (codes "sheet" ∷ name ∷ [])) (SheetFile name)
  -- show
  show_command : IsEditCommand (codes "show") Show

-- the line is this command of a script with a history: one of the above, or one of these two
pub data IsHistoryCommand : List ℕ → Action → Type 0 where
  edit_command : {line : List ℕ} {action : Action} → IsEditCommand line action → IsHistoryCommand line action
  -- undo
  undo_command : IsHistoryCommand (codes "undo") Undo
  -- redo
  redo_command : IsHistoryCommand (codes "redo") Redo

-- The line is this command of the script of a book: one of a script of edits, or this one. NAME is all that is left of the line, as it stands.
pub data IsBookCommand : List ℕ → Action → Type 0 where
  document_command : {line : List ℕ} {action : Action} → IsEditCommand line action → IsBookCommand line action
  -- in NAME
  in_command : (name : List ℕ) → name ≢ [] → IsBookCommand (spaced (codes "in" ∷ name ∷ [])) (Enter name)

-- the line is this command of a script of this kind
abbrev pub IsCommand : ScriptKind → List ℕ → Action → Type 0
IsCommand Edits line action = IsEditCommand line action
IsCommand History line action = IsHistoryCommand line action
IsCommand Book line action = IsBookCommand line action

-- the line is neither skipped nor a command
pub record IsBad (kind : ScriptKind) (line : List ℕ) : Type 0 where
  pub counts : is_skipped line ≡ false
  pub none : (action : Action) → IsCommand kind line action → ⊥

-- the line is skipped, or a command
abbrev pub IsGood : ScriptKind → List ℕ → Type 0
IsGood kind line = IsTrue (is_skipped line) ⊎ ((action : Action) × IsCommand kind line action)

-- Scripts.

abbrev pub command : ℕ → Action → Command
command number action = record { line = number; action = action }

-- the lines, of which the first has this number, are these commands
pub data AreCommands (kind : ScriptKind) : ℕ → List (List ℕ) → List Command → Type 0 where
  no_line : (number : ℕ) → AreCommands kind number [] []
  skipped_line : {number : ℕ} {line : List ℕ} {rest : List (List ℕ)} {commands : List Command} → IsTrue (is_skipped line) → AreCommands kind (number + 1) rest commands
      → AreCommands kind number (line ∷ rest) commands
  command_line : {number : ℕ} {line : List ℕ} {rest : List (List ℕ)} {commands : List Command} (action : Action) → is_skipped line ≡ false → IsCommand kind line action
      → AreCommands kind (number + 1) rest commands → AreCommands kind number (line ∷ rest) (command number action ∷ commands)

-- of the lines, of which the first has this number, the first bad one has that number
pub data IsFirstBad (kind : ScriptKind) : ℕ → List (List ℕ) → ℕ → Type 0 where
  bad_here : {number : ℕ} {line : List ℕ} {rest : List (List ℕ)} → IsBad kind line → IsFirstBad kind number (line ∷ rest) number
  bad_later : {number bad : ℕ} {line : List ℕ} {rest : List (List ℕ)} → IsGood kind line → IsFirstBad kind (number + 1) rest bad → IsFirstBad kind number (line ∷ rest) bad

-- the lines of a text, without a byte order mark at its front
abbrev pub script_lines : List ℕ → List (List ℕ)
script_lines text = lines (without_mark text)

-- the text is a script of this kind and these commands
abbrev pub IsScript : ScriptKind → List ℕ → List Command → Type 0
IsScript kind text commands = AreCommands kind 1 (script_lines text) commands

-- the text is no script of this kind, and its first bad line has this number
abbrev pub FailsAsScript : ScriptKind → List ℕ → ℕ → Type 0
FailsAsScript kind text number = IsFirstBad kind 1 (script_lines text) number

-- the text reads as a script of this kind and these commands, or its first bad line has this number
abbrev pub ReadsAsScript : ScriptKind → List ℕ → Result (List Command) ℕ → Type 0
ReadsAsScript kind text (Ok commands) = IsScript kind text commands
ReadsAsScript kind text (Err number) = FailsAsScript kind text number
