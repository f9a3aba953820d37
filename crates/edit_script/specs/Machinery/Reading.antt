-- Reading a script line by line.
use Rattle.std.specs.Prelude.{◌≡◌, ℕ, ◌+◌, ◌≤◌, false, IsTrue, List, [], ◌∷◌, ◌++◌, length}
use Rattle.edit_script.specs.declared.action.Action.{Action}
use Rattle.edit_script.specs.declared.command.Command.{Command}
use Rattle.edit_script.specs.declared.script_kind.ScriptKind.{ScriptKind}
use Rattle.edit_script.specs.Lines.{is_skipped, lines}
use Rattle.edit_script.specs.Scripts.{AreCommands, IsBad, IsCommand, IsFirstBad, command}

-- the line is skipped, or its command comes after the others
pub data AddsLine (kind : ScriptKind) (number : ℕ) (line : List ℕ) (old new : List Command) : Type 0 where
  adds_nothing : IsTrue (is_skipped line) → new ≡ old → AddsLine kind number line old new
  adds_command : (action : Action) → is_skipped line ≡ false → IsCommand kind line action → new ≡ old ++ command number action ∷ [] → AddsLine kind number line old new

-- the line is bad, and this is its number
pub record IsBadLine (kind : ScriptKind) (number : ℕ) (line : List ℕ) (named : ℕ) : Type 0 where
  pub bad : IsBad kind line
  pub same : named ≡ number

-- So many lines of the text are read, they are these commands, and this is left.
pub record HasLines (kind : ScriptKind) (text : List ℕ) (number : ℕ) (commands : List Command) (rest : List ℕ) : Type 0 where
  pub found : (more : List Command) → AreCommands kind (number + 1) (lines rest) more → AreCommands kind 1 (lines text) (commands ++ more)
  pub fault : (bad : ℕ) → IsFirstBad kind (number + 1) (lines rest) bad → IsFirstBad kind 1 (lines text) bad
  pub counted : number + length rest ≤ length text
