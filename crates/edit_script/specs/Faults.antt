-- What faults say.
use Rattle.std.specs.Prelude.{ℕ}
use Rattle.edit_script.specs.declared.fault.ScriptFault.{ScriptFault}
use Rattle.edit_script.specs.declared.fault.ScriptFault.TheVariants.{BadLine, Memory}

-- a fault in the text names the line at which the text fails, and of memory nothing is said
abbrev pub IsFault : (ℕ → Type 0) → ScriptFault → Type 0
IsFault Fails (BadLine number) = Fails number
IsFault Fails Memory = Unit {0}
