-- What a fault says.
use Rattle.std.specs.Prelude.{ℕ}
use Rattle.xhtml_reader.specs.declared.fault.DocFault.{DocFault}
use Rattle.xhtml_reader.specs.declared.fault.DocFault.TheVariants.{Malformed, Memory}

-- a fault in the text is told where the text fails, and of memory nothing is said
abbrev pub IsFault : (ℕ → ℕ → Type 0) → DocFault → Type 0
IsFault Fails (Malformed line column) = Fails line column
IsFault Fails Memory = Unit {0}
