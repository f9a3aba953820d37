-- What faults of lines say.
use Rattle.edit_script.specs.declared.line_fault.LineFault.{LineFault}
use Rattle.edit_script.specs.declared.line_fault.LineFault.TheVariants as line

-- the line, or a part of one, has no form where nothing is spelled so, and of memory nothing is said
abbrev pub IsLineFault : {X : Type 0} → (X → Type 0) → LineFault → Type 0
IsLineFault Spells line.NoForm = (x : _) → Spells x → ⊥
IsLineFault Spells line.Memory = Unit {0}
