-- What is kept of elements, of what is told of them (our own).
use Rattle.std.specs.Prelude.{ℕ, List, map}
use Rattle.surroundings.specs.declared.told.Told.{Told}
use Rattle.surroundings.specs.declared.walked.Walked.{Walked}

-- what each element of which this is told was handed, and what was handed on behind its children, with its key
abbrev pub walked_of : List (ℕ × Told) → List (ℕ × Walked)
walked_of told = map (λ (element : ℕ × Told). (element.0, element.1.walked)) told
