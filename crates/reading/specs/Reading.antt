-- Reading from the front of a list. A reading function gives what it reads and what is left, or nothing.
use Rattle.std.specs.Prelude.{◌≡◌, ℕ, zero, suc, Bool, false, if◌then◌else◌, ◌==◌, List, [], ◌∷◌, length, Option, Some, None}
use Rattle.reading.specs.Punctuation.{byte_order_mark}

-- what a function returned, as `view` sees it, is what a reading function gives
abbrev pub Reads : {X Y : Type 0} → (X → Y) → Option X → Option Y → Type 0
Reads view None read = read ≡ None
Reads view (Some x) read = read ≡ Some (view x)

-- first the one, and then the other from what is left
infixl 10 ◌then◌
abbrev pub ◌then◌ : {X Y : Type 0} → Option X → (X → Option Y) → Option Y
(Some x) then next = next x
None then next = None

-- the first that applies
infixr 9 ◌otherwise◌
abbrev pub ◌otherwise◌ : {X : Type 0} → Option X → Option X → Option X
(Some x) otherwise other = Some x
None otherwise other = other

-- what was read, where nothing is left after it
abbrev pub only : {X E : Type 0} → X → List E → Option X
only x [] = Some x
only x (_ ∷ _) = None

-- a part that may be missing
abbrev pub optional : {X E : Type 0} → Option (X × List E) → List E → Option X × List E
optional None whole = (None, whole)
optional (Some read) whole = (Some read.0, read.1)

-- the character stands at the front
abbrev pub begins : ℕ → List ℕ → Bool
begins wanted [] = false
begins wanted (first ∷ rest) = first == wanted

-- a byte order mark at the front is no part of the text: XML 1.0, 4.3.3; CSS Syntax 3, 3.2
abbrev pub without_mark : List ℕ → List ℕ
without_mark [] = []
without_mark (first ∷ rest) = if first == byte_order_mark then rest else first ∷ rest

-- what is left after this character, where it stands at the front
abbrev pub past_character : ℕ → List ℕ → Option (List ℕ)
past_character wanted [] = None
past_character wanted (first ∷ rest) = if first == wanted then Some rest else None

-- what is left after these characters, where they stand at the front
abbrev pub past_text : List ℕ → List ℕ → Option (List ℕ)
past_text [] characters = Some characters
past_text (first ∷ rest) characters = past_character first characters then λ after. past_text rest after

-- what is left after the first character, if there is one
abbrev pub past_one : List ℕ → List ℕ
past_one [] = []
past_one (first ∷ rest) = rest

-- the longest front of characters that pass, and what is left
unfoldable pub span : (ℕ → Bool) → List ℕ → List ℕ × List ℕ
span passes [] = ([], [])
span passes (first ∷ rest) = if passes first then (first ∷ (span passes rest).0, (span passes rest).1) else ([], first ∷ rest)

-- the same of at most so many characters
unfoldable pub span_of : ℕ → (ℕ → Bool) → List ℕ → List ℕ × List ℕ
span_of zero passes characters = ([], characters)
span_of (suc most) passes [] = ([], [])
span_of (suc most) passes (first ∷ rest) = if passes first then (first ∷ (span_of most passes rest).0, (span_of most passes rest).1) else ([], first ∷ rest)

-- one piece after the other, as long as there is one
module _ {E X : Type 0} (piece_at : List E → Option (X × List E)) where
  abbrev pub run_next : (List E → List X × List E) → List E → Option (X × List E) → List X × List E
  run_next go whole None = ([], whole)
  run_next go whole (Some read) = (read.0 ∷ (go read.1).0, (go read.1).1)

  -- at most so many pieces
  unfoldable pub run_with : ℕ → List E → List X × List E
  run_with zero whole = ([], whole)
  run_with (suc most) whole = run_next (λ rest. run_with most rest) whole (piece_at whole)

  -- the pieces, and what is left; a piece takes at least one element, so there are no more than elements
  unfoldable pub run_at : List E → List X × List E
  run_at whole = run_with (length whole) whole
