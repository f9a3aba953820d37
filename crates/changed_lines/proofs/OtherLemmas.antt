-- Elements that show another text in a box have lines, and others have none.
use Rattle.std.proofs.Common.{◌≡◌, ◌≤◌, ◌∷◌, ◌++◌, ◌||◌, ℕ, List, [], Bool, true, false, cond, not, length, Option, refl, arith}
use Rattle.std.proofs.lemmas.Bool.{false≢true}
use Rattle.plain_types.specs.declared.box_kind.BoxKind.{BoxKind}
use Rattle.plain_types.specs.declared.box_kind.BoxKind.TheVariants as kind
use Rattle.generated_texts.specs.declared.entry.NodeEntry.{NodeEntry}
use Rattle.changed_lines.specs.declared.changed_line.ChangedLine.{ChangedLine}
use Rattle.changed_lines.specs.Changes.{element_lines, is_same_text, shows_other}
use Rattle.changed_lines.specs.ShownTexts.{shown_text}

-- three items, of which some are left out
module _ {A : Type 0} (x y z : A) where
  abbrev gathered : Bool → Bool → Bool → List A
  gathered a b c = cond a [] (x ∷ []) ++ (cond b [] (y ∷ []) ++ cond c [] (z ∷ []))

  some_gathered : (a b c : Bool) → (not a || (not b || not c)) ≡ true → 1 ≤ length (gathered a b c)
  some_gathered false b c some = omega arith
  some_gathered true false c some = omega arith
  some_gathered true true false some = omega arith
  some_gathered true true true some = absurd (false≢true some)

  none_gathered : (a b c : Bool) → (not a || (not b || not c)) ≡ false → gathered a b c ≡ []
  none_gathered false b c none = absurd (cc)
  none_gathered true false c none = absurd (cc)
  none_gathered true true false none = absurd (cc)
  none_gathered true true true none = refl

module _ (path : List ℕ) (before after : Option NodeEntry) where
  -- whether the text of a box is as before
  abbrev stays : BoxKind → Bool
  stays kind = is_same_text (shown_text kind before) (shown_text kind after)

  -- the line of a box
  abbrev line : BoxKind → ChangedLine
  line kind = record { path = path; kind = kind; text = shown_text kind after }

  pub some_lines : shows_other before after ≡ true → 1 ≤ length (element_lines path before after)
  some_lines = some_gathered (line kind.Marker) (line kind.Before) (line kind.After) (stays kind.Marker) (stays kind.Before) (stays kind.After)

  pub none_lines : shows_other before after ≡ false → element_lines path before after ≡ []
  none_lines = none_gathered (line kind.Marker) (line kind.Before) (line kind.After) (stays kind.Marker) (stays kind.Before) (stays kind.After)
