-- What the texts of a box depend on.
use Rattle.std.specs.Prelude.{◌≡◌, ℕ, List, Option, IfSome}
use Rattle.std.specs.List.{AllByRecursion}
use Rattle.plain_types.specs.declared.content.Part.{Part}
use Rattle.plain_types.specs.declared.counter_style.CounterStyle.{CounterStyle}
use Rattle.content_eval.specs.Targets.{Known, flat_text, full_text, reference}
use Rattle.content_eval.specs.declared.generated.Piece.{Piece}

-- Whatever the flat texts of targets are, the flat text of a box is the same. So the flat texts of all boxes
-- are known before any full text is, and no reference is circular.
abbrev pub FlatTextsNeedNoFlatTexts : Type 0
FlatTextsNeedNoFlatTexts =
    (table : List CounterStyle) (pieces : List Piece) (known : Known) (flat : List ℕ → Part → Option (List ℕ))
    → flat_text table known pieces ≡ flat_text table (record known { flat = flat }) pieces

-- the same is known of an id's target, its flat texts left out
pub record AgreeBelow (one other : Known) (id : List ℕ) : Type 0 where
  pub counters : one.counters id ≡ other.counters id
  pub characters : one.characters id ≡ other.characters id

-- the same is known of an id's target
pub record AgreeOn (one other : Known) (id : List ℕ) : Type 0 where
  pub below : AgreeBelow one other id
  pub flat : (part : Part) → one.flat id part ≡ other.flat id part

-- something holds of each id to which the pieces refer
abbrev pub OfEachReference : (List ℕ → Type 0) → List Piece → Type 0
OfEachReference holds pieces = AllByRecursion (λ piece. IfSome (reference piece) holds) pieces

-- The texts of a box depend on its pieces, the table of counter styles, and what is known of the ids to which
-- the pieces refer: its flat text on their counters and characters, its full text on their flat texts too.
abbrev pub FlatTextsDependOnReferences : Type 0
FlatTextsDependOnReferences =
    (table : List CounterStyle) (pieces : List Piece) (one other : Known)
    → OfEachReference (AgreeBelow one other) pieces → flat_text table one pieces ≡ flat_text table other pieces

abbrev pub FullTextsDependOnReferences : Type 0
FullTextsDependOnReferences =
    (table : List CounterStyle) (pieces : List Piece) (one other : Known)
    → OfEachReference (AgreeOn one other) pieces → full_text table one pieces ≡ full_text table other pieces
