-- Selectors that hold selectors.
use Rattle.std.proofs.Common.{◌≡◌, ℕ, ℤ, ◌||◌, ◌&&◌, Bool, not, List, [], ◌∷◌, map, refl, sym, ap, ◌∙◌}
use Rattle.std.specs.List.{list_any, list_all}
use Rattle.std.specs.Prelude.{codes}
use Rattle.std.specs.Str.{bytes_eq}
use Rattle.plain_types.specs.declared.selector.Compound.{Compound}
use Rattle.plain_types.specs.declared.selector.Simple.{Simple, Simple-F, roll-Simple, map-Simple}
use Rattle.plain_types.specs.declared.selector.Simple.TheOpen as layer
use Rattle.plain_types.specs.declared.selector.Simple.TheVariants as simple
use Rattle.plain_types.specs.declared.selector.Simple.TheFolds.{fold-roll-Simple, fold-roll-Compound}
use Rattle.selector_match.specs.Attributes.{has_word}
use Rattle.selector_match.specs.Elements.{Standing, is_root}
use Rattle.selector_match.specs.Positions.{is_nth, position_of}
use Rattle.selector_match.specs.Matching.{one_is, has_attr, all_are, simple_matches, compound_matches, matches_simple, matches_compound}

any-mapped : {A : Type 0} (f : A → Bool) (xs : List A) → one_is (map f xs) ≡ list_any f xs
any-mapped f [] = refl
any-mapped f (x ∷ xs) = ap (λ b. f x || b) (any-mapped f xs)

all-mapped : {A : Type 0} (f : A → Bool) (xs : List A) → all_are (map f xs) ≡ list_all f xs
all-mapped f [] = refl
all-mapped f (x ∷ xs) = ap (λ b. f x && b) (all-mapped f xs)

module _ (standing : Standing) where
  layer-is : (choices : List Compound) (f : Bool → Bool) (one : Simple-F Simple Compound) (whole : Simple) → roll-Simple one ≡ whole
      → simple_matches standing (map-Simple Simple Compound Bool Bool (matches_simple standing) (matches_compound standing) one) ≡ f (list_any (matches_compound standing) choices)
      → matches_simple standing whole ≡ f (list_any (matches_compound standing) choices)
  layer-is choices f one whole is says = ap (matches_simple standing) (sym is) ∙ fold-roll-Simple Bool Bool (simple_matches standing) compound_matches one ∙ says

  pub is-choices : (choices : List Compound) → matches_simple standing (simple.Is choices) ≡ list_any (matches_compound standing) choices
  is-choices choices = layer-is choices (λ b. b) (layer.Is choices) _ (simple.rolls-Is choices) (any-mapped (matches_compound standing) choices)

  pub where-choices : (choices : List Compound) → matches_simple standing (simple.Weightless choices) ≡ list_any (matches_compound standing) choices
  where-choices choices = layer-is choices (λ b. b) (layer.Weightless choices) _ (simple.rolls-Weightless choices) (any-mapped (matches_compound standing) choices)

  pub not-choices : (choices : List Compound) → matches_simple standing (simple.Not choices) ≡ not (list_any (matches_compound standing) choices)
  not-choices choices = layer-is choices not (layer.Not choices) _ (simple.rolls-Not choices) (ap not (any-mapped (matches_compound standing) choices))

  pub compound-simples : (compound : Compound) → matches_compound standing compound ≡ list_all (matches_simple standing) compound.simples
  compound-simples compound = fold-roll-Compound Bool Bool (simple_matches standing) compound_matches (record { simples = compound.simples }) ∙ all-mapped (matches_simple standing) compound.simples

  layer-alone : (one : Simple-F Simple Compound) (whole : Simple) → roll-Simple one ≡ whole → matches_simple standing whole ≡ simple_matches standing (map-Simple Simple Compound Bool Bool (matches_simple standing) (matches_compound standing) one)
  layer-alone one whole is = ap (matches_simple standing) (sym is) ∙ fold-roll-Simple Bool Bool (simple_matches standing) compound_matches one

  pub type-alone : (name : List ℕ) → matches_simple standing (simple.Element name) ≡ bytes_eq standing.level.element.name name
  type-alone name = layer-alone (layer.Element name) (simple.Element name) (simple.rolls-Element name)

  pub id-alone : (name : List ℕ) → matches_simple standing (simple.Id name) ≡ has_attr standing.level.element (codes "id") (λ value. bytes_eq value name)
  id-alone name = layer-alone (layer.Id name) (simple.Id name) (simple.rolls-Id name)

  pub class-alone : (name : List ℕ) → matches_simple standing (simple.Class name) ≡ has_attr standing.level.element (codes "class") (λ value. has_word value name)
  class-alone name = layer-alone (layer.Class name) (simple.Class name) (simple.rolls-Class name)

  pub root-alone : matches_simple standing simple.Root ≡ is_root standing
  root-alone = layer-alone layer.Root simple.Root simple.rolls-Root

  pub empty-alone : matches_simple standing simple.Empty ≡ standing.level.element.is_empty
  empty-alone = layer-alone layer.Empty simple.Empty simple.rolls-Empty

  pub nth-alone : (a b : ℤ) (from_end same_type : Bool) → matches_simple standing (simple.Nth a b from_end same_type) ≡ is_nth a b (position_of from_end same_type standing.level)
  nth-alone a b from_end same_type = layer-alone (layer.Nth a b from_end same_type) (simple.Nth a b from_end same_type) (simple.rolls-Nth a b from_end same_type)
