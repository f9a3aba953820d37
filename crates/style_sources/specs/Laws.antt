-- Laws of sources: the style of an element has the values of the declarations that win.
use Rattle.std.specs.Prelude.{◌≡◌, ◌∷◌, ◌++◌, ℕ, Bool, List, [], Option, IfSome, IfNone, true, false, filter, map, unwrap_or}
use Rattle.std.specs.List.{AllByRecursion}
use Rattle.forest.specs.Forest.{Forest}
use Rattle.forest.specs.Keys.{Keyed}
use Rattle.plain_types.specs.declared.node.Node.{Node}
use Rattle.plain_types.specs.declared.selector_parts.PseudoElement.TheVariants.{Own}
use Rattle.plain_types.specs.declared.sheet.Sheet.{Sheet}
use Rattle.plain_types.specs.declared.style.Style.{Style}
use Rattle.reading.specs.Reading.{◌then◌}
use Rattle.mini_cascade.specs.Properties.{Definition, initial_values, specified_value}
use Rattle.mini_cascade.specs.Declarations.{applied}
use Rattle.mini_cascade.specs.Styles.{element_style}
use Rattle.style_sources.specs.Properties.{declares}
use Rattle.style_sources.specs.Sources.{Placed, gives_way, placed_declarations, winner}
use Rattle.style_sources.specs.declared.property.Property.{Property}

-- The declarations are those by which the cascade styles the element, each with its place.
abbrev pub PlacedAreThoseThatApply : Type 0
PlacedAreThoseThatApply =
    (tree : Forest (Keyed Node)) (agent author : Sheet) (key : ℕ)
    → map (λ (p : Placed). p.applied) (placed_declarations tree key agent author) ≡ applied tree key Own agent author

-- The value of a property in the element's style is what the winner declares, or, where nothing is declared, the value
-- that is inherited or the initial one.
abbrev pub HasTheWinningValue : {Value : Type 0} → Property → Definition Value → Type 0
HasTheWinningValue property definition =
    (tree : Forest (Keyed Node)) (agent author : Sheet) (key : ℕ) (parent : Option Style)
    → definition.value_in (element_style tree agent author key parent).own
    ≡ specified_value definition.is_inherited (definition.value_in (unwrap_or parent initial_values)) definition.initial
    (winner property (placed_declarations tree key agent author) then λ winner. definition.said_by winner.applied.what)

-- None of all stands above this one: it is less than none before it, and those behind it are less than it.
pub record IsAboveAll {X : Type 0} (is_less : X → X → Bool) (one : X) (all : List X) : Type 0 where
  pub before : List X
  pub behind : List X
  pub parts : all ≡ before ++ one ∷ behind
  pub not_less : AllByRecursion (λ (other : X). is_less one other ≡ false) before
  pub above : AllByRecursion (λ (other : X). is_less other one ≡ true) behind

-- Of the declarations of a property that apply, none stands above the winner in the cascade's order. Where none wins,
-- none applies.
abbrev pub WinnerIsAboveAll : Property → Type 0
WinnerIsAboveAll property =
    (all : List Placed)
    → let those = filter (λ (p : Placed). declares property p.applied.what) all in
    IfSome (winner property all) (λ winner. IsAboveAll gives_way winner those) × IfNone (winner property all) (those ≡ [])
