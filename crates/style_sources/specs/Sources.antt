-- Where the values of an element's properties come from (our own, over CSS Cascade 5, 4 to 7). The declarations that apply are those of
-- the cascade, each with where it stands.
use Rattle.std.specs.Prelude.{ℕ, ◌+◌, Bool, false, List, [], ◌∷◌, ◌++◌, Option, map, filter, option_map, unwrap_or, is_none}
use Rattle.forest.specs.Forest.{Forest}
use Rattle.forest.specs.Keys.{Keyed}
use Rattle.forest.specs.Spots.{parent_of}
use Rattle.plain_types.specs.declared.declaration.Declaration.{Declaration}
use Rattle.plain_types.specs.declared.declaration.Declared.{Declared}
use Rattle.plain_types.specs.declared.node.Node.{Node}
use Rattle.plain_types.specs.declared.selector_parts.PseudoElement.TheVariants.{Own}
use Rattle.plain_types.specs.declared.sheet.Sheet.{Sheet}
use Rattle.plain_types.specs.declared.sheet.StyleRule.{StyleRule}
use Rattle.selectors.specs.Specificity.{nothing}
use Rattle.selectors.specs.declared.specificity.Specificity.{Specificity}
use Rattle.mini_cascade.specs.Declarations.{Applied, ranked, specificity_in}
use Rattle.mini_cascade.specs.Greatest.{greatest}
use Rattle.mini_cascade.specs.Hints.{hints_of}
use Rattle.mini_cascade.specs.Ranks.{cascade_level}
use Rattle.mini_cascade.specs.StyleAttributes.{inline_of}
use Rattle.mini_cascade.specs.Styles as styles
use Rattle.mini_cascade.specs.declared.rank.Attachment.{Attachment}
use Rattle.mini_cascade.specs.declared.rank.Attachment.TheVariants as attachment
use Rattle.mini_cascade.specs.declared.rank.Level.{Level}
use Rattle.mini_cascade.specs.declared.rank.Level.TheVariants as level
use Rattle.mini_cascade.specs.declared.rank.Origin.TheVariants as origin
use Rattle.mini_cascade.specs.declared.rank.Rank.{Rank}
use Rattle.style_sources.specs.Properties.{declares, undeclared}
use Rattle.style_sources.specs.declared.place.DeclarationPlace.{DeclarationPlace}
use Rattle.style_sources.specs.declared.place.DeclarationPlace.TheVariants.{Rule, Hint, StyleAttribute}
use Rattle.style_sources.specs.declared.place.SheetOrigin.{SheetOrigin}
use Rattle.style_sources.specs.declared.place.SheetOrigin.TheVariants.{UserAgent, Author}
use Rattle.style_sources.specs.declared.property.Property.{Property}
use Rattle.style_sources.specs.declared.value_source.ValueSource.{ValueSource}
use Rattle.style_sources.specs.declared.value_source.ValueSource.TheVariants as source

-- a declaration that applies to an element, where it stands, and whether it has `!important`
pub record Placed : Type 0 where
  pub place : DeclarationPlace
  pub important : Bool
  pub applied : Applied

-- 6.2 and 6.3: the origin and the importance of what stands there; CSS 2.2, 6.4.4: a hint is a normal declaration of the author,
-- before all of the author's rules
abbrev pub level_at : DeclarationPlace → Bool → Level
level_at (Rule UserAgent number) important = cascade_level origin.UserAgent important
level_at (Rule Author number) important = cascade_level origin.Author important
level_at Hint important = level.Author
level_at StyleAttribute important = cascade_level origin.Author important

-- 6.1, "Element-Attached Styles" and "Specificity": how it comes to the element
abbrev pub attachment_at : DeclarationPlace → Specificity → Attachment
attachment_at StyleAttribute specificity = attachment.Direct
attachment_at _ specificity = attachment.Rule specificity

abbrev pub rank_at : DeclarationPlace → Bool → Specificity → Rank
rank_at place important specificity = record { level = level_at place important; attachment = attachment_at place specificity }

abbrev pub placed : DeclarationPlace → Bool → Specificity → Declaration → Placed
placed place important specificity what = record { place = place; important = important; applied = ranked (rank_at place important specificity) what }

-- the declarations of the rule that stands there, where it matches with this specificity
abbrev pub declared_with : DeclarationPlace → List Declared → Specificity → List Placed
declared_with place declared specificity = map (λ (d : Declared). placed place d.important specificity d.what) declared

-- the element's hints, and the declarations of its `style` attribute
abbrev pub hinted : List Declaration → List Placed
hinted hints = map (placed Hint false nothing) hints

abbrev pub attached : List Declared → List Placed
attached declared = declared_with StyleAttribute declared nothing

module _ (tree : Forest (Keyed Node)) (key : ℕ) where
  -- 5: the declarations of the rule that stands there; of one that does not match the element, none
  abbrev pub declared_in : DeclarationPlace → StyleRule → List Placed
  declared_in place rule = unwrap_or (option_map (declared_with place rule.declared) (specificity_in tree key Own rule)) []

  -- those of a sheet's rules, counted from this number
  abbrev pub declared_from : SheetOrigin → ℕ → List StyleRule → List Placed
  declared_from origin number [] = []
  declared_from origin number (rule ∷ rules) = declared_in (Rule origin number) rule ++ declared_from origin (number + 1) rules

  -- 6.1, "Order of Appearance", and CSS 2.2, 6.4.4: all that apply to the element, in the order in which they appear
  abbrev pub placed_declarations : Sheet → Sheet → List Placed
  placed_declarations agent author =
      declared_from UserAgent 0 agent.rules ++ (hinted (hints_of tree key) ++ (declared_from Author 0 author.rules ++ attached (inline_of tree key)))

-- 6: of two of a property the first gives way, in whichever order they appear
abbrev pub gives_way : Placed → Placed → Bool
gives_way a b = styles.gives_way a.applied b.applied

-- 4.2: the declaration of a property that wins is the greatest of those that apply; of equals the last
abbrev pub winner : Property → List Placed → Option Placed
winner property declarations = greatest gives_way (filter (λ (p : Placed). declares property p.applied.what) declarations)

-- where the value of a property comes from, where these declarations apply to an element that is the root or not
abbrev pub value_source_of : Bool → Property → List Placed → ValueSource
value_source_of is_root property declarations =
    unwrap_or (option_map (λ (p : Placed). source.Declared p.place p.important) (winner property declarations)) (undeclared is_root property)

-- where a property of an element of a document has its value from
abbrev pub value_source_at : Forest (Keyed Node) → Sheet → Sheet → ℕ → Property → ValueSource
value_source_at tree agent author key property = value_source_of (is_none (parent_of tree key)) property (placed_declarations tree key agent author)
