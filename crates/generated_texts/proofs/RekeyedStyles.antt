-- The styles of elements, under other keys.
use Rattle.std.proofs.Common.{◌≡◌, ◌==◌, ◌∷◌, ◌++◌, ℕ, List, [], cond, Option, Some, refl, ap, ◌∙◌}
use Rattle.std.specs.Prelude.{◌&&◌, codes, false, filter, flat_map, map, option_map, unwrap_or}
use Rattle.std.specs.Option.{option_and_then, option_map_or, option_or}
use Rattle.forest.specs.Forest.{Forest, Empty, Tree}
use Rattle.forest.specs.Keys.{Keyed, without_keys}
use Rattle.forest.specs.Spots.{label_of}
use Rattle.plain_types.specs.Attributes.{value_of}
use Rattle.plain_types.specs.declared.attr.Attr.{Attr}
use Rattle.plain_types.specs.declared.declaration.Declared.{Declared}
use Rattle.plain_types.specs.declared.node.Node.{Node}
use Rattle.plain_types.specs.declared.node.Node.TheVariants as node
use Rattle.plain_types.specs.declared.selector.Selector.{Selector}
use Rattle.plain_types.specs.declared.selector_parts.PseudoElement.{PseudoElement}
use Rattle.plain_types.specs.declared.selector_parts.PseudoElement.TheVariants.{Own, Marker, Before, After}
use Rattle.plain_types.specs.declared.sheet.Sheet.{Sheet}
use Rattle.plain_types.specs.declared.sheet.StyleRule.{StyleRule}
use Rattle.plain_types.specs.declared.style.ElementStyle.{ElementStyle}
use Rattle.plain_types.specs.declared.style.Style.{Style}
use Rattle.css_reader.specs.Sheets.{inline_declarations}
use Rattle.selector_match.specs.Elements.{Element, Level, Standing, element_with, level_of, standing_in, standing_of}
use Rattle.selector_match.specs.Matching.{matches_complex}
use Rattle.node_arena.specs.Nodes.{node_attrs, node_name}
use Rattle.selectors.specs.Specificity.{is_less, specificity}
use Rattle.mini_cascade.specs.Declarations.{Applied, attached, declared_with, hinted, is_same}
use Rattle.mini_cascade.specs.Greatest.{greatest}
use Rattle.mini_cascade.specs.Hints.{hints}
use Rattle.mini_cascade.specs.Properties.{initial_values}
use Rattle.mini_cascade.specs.Styles.{element_style, style_under}
use Rattle.mini_cascade.specs.declared.rank.Origin.{Origin}
use Rattle.mini_cascade.specs.declared.rank.Origin.TheVariants as origin
use Rattle.generated_texts.specs.Keyings.{rekeyed}
use Rattle.generated_texts.proofs.Rekeyed.{AreApart, same_bare, same_label}

module _ (rekey : ℕ → ℕ) (apart : AreApart rekey) where
  abbrev SameIn : Forest (Keyed Node) → Type 0
  SameIn trees = (above : List Level) (earlier : List Element) (key : ℕ) → standing_in above earlier (rekeyed rekey trees) (rekey key) ≡ standing_in above earlier trees key

  standing_node : (place : ℕ) (label : Node) (children after : Forest (Keyed Node)) → SameIn children → SameIn after → SameIn (Tree (record { key = place; label = label }) children after)
  standing_node place (node.Text characters) children after inner next above earlier key = next above earlier key
  standing_node place (node.Element name attrs) children after inner next above earlier key =
      let here : Element = element_with name attrs (without_keys children) in
      let level : Level = level_of earlier here after in
      rw (same_bare rekey children, same_bare rekey after, apart place key)
      (ap (λ o. cond (place == key) (Some (record { level = level; above = above })) (option_or o (standing_in above (here ∷ earlier) (rekeyed rekey after) (rekey key)))) (inner (level ∷ above) [] key)
      ∙ ap (λ o. cond (place == key) (Some (record { level = level; above = above })) (option_or (standing_in (level ∷ above) [] children key) o)) (next above (here ∷ earlier) key))

  same_standing : (trees : Forest (Keyed Node)) → SameIn trees
  same_standing Empty = λ above earlier key. refl
  same_standing (Tree first children after) = standing_node first.key first.label children after (same_standing children) (same_standing after)

  pub same_element : (document : Forest (Keyed Node)) (key : ℕ) → standing_of (rekeyed rekey document) (rekey key) ≡ standing_of document key
  same_element document key = same_standing document [] [] key

-- The styles of an element are told by where it stands and by its own label.
module _ (agent author : Sheet) (place : Option Standing) (label : Option Node) where
  abbrev declared_by : PseudoElement → Origin → StyleRule → List Applied
  declared_by pseudo origin rule =
      unwrap_or (option_map (declared_with pseudo origin rule.declared)
      (greatest is_less (map specificity (filter (λ (selector : Selector). is_same selector.pseudo pseudo && option_map_or (matches_complex selector) place false) rule.selectors)))) []

  abbrev attrs_by : List Attr
  attrs_by = unwrap_or (option_map node_attrs label) []

  abbrev inline_by : List Declared
  inline_by = option_map_or inline_declarations (value_of (codes "style") attrs_by) []

  abbrev applied_by : PseudoElement → List Applied
  applied_by pseudo =
      flat_map (declared_by pseudo origin.UserAgent) agent.rules
      ++ (hinted pseudo (hints (unwrap_or (option_and_then node_name label) []) attrs_by)
      ++ (flat_map (declared_by pseudo origin.Author) author.rules ++ attached pseudo inline_by))

  abbrev with_pseudo_by : Style → ElementStyle
  with_pseudo_by own =
      record { own = own; marker = style_under (applied_by Marker) own; before = style_under (applied_by Before) own; after = style_under (applied_by After) own }

  abbrev style_by : Option Style → ElementStyle
  style_by parent = with_pseudo_by (style_under (applied_by Own) (unwrap_or parent initial_values))

pub same_style : (rekey : ℕ → ℕ) → AreApart rekey → (document : Forest (Keyed Node)) (agent author : Sheet) (key : ℕ) (parent : Option Style)
    → element_style (rekeyed rekey document) agent author (rekey key) parent ≡ element_style document agent author key parent
same_style rekey apart document agent author key parent =
    ap (λ place. style_by agent author place (label_of (rekeyed rekey document) (rekey key)) parent) (same_element rekey apart document key)
    ∙ ap (λ label. style_by agent author (standing_of document key) label parent) (same_label rekey apart document key)
