-- Same documents show the same attributes, and their elements have the same styles.
use Rattle.std.proofs.Common.{◌≡◌, ◌==◌, ◌&&◌, ◌++◌, ◌∷◌, ℕ, Bool, true, false, cond, List, [], codes, filter, flat_map, map, option_and_then, option_map, unwrap_or, Option, Some, None, refl, ap, ◌∙◌}
use Rattle.std.proofs.Math.Path.{fun_ext}
use Rattle.std.specs.Option.{option_map_or, option_or}
use Rattle.forest.specs.Forest.{Forest, Empty, Tree}
use Rattle.forest.specs.Keys.{Keyed}
use Rattle.forest.specs.Spots.{Spot, children_of, keyed, label_of, spot, spot_of}
use Rattle.plain_types.specs.declared.attr.Attr.{Attr}
use Rattle.plain_types.specs.declared.declaration.Declaration.{Declaration}
use Rattle.plain_types.specs.declared.declaration.Declared.{Declared}
use Rattle.plain_types.specs.declared.node.Node.{Node}
use Rattle.plain_types.specs.declared.node.Node.TheVariants as node
use Rattle.plain_types.specs.declared.selector.Selector.{Selector}
use Rattle.plain_types.specs.declared.selector_parts.PseudoElement.{PseudoElement}
use Rattle.plain_types.specs.declared.selector_parts.PseudoElement.TheVariants.{Own, Marker, Before, After}
use Rattle.plain_types.specs.declared.sheet.Sheet.{Sheet}
use Rattle.plain_types.specs.declared.sheet.StyleRule.{StyleRule}
use Rattle.plain_types.specs.declared.style.ElementStyle.{ElementStyle}
use Rattle.plain_types.specs.declared.style.Style.{Style}
use Rattle.css_reader.specs.Sheets.{inline_declarations}
use Rattle.node_arena.specs.Nodes.{attr_of, attrs_of, name_of, node_attrs, node_name}
use Rattle.selector_match.specs.Matching.{matches}
use Rattle.selectors.specs.Specificity.{is_less, specificity}
use Rattle.mini_cascade.specs.Declarations.{Applied, attached, declared_with, hinted, is_same}
use Rattle.mini_cascade.specs.Greatest.{greatest}
use Rattle.mini_cascade.specs.Hints.{hints, hints_of}
use Rattle.mini_cascade.specs.Properties.{initial_values}
use Rattle.mini_cascade.specs.StyleAttributes.{inline_of}
use Rattle.mini_cascade.specs.Styles.{element_style, style_under}
use Rattle.mini_cascade.specs.declared.rank.Origin.{Origin}
use Rattle.mini_cascade.specs.declared.rank.Origin.TheVariants as origin
use Rattle.generated_texts.specs.Documents.{agent_sheet, document_style}
use Rattle.same_documents.specs.Sameness.{AreSameAttrs, AreSameKeyed, IsSameNode}
use Rattle.same_texts.proofs.Pairing.{IsBoth, both_nodes, both_trees}
use Rattle.same_texts.proofs.SameStandings.{matched_alike}

-- What is around a node.

pub record IsSameSpot (place other : Spot Node) : Type 0 where
  pub label : IsSameNode place.label other.label
  pub children : AreSameKeyed place.children other.children

either_spot : (here : Bool) (a b c d : Option (Spot Node)) → IsBoth IsSameSpot a b → IsBoth IsSameSpot c d → IsBoth IsSameSpot (cond here a c) (cond here b d)
either_spot true a b c d h g = h
either_spot false a b c d h g = g

or_spot : (a b c d : Option (Spot Node)) → IsBoth IsSameSpot a b → IsBoth IsSameSpot c d → IsBoth IsSameSpot (option_or a c) (option_or b d)
or_spot None None c d h g = g
or_spot None (Some b) c d h g = absurd h
or_spot (Some a) None c d h g = absurd h
or_spot (Some a) (Some b) c d h g = h

-- whatever the parent and the siblings before it
abbrev SpotsAlike : Forest (Keyed Node) → Forest (Keyed Node) → Type 0
SpotsAlike x y = (parent over : Option ℕ) (earlier before : List (Keyed Node)) (key : ℕ) → IsBoth IsSameSpot (spot parent earlier x key) (spot over before y key)

tree_spots : (place : ℕ) (label other : Node) (c d r s : Forest (Keyed Node)) → IsSameNode label other → AreSameKeyed c d → SpotsAlike c d → SpotsAlike r s → SpotsAlike (Tree (keyed place label) c r) (Tree (keyed place other) d s)
tree_spots place label other c d r s same down below beside parent over earlier before key =
    let n : Keyed Node = keyed place label in
    let m : Keyed Node = keyed place other in
    either_spot (place == key) (Some (record { parent = parent; earlier = earlier; label = label; children = c; after = r })) (Some (record { parent = over; earlier = before; label = other; children = d; after = s }))
    (option_or (spot (Some place) [] c key) (spot parent (earlier ++ n ∷ []) r key)) (option_or (spot (Some place) [] d key) (spot over (before ++ m ∷ []) s key))
    (record { label = same; children = down })
    (or_spot (spot (Some place) [] c key) (spot (Some place) [] d key) (spot parent (earlier ++ n ∷ []) r key) (spot over (before ++ m ∷ []) s key)
    (below (Some place) (Some place) [] [] key) (beside parent over (earlier ++ n ∷ []) (before ++ m ∷ []) key))

spot_alike : (x y : Forest (Keyed Node)) → AreSameKeyed x y → SpotsAlike x y
spot_alike = both_trees SpotsAlike (λ parent over earlier before key. tt)
    (λ place name attrs others c d r s same down on below beside. tree_spots place (node.Element name attrs) (node.Element name others) c d r s (refl, same) down below beside)
    (λ place characters c d r s down on below beside. tree_spots place (node.Text characters) (node.Text characters) c d r s refl down below beside)

label_alike : (place other : Option (Spot Node)) → IsBoth IsSameSpot place other → IsBoth IsSameNode (option_map (λ (s : Spot Node). s.label) place) (option_map (λ (s : Spot Node). s.label) other)
label_alike None None h = tt
label_alike None (Some other) h = absurd h
label_alike (Some place) None h = absurd h
label_alike (Some place) (Some other) h = h.label

children_alike : (place other : Option (Spot Node)) → IsBoth IsSameSpot place other → AreSameKeyed (unwrap_or (option_map (λ (s : Spot Node). s.children) place) Empty) (unwrap_or (option_map (λ (s : Spot Node). s.children) other) Empty)
children_alike None None h = tt
children_alike None (Some other) h = absurd h
children_alike (Some place) None h = absurd h
children_alike (Some place) (Some other) h = h.children

name_alike : (label other : Option Node) → IsBoth IsSameNode label other → option_and_then node_name label ≡ option_and_then node_name other
name_alike None None h = refl
name_alike None (Some m) h = absurd h
name_alike (Some n) None h = absurd h
name_alike (Some n) (Some m) h = both_nodes (λ one two. node_name one ≡ node_name two) (λ name attrs others same. refl) (λ characters. refl) n m h

attrs_alike : (label other : Option Node) → IsBoth IsSameNode label other → AreSameAttrs (unwrap_or (option_map node_attrs label) []) (unwrap_or (option_map node_attrs other) [])
attrs_alike None None h = λ name. refl
attrs_alike None (Some m) h = absurd h
attrs_alike (Some n) None h = absurd h
attrs_alike (Some n) (Some m) h = both_nodes (λ one two. AreSameAttrs (node_attrs one) (node_attrs two)) (λ name attrs others same. same) (λ characters name. refl) n m h

-- Hints.

hints_same : (name : List ℕ) (attrs others : List Attr) → AreSameAttrs attrs others → hints name attrs ≡ hints name others
hints_same name attrs others same = rw (same (codes "reversed"), same (codes "start"), same (codes "value"), same (codes "type")) refl

module _ (document other : Forest (Keyed Node)) (same : AreSameKeyed document other) (key : ℕ) where
  spots : IsBoth IsSameSpot (spot_of document key) (spot_of other key)
  spots = spot_alike document other same None None [] [] key

  labels_alike : IsBoth IsSameNode (label_of document key) (label_of other key)
  labels_alike = label_alike (spot_of document key) (spot_of other key) spots

  pub children_same : AreSameKeyed (children_of document key) (children_of other key)
  children_same = children_alike (spot_of document key) (spot_of other key) spots

  pub attr_same : (name : List ℕ) → attr_of document key name ≡ attr_of other key name
  attr_same = attrs_alike (label_of document key) (label_of other key) labels_alike

  hints_of_same : hints_of document key ≡ hints_of other key
  hints_of_same =
      hints_same (unwrap_or (name_of document key) []) (attrs_of document key) (attrs_of other key) attr_same
      ∙ ap (λ name. hints (unwrap_or name []) (attrs_of other key)) (name_alike (label_of document key) (label_of other key) labels_alike)

  inline_same : inline_of document key ≡ inline_of other key
  inline_same = ap (λ value. option_map_or inline_declarations value []) (attr_same (codes "style"))

-- The styles of an element are told by the selectors that it matches, its hints and its `style` attribute.
module _ (agent author : Sheet) (matched : Selector → Bool) (hinting : List Declaration) (inline : List Declared) where
  abbrev declared_by : PseudoElement → Origin → StyleRule → List Applied
  declared_by pseudo origin rule =
      unwrap_or (option_map (declared_with pseudo origin rule.declared)
      (greatest is_less (map specificity (filter (λ (selector : Selector). is_same selector.pseudo pseudo && matched selector) rule.selectors)))) []

  abbrev applied_by : PseudoElement → List Applied
  applied_by pseudo =
      flat_map (declared_by pseudo origin.UserAgent) agent.rules
      ++ (hinted pseudo hinting ++ (flat_map (declared_by pseudo origin.Author) author.rules ++ attached pseudo inline))

  abbrev with_pseudo_by : Style → ElementStyle
  with_pseudo_by own =
      record { own = own; marker = style_under (applied_by Marker) own; before = style_under (applied_by Before) own; after = style_under (applied_by After) own }

  abbrev style_by : Option Style → ElementStyle
  style_by parent = with_pseudo_by (style_under (applied_by Own) (unwrap_or parent initial_values))

element_style_same : (agent author : Sheet) (document other : Forest (Keyed Node)) → AreSameKeyed document other → (key : ℕ) (parent : Option Style) → element_style document agent author key parent ≡ element_style other agent author key parent
element_style_same agent author document other same key parent =
    ap (λ matched. style_by agent author matched (hints_of document key) (inline_of document key) parent) (fun_ext (matched_alike document other same key))
    ∙ ap (λ hinting. style_by agent author (matches other key) hinting (inline_of document key) parent) (hints_of_same document other same key)
    ∙ ap (λ inline. style_by agent author (matches other key) (hints_of other key) inline parent) (inline_same document other same key)

pub style_same : (author : Sheet) (document other : Forest (Keyed Node)) → AreSameKeyed document other → (key : ℕ) (parent : Option Style) → document_style author document key parent ≡ document_style author other key parent
style_same author document other same key parent = element_style_same agent_sheet author document other same key parent
