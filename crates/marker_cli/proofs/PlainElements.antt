-- What selectors and styles see of the elements of plain trees.
use Rattle.std.proofs.Common.{◌≡◌, ◌==◌, ◌||◌, ◌++◌, ℕ, Bool, true, false, if◌then◌else◌, List, [], ◌∷◌, Option, Some, None, option_map, unwrap_or, refl, sym, ap, subst, ◌∙◌, inl, inr, codes}
use Rattle.std.specs.List.{list_any}
use Rattle.std.specs.Option.{option_or}
use Rattle.std.specs.Str.{bytes_eq}
use Rattle.std.proofs.lemmas.Bool.{cases_Bool}
use Rattle.std.proofs.lemmas.Slice.Eq.{bytes_eq-Decides}
use Rattle.forest.specs.Forest.{Forest, Empty, Tree}
use Rattle.forest.specs.Keys.{Keyed, without_keys}
use Rattle.forest.specs.Spots.{Spot, spot, spot_of}
use Rattle.plain_types.specs.Attributes.{value_of}
use Rattle.plain_types.specs.declared.node.Node.{Node}
use Rattle.plain_types.specs.declared.node.Node.TheVariants as node
use Rattle.node_arena.specs.Nodes.{attr_of, node_attrs}
use Rattle.selector_match.specs.Elements.{Element, Level, Standing, element_with, level_of, standing_in, standing_of}
use Rattle.marker_cli.proofs.PlainTrees.{ArePlain, IsPlain, hidden_names}

abbrev pub IsPlainNode : Node → Type 0
IsPlainNode (node.Element name attrs) = IsPlain name attrs
IsPlainNode (node.Text characters) = Unit {0}

-- a node of a plain tree, and the trees around it
pub tree_parts : (label : Node) (children after : Forest Node) → ArePlain (Tree label children after) → IsPlainNode label × ArePlain children × ArePlain after
tree_parts (node.Element name attrs) children after plain = plain
tree_parts (node.Text characters) children after plain = (tt, subst ArePlain (sym plain.0) tt, plain.1)

-- The node of a key.

abbrev IsPlainSpot : Option (Spot Node) → Type 0
IsPlainSpot None = Unit {0}
IsPlainSpot (Some place) = IsPlainNode place.label

either_spot : (first second : Option (Spot Node)) → IsPlainSpot first → IsPlainSpot second → IsPlainSpot (option_or first second)
either_spot None second one other = other
either_spot (Some place) second one other = one

spot_plain : (trees : Forest (Keyed Node)) (parent : Option ℕ) (earlier : List (Keyed Node)) (key : ℕ) → ArePlain (without_keys trees) → IsPlainSpot (spot parent earlier trees key)
spot_plain Empty parent earlier key plain = tt
spot_plain (Tree first children after) parent earlier key plain =
    let parts = tree_parts first.label (without_keys children) (without_keys after) plain in
    elim (cases_Bool (first.key == key)) [
      | inl e ↦ rw e parts.0
      | inr e ↦ rw e (either_spot _ _ (spot_plain children (Some first.key) [] key parts.1) (spot_plain after parent (earlier ++ first ∷ []) key parts.2))
    ]

-- no element has a style of its own
pub no_style : (tree : Forest (Keyed Node)) (key : ℕ) → ArePlain (without_keys tree) → attr_of tree key (codes "style") ≡ None
no_style tree key plain = by (spot_of tree key) (spot_plain tree None [] key plain)
  where
    by : (place : Option (Spot Node)) → IsPlainSpot place → value_of (codes "style") (unwrap_or (option_map node_attrs (option_map (λ (s : Spot Node). s.label) place)) []) ≡ None
    by None plain = refl
    by (Some place) plain = own place.label plain
      where
        own : (label : Node) → IsPlainNode label → value_of (codes "style") (node_attrs label) ≡ None
        own (node.Element name attrs) plain = plain.unstyled
        own (node.Text characters) plain = refl

-- Where the element of a key stands.

abbrev pub IsPlainStanding : Option Standing → Type 0
IsPlainStanding None = Unit {0}
IsPlainStanding (Some standing) = IsPlain standing.level.element.name standing.level.element.attrs

either_standing : (first second : Option Standing) → IsPlainStanding first → IsPlainStanding second → IsPlainStanding (option_or first second)
either_standing None second one other = other
either_standing (Some standing) second one other = one

standing_plain : (trees : Forest (Keyed Node)) (above : List Level) (earlier : List Element) (key : ℕ) → ArePlain (without_keys trees) → IsPlainStanding (standing_in above earlier trees key)
standing_plain Empty above earlier key plain = tt
standing_plain (Tree first children after) above earlier key plain =
    elim first.label as (λ label. ArePlain (Tree label (without_keys children) (without_keys after)) → IsPlainStanding (elim label [
      | node.Element name attrs ↦
          let here : Element = element_with name attrs (without_keys children) in
          let level : Level = level_of earlier here after in
          if first.key == key then Some (record { level = level; above = above })
          else option_or (standing_in (level ∷ above) [] children key) (standing_in above (here ∷ earlier) after key)
      | node.Text characters ↦ standing_in above earlier after key
    ])) [
      | node.Element name attrs ↦ λ parts.
          let here : Element = element_with name attrs (without_keys children) in
          let level : Level = level_of earlier here after in
          elim (cases_Bool (first.key == key)) [
            | inl e ↦ rw e parts.0
            | inr e ↦ rw e (either_standing _ _ (standing_plain children (level ∷ above) [] key parts.1) (standing_plain after above (here ∷ earlier) key parts.2))
          ]
      | node.Text characters ↦ λ parts. standing_plain after above earlier key parts.1
    ] plain

pub stands_plain : (tree : Forest (Keyed Node)) (key : ℕ) → ArePlain (without_keys tree) → IsPlainStanding (standing_of tree key)
stands_plain tree key plain = standing_plain tree [] [] key plain

-- Names.

pub or_parts : (a b : Bool) → (a || b) ≡ false → (a ≡ false) × (b ≡ false)
or_parts false false both = (refl, refl)
or_parts false true both = absurd (cc)
or_parts true b both = absurd (cc)

-- a name that is none of these is not this one of them
other_name : (names : List (List ℕ)) (name word : List ℕ) → list_any (bytes_eq name) names ≡ false → list_any (bytes_eq word) names ≡ true → bytes_eq name word ≡ false
other_name names name word none among = elim (cases_Bool (bytes_eq name word)) [
  | inl e ↦ absurd (let same : name ≡ word = (bytes_eq-Decides name word).0 e in let there : list_any (bytes_eq name) names ≡ true = ap (λ n. list_any (bytes_eq n) names) same ∙ among in cc)
  | inr e ↦ e
]

pub no_style_name : (name : List ℕ) → list_any (bytes_eq name) hidden_names ≡ false → bytes_eq name (codes "style") ≡ false
no_style_name name none = other_name hidden_names name (codes "style") none refl
