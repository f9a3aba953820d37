-- What is true of each node of trees, by the style of its parent and by whether that has a box. Throughout, b is whether it has, p
-- the style of the parent, n a node, c what is under it, r what is after it, g trees, k a key, and l a label.
use Rattle.std.proofs.Common.{◌≡◌, ◌++◌, ◌∷◌, ℕ, Bool, List, [], Option, Some, None, refl, ap, ◌∙◌}
use Rattle.forest.specs.Forest.{Forest, Empty, Tree}
use Rattle.forest.specs.Keys.{Keyed, HasDistinctKeys}
use Rattle.forest.specs.Spots.{spot_of}
use Rattle.forest.proofs.SpotLaws.{spot-child, spot-next, spot-root, the_spot}
use Rattle.plain_types.specs.declared.node.Node.{Node}
use Rattle.plain_types.specs.declared.node.Node.TheVariants as node
use Rattle.plain_types.specs.declared.style.Style.{Style}
use Rattle.box_eval.specs.Evaluation.{is_boxed, style_within, styled_node}
use Rattle.box_eval.specs.Starts.{no_starts}
use Rattle.styled_merge.specs.StyledMerges.{Starting, Styling}

-- Where trees stand: under the parent of this key, and after these siblings.
module _ {L : Type 0} (whole : Forest (Keyed L)) where
  abbrev pub Stands : Option ℕ → List (Keyed L) → Forest (Keyed L) → Type 0
  Stands parent earlier Empty = Unit {0}
  Stands parent earlier (Tree n c r) = spot_of whole n.key ≡ Some (the_spot parent earlier n.label c r)

  pub stands-top : (g : Forest (Keyed L)) → whole ≡ g → Stands None [] g
  stands-top Empty is = tt
  stands-top (Tree n c r) is = ap (λ g. spot_of g n.key) is ∙ spot-root None [] n c r

  pub stands-below : HasDistinctKeys whole → (parent : Option ℕ) (earlier : List (Keyed L)) (n : Keyed L) (c r : Forest (Keyed L)) → Stands parent earlier (Tree n c r)
      → (g : Forest (Keyed L)) → c ≡ g → Stands (Some n.key) [] g
  stands-below distinct parent earlier n c r at Empty is = tt
  stands-below distinct parent earlier n c r at (Tree m d s) is = spot-child whole None [] n.key (the_spot parent earlier n.label c r) m d s distinct at is

  pub stands-beside : HasDistinctKeys whole → (parent : Option ℕ) (earlier : List (Keyed L)) (n : Keyed L) (c r : Forest (Keyed L)) → Stands parent earlier (Tree n c r)
      → (g : Forest (Keyed L)) → r ≡ g → Stands parent (earlier ++ n ∷ []) g
  stands-beside distinct parent earlier n c r at Empty is = tt
  stands-beside distinct parent earlier n c r at (Tree m d s) is = spot-next whole None [] n.key (the_spot parent earlier n.label c r) m d s distinct at is

module _ (style : Styling) where
  -- the node has a box
  abbrev pub boxed_in : Bool → Option Style → Keyed Node → Bool
  boxed_in b p n = is_boxed b (styled_node style no_starts p n.key n.label)

  -- the style that it hands on
  abbrev pub within_of : Option Style → Keyed Node → Option Style
  within_of p n = style_within style no_starts p n.key n.label

  abbrev pub OfNodes : (Bool → Option Style → Keyed Node → Type 0) → Bool → Option Style → Forest (Keyed Node) → Type 0
  OfNodes Holds b p Empty = Unit {0}
  OfNodes Holds b p (Tree n c r) = Holds b p n × OfNodes Holds (boxed_in b p n) (within_of p n) c × OfNodes Holds b p r

  -- starts are no part of either
  pub same-boxed : (start : Starting) (b : Bool) (p : Option Style) (k : ℕ) (l : Node) → is_boxed b (styled_node style start p k l) ≡ is_boxed b (styled_node style no_starts p k l)
  same-boxed start b p k (node.Element name attrs) = refl
  same-boxed start b p k (node.Text characters) = refl

  pub same-within : (start other : Starting) (p : Option Style) (k : ℕ) (l : Node) → style_within style start p k l ≡ style_within style other p k l
  same-within start other p k (node.Element name attrs) = refl
  same-within start other p k (node.Text characters) = refl

  module _ (Holds Other Both : Bool → Option Style → Keyed Node → Type 0) (both : (b : Bool) (p : Option Style) (n : Keyed Node) → Holds b p n → Other b p n → Both b p n) where
    pub of-both : (g : Forest (Keyed Node)) (b : Bool) (p : Option Style) → OfNodes Holds b p g → OfNodes Other b p g → OfNodes Both b p g
    of-both Empty b p h o = tt
    of-both (Tree n c r) b p h o = (both b p n h.0 o.0, of-both c (boxed_in b p n) (within_of p n) h.1 o.1, of-both r b p h.2 o.2)
