-- The turns of a walk over the tags of a document.
use Rattle.std.proofs.Common.{◌≡◌, ◌<◌, ℕ, List, [], ◌∷◌, ◌++◌, Option, Some, None, reverse, refl, sym, ap, subst, ◌∙◌, append_assoc, append-nil, arith}
use Rattle.std.proofs.lemmas.List.{reverse-append}
use Rattle.std.specs.Borrow.{Bor}
use Rattle.std.specs.Prelude.{IsSome, false, is_some, option_and_then, option_copied, option_map}
use Rattle.std.specs.Str.{chars}
use Rattle.bake_book.specs.Walks.{begins, ends, node_tags, tags_behind, tags_from, tree_tags}
use Rattle.bake_book.specs.declared.tag_walk.KeyedTag.{KeyedTag}
use Rattle.forest.proofs.SpotLaws.{live-spot, on_first, on_key, on_next, on_root, root_link}
use Rattle.forest.specs.Forest.{Forest, Tree, size}
use Rattle.forest.specs.Keys.{HasDistinctKeys, Keyed}
use Rattle.forest.specs.Spots.{IsLink, IsLive, Spot, after_of, children_of, first_child_of, first_key, keyed, label_of, next_sibling_of, on_link, spot_of}
use Rattle.node_arena.specs.Nodes.{name_of, node_name}
use Rattle.plain_types.specs.declared.node.Node.{Node}
use Rattle.plain_types.specs.declared.node.Node.TheVariants.{Element, Text}

pub pushed : (stack grown : List ℕ) (key : ℕ) → grown ≡ stack ++ key ∷ [] → reverse grown ≡ key ∷ reverse stack
pushed stack grown key e = ap reverse e ∙ reverse-append stack (key ∷ [])

-- an element is a node
pub element_live : (f : Forest (Keyed Node)) (key : ℕ) → IsSome (name_of f key) → IsLive f key
element_live f key named = go (spot_of f key) named
  where
    go : (o : Option (Spot Node)) → IsSome (option_and_then node_name (option_map (λ (s : Spot Node). s.label) o)) → IsSome o
    go None none = absurd (cc none)
    go (Some s) some = refl

module _ (f : Forest (Keyed Node)) (d : HasDistinctKeys f) where
  -- the tree of a node, by its label
  here : (key : ℕ) → IsLive f key → (label : Node) × (Some label ≡ label_of f key) × (on_link f (Some key) ≡ Tree (keyed key label) (children_of f key) (after_of f key))
  here key live =
      let s = live-spot f key live in
      let label : label_of f key ≡ Some s.0.label = rw s.1 refl in
      (s.0.label, sym label, on_key f key s.0.label live (sym label))

  text_tags : (key : ℕ) (label : Node) (inside : List KeyedTag) → node_name label ≡ None → node_tags key label inside ≡ []
  text_tags key (Text characters) inside none = refl
  text_tags key (Element name attrs) inside none = absurd cc

  element_tags : (key : ℕ) (label : Node) (inside : List KeyedTag) → IsSome (node_name label) → node_tags key label inside ≡ begins key ∷ (inside ++ ends key ∷ [])
  element_tags key (Text characters) inside some = absurd (cc some)
  element_tags key (Element name attrs) inside some = refl

  -- a text is passed
  pub past_text : (key : ℕ) → IsLive f key → name_of f key ≡ None → tree_tags (on_link f (next_sibling_of f key)) ≡ tree_tags (on_link f (Some key))
  past_text key live unnamed =
      let h = here key live in
      let none : node_name h.0 ≡ None = ap (option_and_then node_name) h.1 ∙ unnamed in
      ap tree_tags (on_next f key d live).0
      ∙ ap (λ t. t ++ tree_tags (after_of f key)) (sym (text_tags key h.0 (tree_tags (children_of f key)) none))
      ∙ ap tree_tags (sym h.2)

  pub past_smaller : (key : ℕ) → IsLive f key → size (on_link f (next_sibling_of f key)) < size (on_link f (Some key))
  past_smaller key live =
      let h = here key live in
      omega (arith, ap size (on_next f key d live).0, ap size h.2)

  -- an element begins
  pub into_element : (inside : List ℕ) (key : ℕ) → IsLive f key → IsSome (name_of f key) → tags_from f inside (Some key) ≡ begins key ∷ tags_from f (key ∷ inside) (first_child_of f key)
  into_element inside key live named =
      let h = here key live in
      let some : IsSome (node_name h.0) = subst (λ o. IsSome (option_and_then node_name o)) (sym h.1) named in
      let first = tree_tags (children_of f key) in
      let rest = tree_tags (after_of f key) in
      ap (λ t. tree_tags t ++ tags_behind f inside) h.2
      ∙ ap (λ t. (t ++ rest) ++ tags_behind f inside) (element_tags key h.0 first some)
      ∙ ap (λ t. begins key ∷ t) (append_assoc (first ++ ends key ∷ []) rest (tags_behind f inside) ∙ append_assoc first (ends key ∷ []) (rest ++ tags_behind f inside))
      ∙ ap (λ t. begins key ∷ (tree_tags t ++ (ends key ∷ (rest ++ tags_behind f inside)))) (sym (on_first f key d live).0)

  -- and ends
  pub out_of_element : (inside : List ℕ) (key : ℕ) → IsLive f key → tags_from f (key ∷ inside) None ≡ ends key ∷ tags_from f inside (next_sibling_of f key)
  out_of_element inside key live = ap (λ t. ends key ∷ (tree_tags t ++ tags_behind f inside)) (sym (on_next f key d live).0)

pub at_root : (f : Forest (Keyed Node)) (root : ℕ) → Some root ≡ first_key f → IsLink f (Some root)
at_root f root is = subst (IsLink f) (sym is) (root_link f)

-- a node without a name, as the code finds it
pub unnamed : (found : Option (Bor (List ℕ))) (name : Option (List ℕ)) → is_some found ≡ false → option_map chars (option_copied found) ≡ name → name ≡ None
unnamed None name none is = sym is
unnamed (Some x) name none is = absurd cc
