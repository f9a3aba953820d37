-- What is seen of a baked document.
use Rattle.std.proofs.Common.{◌≡◌, ℕ, ◌+◌, Bool, true, false, cond, List, [], ◌∷◌, ◌++◌, length, refl, sym, ap, ◌∙◌, append_assoc, append-nil, arith}
use Rattle.std.specs.List.{flat_map}
use Rattle.bake_definitions.specs.Baked.{Annotated, baked, filled, followed_by, insertions_before}
use Rattle.bake_definitions.specs.Insertions.{Insertion, inserted_characters, takes_span}
use Rattle.bake_definitions.specs.Places.{left_out, placed, with_place, without_place}
use Rattle.baked_text.specs.Shown.{characters_in, insertion_count, insertions_into, own_characters, shown_characters, with_inserted}
use Rattle.forest.specs.Forest.{Forest, Empty, Tree}
use Rattle.plain_types.specs.declared.node.Node.{Node}
use Rattle.plain_types.specs.declared.node.Node.TheVariants.{Element, Text}
use Rattle.xml_definitions.specs.Nodes.{then_characters}

-- Characters.

characters-followed_by : (nodes others : Forest Node) → characters_in (followed_by nodes others) ≡ characters_in nodes ++ characters_in others
characters-followed_by Empty others = refl
characters-followed_by (Tree node children after) others =
    ap (λ t. own_characters node ++ (characters_in children ++ t)) (characters-followed_by after others)
    ∙ ap (λ t. own_characters node ++ t) (sym (append_assoc (characters_in children) (characters_in after) (characters_in others)))
    ∙ sym (append_assoc (own_characters node) (characters_in children ++ characters_in after) (characters_in others))

characters_alone : (cs : List ℕ) → characters_in (then_characters Empty cs) ≡ cs
characters_alone [] = refl
characters_alone (c ∷ cs) = append-nil (c ∷ cs)

characters_before : (name : List ℕ) (insertions : List Insertion) (nodes : Forest Node) → characters_in (insertions_before name insertions nodes) ≡ flat_map inserted_characters insertions ++ characters_in nodes
characters_before name [] nodes = refl
characters_before name (i ∷ insertions) nodes =
    ap (λ t. t ++ characters_in (insertions_before name insertions nodes)) (characters_alone (inserted_characters i))
    ∙ ap (λ t. inserted_characters i ++ t) (characters_before name insertions nodes)
    ∙ sym (append_assoc (inserted_characters i) (flat_map inserted_characters insertions) (characters_in nodes))

filled_characters : (node : Node) (first last : List Insertion) (content : Forest Node) → own_characters node ++ characters_in (filled node first last content) ≡ with_inserted node first last (characters_in content)
filled_characters (Text characters) first last content = refl
filled_characters (Element name attrs) first last content =
    characters_before name first (followed_by content (insertions_before name last Empty))
    ∙ ap (λ t. flat_map inserted_characters first ++ t)
    (characters-followed_by content (insertions_before name last Empty)
    ∙ ap (λ t. characters_in content ++ t) (characters_before name last Empty ∙ append-nil (flat_map inserted_characters last)))

pub order_kept : (document : Forest Annotated) → characters_in (baked document) ≡ shown_characters document
order_kept Empty = refl
order_kept (Tree a children after) =
    sym (append_assoc (own_characters a.node) (characters_in (filled a.node a.first a.last (baked children))) (characters_in (baked after)))
    ∙ ap (λ t. t ++ characters_in (baked after)) (filled_characters a.node a.first a.last (baked children))
    ∙ ap (λ t. with_inserted a.node a.first a.last t ++ characters_in (baked after)) (order_kept children)
    ∙ ap (λ t. with_inserted a.node a.first a.last (shown_characters children) ++ t) (order_kept after)

-- Counts.

node_count : (node : Node) (first last : List Insertion)
    → insertions_into node (with_place node first) (with_place node last) + (without_place node first + without_place node last) ≡ insertions_into node first last
node_count (Text characters) first last = refl
node_count (Element name attrs) first last = go (takes_span name)
  where
    go : (b : Bool) → (length (cond b first []) + length (cond b last [])) + (cond b 0 (length first) + cond b 0 (length last)) ≡ length first + length last
    go true = omega arith
    go false = omega arith

pub counts_add_up : (document : Forest Annotated) → insertion_count (placed document) + left_out document ≡ insertion_count document
counts_add_up Empty = refl
counts_add_up (Tree a children after) = omega (arith, node_count a.node a.first a.last, counts_add_up children, counts_add_up after)
