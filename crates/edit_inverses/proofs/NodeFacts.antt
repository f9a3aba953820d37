-- What an arena tells of a node, and what stands there.
use Rattle.std.proofs.Common.{◌≡◌, ℕ, List, [], Option, Some, None, unwrap_or, refl, sym, ap, ◌∙◌, option_map}
use Rattle.std.proofs.lemmas.Option.{none-some, same_Some}
use Rattle.std.specs.Option.{option_and_then}
use Rattle.forest.specs.Forest.{Forest, Empty, Tree}
use Rattle.forest.specs.Keys.{Keyed, HasDistinctKeys, without_keys}
use Rattle.forest.specs.Spots.{IsLive, label_of, on_link}
use Rattle.forest.specs.Paths.{key_at, on_path}
use Rattle.plain_types.specs.Attributes.{value_of}
use Rattle.plain_types.specs.Tree.{HasDistinctNames}
use Rattle.plain_types.specs.declared.node.Node.{Node}
use Rattle.plain_types.specs.declared.node.Node.TheVariants.{Element, Text}
use Rattle.node_arena.specs.AtPaths.{label_at}
use Rattle.node_arena.specs.Document.{IsKeyedDocument}
use Rattle.node_arena.specs.Nodes.{attr_of, attrs_of, name_of, node_attrs, node_name}
use Rattle.node_arena.specs.Changes.{alone}
use Rattle.node_arena.proofs.KeyAtLaws.{label-found, none-found, on-link-at, on-map}
use Rattle.node_arena.proofs.ToTree.{sound-at}
use Rattle.edit_inverses.specs.Inverses.{value_at}

-- An element's attributes have distinct names.

named_label : (o : Option Node) (name : List ℕ) → option_and_then node_name o ≡ Some name → o ≡ Some (Element name (unwrap_or (option_map node_attrs o) []))
named_label None name is = absurd (none-some name is)
named_label (Some (Element own attrs)) name is = let e : own ≡ name = same_Some _ _ is in ap (λ n. Some (Element n attrs)) e
named_label (Some (Text characters)) name is = absurd (none-some name is)

pub named_distinct : (f : Forest (Keyed Node)) (q : ℕ) (name : List ℕ) → IsKeyedDocument f → IsLive f q → name_of f q ≡ Some name → HasDistinctNames (attrs_of f q)
named_distinct f q name d live is = sound-at f q (Element name (attrs_of f q)) d live (sym (named_label (label_of f q) name is))

-- The value of an attribute, by the key and by the path.

value_in : (name : List ℕ) (o : Option Node) → value_of name (unwrap_or (option_map node_attrs o) []) ≡ option_and_then (λ (node : Node). value_of name (node_attrs node)) o
value_in name None = refl
value_in name (Some node) = refl

pub value_found : (f : Forest (Keyed Node)) (path : List ℕ) (q : ℕ) (name : List ℕ) → HasDistinctKeys f → key_at f path ≡ Some q → attr_of f q name ≡ value_at path name (without_keys f)
value_found f path q name d is =
    value_in name (label_of f q) ∙ ap (option_and_then (λ (node : Node). value_of name (node_attrs node))) (sym (label-found f path q d is))

pub no_value : (f : Forest (Keyed Node)) (path : List ℕ) (name : List ℕ) → key_at f path ≡ None → value_at path name (without_keys f) ≡ None
no_value f path name none = ap (option_and_then (λ (node : Node). value_of name (node_attrs node))) (none-found f path none)

-- The tree of a node, by the key and by the path.

alone_bare : (g : Forest (Keyed Node)) → without_keys (alone g) ≡ alone (without_keys g)
alone_bare Empty = refl
alone_bare (Tree n c r) = refl

pub tree_found : (f : Forest (Keyed Node)) (path : List ℕ) (q : ℕ) → HasDistinctKeys f → key_at f path ≡ Some q → without_keys (alone (on_link f (Some q))) ≡ alone (on_path path (without_keys f))
tree_found f path q d is =
    alone_bare (on_link f (Some q))
    ∙ ap (λ g. alone (without_keys g)) (sym (on-link-at f path q d is))
    ∙ ap (λ g. alone g) (sym (on-map (λ (n : Keyed Node). n.label) path f))
