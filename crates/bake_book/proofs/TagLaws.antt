-- The tags that a walk gives are those of the document.
use Rattle.std.proofs.Common.{◌≡◌, ℕ, List, [], ◌∷◌, ◌++◌, Option, Some, None, map, refl, sym, ap, subst, ◌∙◌}
use Rattle.std.proofs.lemmas.List.{map-append}
use Rattle.std.specs.Prelude.{option_and_then, unwrap_or}
use Rattle.bake_definitions.specs.Tags.{Tag, tag, tags_of, tags_round}
use Rattle.bake_book.proofs.SpotWalks.{OfEachNode, each_by_spots}
use Rattle.bake_book.specs.Dressing.{dressed_trees, first_insertions, last_insertions}
use Rattle.bake_book.specs.Walks.{dressed_tag, ends, node_tags, tree_tags}
use Rattle.bake_book.specs.declared.tag_walk.KeyedTag.{KeyedTag}
use Rattle.forest.specs.Forest.{Forest, Empty, Tree}
use Rattle.forest.specs.Keys.{Keyed, without_keys}
use Rattle.forest.specs.Spots.{Spot}
use Rattle.generated_texts.specs.declared.entry.NodeEntry.{NodeEntry}
use Rattle.node_arena.specs.Document.{IsKeyedDocument}
use Rattle.node_arena.specs.Nodes.{name_of, node_name}
use Rattle.plain_types.specs.Tree.{AreSound}
use Rattle.plain_types.specs.declared.node.Node.{Node}
use Rattle.plain_types.specs.declared.node.Node.TheVariants.{Element, Text}

-- a text has no children
sound_parts : (node : Node) (children after : Forest Node) → AreSound (Tree node children after) → (AreSound children × AreSound after) × (node_name node ≡ None → children ≡ Empty)
sound_parts (Text characters) children after sound = ((subst AreSound (sym sound.0) tt, sound.1), λ none. sound.0)
sound_parts (Element name attrs) children after sound = ((sound.1, sound.2), λ none. absurd (cc none))

no_trees : (trees : Forest (Keyed Node)) → without_keys trees ≡ Empty → trees ≡ Empty
no_trees Empty e = refl
no_trees (Tree node children after) e = absurd cc

module _ (document : Forest (Keyed Node)) (entry_of : ℕ → Option NodeEntry) where
  abbrev IsNamed : ℕ → Node → Type 0
  IsNamed key node = name_of document key ≡ node_name node

  abbrev dressed : List KeyedTag → List Tag
  dressed tags = map (dressed_tag document entry_of) tags

  round_dressed : (key : ℕ) (node : Node) (inside : List Tag) (keyed_inside : List KeyedTag) → IsNamed key node → (node_name node ≡ None → inside ≡ []) → inside ≡ dressed keyed_inside
      → tags_round node (first_insertions (entry_of key)) (last_insertions (entry_of key)) inside ≡ dressed (node_tags key node keyed_inside)
  round_dressed key (Text characters) inside keyed_inside named none is = none refl
  round_dressed key (Element name attrs) inside keyed_inside named none is =
      let first = first_insertions (entry_of key) in
      let last = last_insertions (entry_of key) in
      let name_is : name ≡ unwrap_or (name_of document key) [] = ap (λ o. unwrap_or o []) (sym named) in
      ap (λ t. tag name first ∷ (t ++ tag name last ∷ [])) is
      ∙ ap (λ n. tag n first ∷ (dressed keyed_inside ++ tag n last ∷ [])) name_is
      ∙ ap (λ t. tag (unwrap_or (name_of document key) []) first ∷ t) (sym (map-append (dressed_tag document entry_of) keyed_inside (ends key ∷ [])))

  trees_dressed : (trees : Forest (Keyed Node)) → OfEachNode IsNamed trees → AreSound (without_keys trees) → tags_of (dressed_trees entry_of trees) ≡ dressed (tree_tags trees)
  trees_dressed Empty named sound = refl
  trees_dressed (Tree node children after) named sound =
      let parts = sound_parts node.label (without_keys children) (without_keys after) sound in
      let inside = tags_of (dressed_trees entry_of children) in
      let alone : node_name node.label ≡ None → inside ≡ [] = λ none. ap (λ t. tags_of (dressed_trees entry_of t)) (no_trees children (parts.1 none)) in
      ap (λ t. t ++ tags_of (dressed_trees entry_of after)) (round_dressed node.key node.label inside (tree_tags children) named.0 alone (trees_dressed children named.1.0 parts.0.0))
      ∙ ap (λ t. dressed (node_tags node.key node.label (tree_tags children)) ++ t) (trees_dressed after named.1.1 parts.0.1)
      ∙ sym (map-append (dressed_tag document entry_of) (node_tags node.key node.label (tree_tags children)) (tree_tags after))

  each_named : IsKeyedDocument document → OfEachNode IsNamed document
  each_named is = each_by_spots IsNamed None [] document is.distinct (λ key s at. ap (λ o. option_and_then node_name (named o)) at)
    where
      named : Option (Spot Node) → Option Node
      named None = None
      named (Some s) = Some s.label

pub document_dressed : (document : Forest (Keyed Node)) (entry_of : ℕ → Option NodeEntry) → IsKeyedDocument document → tags_of (dressed_trees entry_of document) ≡ map (dressed_tag document entry_of) (tree_tags document)
document_dressed document entry_of is = trees_dressed document entry_of document (each_named document entry_of is) is.is_tree.sound
