-- Documents whose nodes have keys.
use Rattle.std.specs.Prelude.{◌<◌, ◌^◌, refl}
use Rattle.std.specs.Coded.{Coded, code_by, coded×}
use Rattle.forest.specs.Forest.{Forest, Empty, Tree, size, coded_forest}
use Rattle.forest.specs.Keys.{Keyed, HasDistinctKeys, without_keys, coded_keyed}
use Rattle.plain_types.specs.Tree.{IsTree}
use Rattle.plain_types.specs.declared.node.Node.{Node}
use Rattle.plain_types.specs.declared.node.Node.TheVariants.{Element, Text}
use Rattle.slab.specs.Slab.{Slab, slab_code}
use Rattle.node_arena.specs.declared.entry.Entry.{Entry}

-- what an arena stands for; and all its entries, which only the conditions of edits look at
pub record Document : Type 0 where
  pub tree : Forest (Keyed Node)
  pub entries : Slab Entry

abbrev pub coded_document : Coded Node → Coded Entry → Coded Document
coded_document node entry =
    code_by
    (Forest (Keyed Node) × Slab Entry)
    (coded× (coded_forest (coded_keyed node)) (slab_code entry))
    (λ document. (document.tree, document.entries))
    (λ pair. record { tree = pair.0; entries = pair.1 })
    (λ _. refl)

-- the root is an element
abbrev pub HasElementRoot : Forest Node → Type 0
HasElementRoot Empty = ⊥
HasElementRoot (Tree (Element name attrs) children after) = Unit {0}
HasElementRoot (Tree (Text characters) children after) = ⊥

-- no two nodes have one key; there is one root, an element; texts have no children, and the attributes
-- of an element have distinct names; a usize counts the nodes
pub record IsKeyedDocument (tree : Forest (Keyed Node)) : Type 0 where
  pub distinct : HasDistinctKeys tree
  pub is_tree : IsTree (without_keys tree)
  pub element : HasElementRoot (without_keys tree)
  pub few : size tree < 2 ^ 64
