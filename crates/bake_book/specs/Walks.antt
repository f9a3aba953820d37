-- The tags of a document whose nodes have keys, and those that are left to a walk (our own).
use Rattle.std.specs.Prelude.{ℕ, true, false, List, [], ◌∷◌, ◌++◌, IsSome, Option, if◌then◌else◌, reverse, unwrap_or}
use Rattle.bake_definitions.specs.Tags.{Tag}
use Rattle.bake_book.specs.Dressing.{first_insertions, last_insertions}
use Rattle.bake_book.specs.declared.tag_walk.KeyedTag.{KeyedTag}
use Rattle.bake_book.specs.declared.tag_walk.TagWalk.{TagWalk}
use Rattle.forest.specs.Forest.{Forest, Empty, Tree}
use Rattle.forest.specs.Keys.{Keyed}
use Rattle.forest.specs.Spots.{IsLink, after_of, on_link}
use Rattle.generated_texts.specs.declared.entry.NodeEntry.{NodeEntry}
use Rattle.node_arena.specs.Nodes.{name_of}
use Rattle.plain_types.specs.declared.node.Node.{Node}
use Rattle.plain_types.specs.declared.node.Node.TheVariants.{Element, Text}

abbrev pub begins : ℕ → KeyedTag
begins key = record { key = key; is_end = false }

abbrev pub ends : ℕ → KeyedTag
ends key = record { key = key; is_end = true }

-- the tags of a node, round those of its children; a text has none
abbrev pub node_tags : ℕ → Node → List KeyedTag → List KeyedTag
node_tags key (Text characters) inside = []
node_tags key (Element name attrs) inside = begins key ∷ (inside ++ ends key ∷ [])

-- the tags of trees side by side, in the order of their text
abbrev pub tree_tags : Forest (Keyed Node) → List KeyedTag
tree_tags Empty = []
tree_tags (Tree node children after) = node_tags node.key node.label (tree_tags children) ++ tree_tags after

-- a tag with the name of its element, and what is put in there
abbrev pub dressed_tag : Forest (Keyed Node) → (ℕ → Option NodeEntry) → KeyedTag → Tag
dressed_tag document entry_of tag = record {
  name = unwrap_or (name_of document tag.key) [];
  insertions = if tag.is_end then last_insertions (entry_of tag.key) else first_insertions (entry_of tag.key);
}

module _ (document : Forest (Keyed Node)) where
  -- what is left behind the children of elements that lie in one another, the innermost first
  abbrev pub tags_behind : List ℕ → List KeyedTag
  tags_behind [] = []
  tags_behind (key ∷ inside) = ends key ∷ (tree_tags (after_of document key) ++ tags_behind inside)

  -- the tags from a node on, in such elements
  abbrev pub tags_from : List ℕ → Option ℕ → List KeyedTag
  tags_from inside link = tree_tags (on_link document link) ++ tags_behind inside

  -- they are elements of the document
  abbrev pub AreElements : List ℕ → Type 0
  AreElements [] = Unit {0}
  AreElements (key ∷ inside) = IsSome (name_of document key) × AreElements inside

  -- the tags that a walk has left
  abbrev pub tags_left : TagWalk → List KeyedTag
  tags_left walk = tags_from (reverse walk.inside.items) walk.link

  -- a walk stands in the document
  pub record IsWalk (walk : TagWalk) : Type 0 where
    pub link : IsLink document walk.link
    pub inside : AreElements (reverse walk.inside.items)
