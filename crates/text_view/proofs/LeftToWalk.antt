-- What is left of what a document gives, for a walk that stands inside it.
use Rattle.std.specs.Prelude.{ℕ, ◌+◌, ◌*◌, List, [], ◌∷◌, ◌++◌, length, Option, is_some}
use Rattle.forest.specs.Forest.{Forest, weigh}
use Rattle.forest.specs.Keys.{Keyed}
use Rattle.forest.specs.Spots.{IsLive, after_of, on_link}
use Rattle.plain_types.specs.declared.node.Node.{Node}
use Rattle.node_arena.specs.Nodes.{name_of}
use Rattle.document_walk.specs.Elements.{one_where}
use Rattle.generated_texts.specs.declared.entry.NodeEntry.{NodeEntry}
use Rattle.text_view.specs.Lines.{Piece}
use Rattle.text_view.specs.Views.{last_pieces, tree_pieces}
use Rattle.text_view.specs.declared.open_element.OpenElement.{OpenElement}

-- what stands behind what the children of an element give
abbrev pub last_of : OpenElement → List Piece
last_of element = last_pieces element.breaks element.entry.now

module _ (document : Forest (Keyed Node)) where
  -- what these trees give, and then, for each element that the walk is in, the innermost first, what stands behind its
  -- children and what the trees after it give
  abbrev pub pieces_left : (ℕ → Option NodeEntry) → List OpenElement → Forest (Keyed Node) → List Piece
  pieces_left entry_of [] trees = tree_pieces entry_of trees
  pieces_left entry_of (element ∷ inside) trees = tree_pieces entry_of trees ++ (last_of element ++ pieces_left entry_of inside (after_of document element.key))

  -- the weights of the nodes that are not reached yet
  abbrev pub weight_left : (ℕ → ℕ) → List OpenElement → Forest (Keyed Node) → ℕ
  weight_left weight [] trees = weigh (λ (each : Keyed Node). weight each.key) trees
  weight_left weight (element ∷ inside) trees = weigh (λ (each : Keyed Node). weight each.key) trees + weight_left weight inside (after_of document element.key)

  -- the walk is in nodes of the document
  abbrev pub AreOpen : List OpenElement → Type 0
  AreOpen [] = Unit {0}
  AreOpen (element ∷ inside) = IsLive document element.key × AreOpen inside

  -- the node of this key weighs 1 where it is an element, and else nothing
  abbrev pub element_weight : ℕ → ℕ
  element_weight key = one_where (is_some (name_of document key))

  -- how many elements are not reached yet, from a link
  abbrev pub elements_left : List OpenElement → Option ℕ → ℕ
  elements_left inside link = weight_left element_weight inside (on_link document link)

  -- what is left to do from a link: a node is reached, and left
  abbrev pub turns_left : List OpenElement → Option ℕ → ℕ
  turns_left inside link = 2 * weight_left (λ _. 1) inside (on_link document link) + length inside
