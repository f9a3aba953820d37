-- What is left of the lines of a document, for a walk that stands inside it.
use Rattle.std.specs.Prelude.{◌≡◌, ℕ, ◌+◌, ◌*◌, List, [], ◌∷◌, ◌++◌, length, Option, option_copied}
use Rattle.forest.specs.Forest.{Forest, weigh}
use Rattle.forest.specs.Keys.{Keyed}
use Rattle.forest.specs.Spots.{IsLive, after_of, on_link}
use Rattle.plain_types.specs.declared.node.Node.{Node}
use Rattle.dump_definitions.specs.Dump.{Line}
use Rattle.generated_texts.specs.declared.entry.NodeEntry.{NodeEntry}
use Rattle.generated_texts.specs.Lines.{last_lines, tree_lines}
use Rattle.marker_engine.specs.declared.lines.OpenNode.{OpenNode}
use Rattle.marker_engine.proofs.Counting.{element_weight}

module _ (document : Forest (Keyed Node)) where
  -- the lines of these trees, and then, for each node that the walk is in, the innermost first, its last lines and
  -- those of the trees after it
  abbrev pub lines_left : (ℕ → Option NodeEntry) → List OpenNode → Forest (Keyed Node) → List Line
  lines_left entry_of [] trees = tree_lines document entry_of trees
  lines_left entry_of (node ∷ inside) trees =
      tree_lines document entry_of trees ++ (last_lines document entry_of node.key ++ lines_left entry_of inside (after_of document node.key))

  -- the weights of the nodes that are not reached yet
  abbrev pub weight_left : (ℕ → ℕ) → List OpenNode → Forest (Keyed Node) → ℕ
  weight_left weight [] trees = weigh (λ (each : Keyed Node). weight each.key) trees
  weight_left weight (node ∷ inside) trees = weigh (λ (each : Keyed Node). weight each.key) trees + weight_left weight inside (after_of document node.key)

  -- the walk is in nodes of the document, with what is kept of each
  abbrev pub AreOpen : (ℕ → Option NodeEntry) → List OpenNode → Type 0
  AreOpen entry_of [] = Unit {0}
  AreOpen entry_of (node ∷ inside) = (IsLive document node.key × (option_copied node.entry ≡ entry_of node.key)) × AreOpen entry_of inside

  -- how many elements are not reached yet, from a link
  abbrev pub elements_left : List OpenNode → Option ℕ → ℕ
  elements_left inside link = weight_left (element_weight document) inside (on_link document link)

  -- what is left to do from a link: a node is reached, and left
  abbrev pub turns_left : List OpenNode → Option ℕ → ℕ
  turns_left inside link = 2 * weight_left (λ _. 1) inside (on_link document link) + length inside
