-- The lines of a dump, and where they stand once an edit has moved their elements (our own).
use Rattle.std.specs.Prelude.{ℕ, ◌&&◌, Bool, List, [], ◌∷◌, ◌++◌, Option, find, flat_map, option_map}
use Rattle.std.specs.Option.{option_and_then, option_map_or}
use Rattle.std.specs.Str.{bytes_eq}
use Rattle.forest.specs.Forest.{Forest, Empty, Tree}
use Rattle.forest.specs.Keys.{Keyed}
use Rattle.forest.specs.Paths.{key_at, path_of}
use Rattle.forest.specs.Spots.{label_of}
use Rattle.plain_types.specs.declared.box_kind.BoxKind.{BoxKind}
use Rattle.plain_types.specs.declared.box_kind.BoxKind.TheVariants.{Marker, Before, After}
use Rattle.plain_types.specs.declared.node.Node.{Node}
use Rattle.dump_definitions.specs.Dump.{Line}
use Rattle.counter_sets.specs.Sets.{is_same_kind}
use Rattle.generated_texts.specs.Lines.{keyed_lines}
use Rattle.edit_work.specs.KeyedSources.{KeyedSource}
use Rattle.changed_lines.specs.Changes.{changed_lines}
use Rattle.changed_lines.specs.Replays.{put_in}

-- the line is of this box of the element at this path
abbrev pub is_line_of : List ℕ → BoxKind → Line → Bool
is_line_of path kind line = bytes_eq line.path path && is_same_kind line.kind kind

-- the text that lines give to a box
abbrev pub text_in : List Line → List ℕ → BoxKind → Option (List ℕ)
text_in lines path kind = option_map (λ (line : Line). line.text) (find (is_line_of path kind) lines)

module _ (old new : Forest (Keyed Node)) where
  -- where the node at a path of the old document stands in the new one, if it is still there
  abbrev pub moved_path : List ℕ → Option (List ℕ)
  moved_path path = option_and_then (λ key. option_map (λ (node : Node). path_of new key) (label_of new key)) (key_at old path)

  -- a line at its new path; none where its node is gone
  abbrev pub moved_line : Line → List Line
  moved_line line = option_map_or (λ path. record { path = path; kind = line.kind; text = line.text } ∷ []) (moved_path line.path) []

  abbrev pub moved_lines : List Line → List Line
  moved_lines lines = flat_map moved_line lines

-- the text that the lines before an edit give to a box, once their paths are moved and the changed lines are put in
abbrev pub replayed : KeyedSource → KeyedSource → List ℕ → BoxKind → Option (List ℕ)
replayed old new path kind = put_in (changed_lines old new) path kind (text_in (moved_lines old.tree new.tree (keyed_lines old.sheet old.tree)) path kind)

-- Lines in the order of a dump, where the boxes of the document have these texts.
module _ (document : Forest (Keyed Node)) (text_of : List ℕ → BoxKind → Option (List ℕ)) where
  -- the line of a box, where it has a text
  abbrev pub line_with : ℕ → BoxKind → List Line
  line_with key kind =
      option_map_or (λ (text : List ℕ). record { path = path_of document key; kind = kind; text = text } ∷ []) (text_of (path_of document key) kind) []

  -- those of trees of the document: the after box of an element comes behind its children
  abbrev pub lines_with : Forest (Keyed Node) → List Line
  lines_with Empty = []
  lines_with (Tree node children after) =
      (line_with node.key Marker ++ line_with node.key Before) ++ (lines_with children ++ (line_with node.key After ++ lines_with after))
