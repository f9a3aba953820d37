-- Which lines of a dump an edit changes (our own).
use Rattle.std.specs.Prelude.{ℕ, Bool, true, false, not, ◌||◌, List, [], ◌∷◌, ◌++◌, Option, Some, None, cond, flat_map}
use Rattle.std.specs.Str.{bytes_eq}
use Rattle.forest.specs.Forest.{Forest}
use Rattle.forest.specs.Keys.{Keyed, keys}
use Rattle.forest.specs.Paths.{path_of}
use Rattle.plain_types.specs.declared.box_kind.BoxKind.{BoxKind}
use Rattle.plain_types.specs.declared.box_kind.BoxKind.TheVariants.{Marker, Before, After}
use Rattle.plain_types.specs.declared.node.Node.{Node}
use Rattle.generated_texts.specs.declared.entry.NodeEntry.{NodeEntry}
use Rattle.generated_texts.specs.Entries.{document_entries}
use Rattle.generated_texts.specs.References.{kept_at}
use Rattle.generated_texts.specs.StyleElements.{author_sheet}
use Rattle.edit_work.specs.KeyedSources.{KeyedSource}
use Rattle.changed_lines.specs.declared.changed_line.ChangedLine.{ChangedLine}
use Rattle.changed_lines.specs.ShownTexts.{shown_text}

-- both texts have the same characters, or neither is there
abbrev pub is_same_text : Option (List ℕ) → Option (List ℕ) → Bool
is_same_text (Some first) (Some second) = bytes_eq first second
is_same_text None None = true
is_same_text first second = false

-- An element at a path, of which this is kept before an edit and after it. Nothing is kept of one that was not there.
module _ (path : List ℕ) (before after : Option NodeEntry) where
  -- the line of a box that shows another text than before: it has the text of now, or none where the box is gone
  abbrev pub changed_line : BoxKind → List ChangedLine
  changed_line kind =
      cond (is_same_text (shown_text kind before) (shown_text kind after)) [] (record { path = path; kind = kind; text = shown_text kind after } ∷ [])

  -- those of its marker, its before box and its after box
  abbrev pub element_lines : List ChangedLine
  element_lines = changed_line Marker ++ (changed_line Before ++ changed_line After)

-- Such an element, wherever it stands.
module _ (before after : Option NodeEntry) where
  -- a box of this kind shows another text than before
  abbrev pub shows_other_text : BoxKind → Bool
  shows_other_text kind = not (is_same_text (shown_text kind before) (shown_text kind after))

  -- one of its boxes does
  abbrev pub shows_other : Bool
  shows_other = shows_other_text Marker || (shows_other_text Before || shows_other_text After)

-- The document after the edit, and what is kept of the elements before it and after it, by their keys.
module _ (document : Forest (Keyed Node)) (before after : ℕ → Option NodeEntry) where
  -- the changed lines of the node of this key
  abbrev pub lines_at : ℕ → List ChangedLine
  lines_at key = element_lines (path_of document key) (before key) (after key)

  -- all changed lines: element by element in tree order
  abbrev pub lines_between : List ChangedLine
  lines_between = flat_map lines_at (keys document)

-- what a fresh evaluation keeps of the element of this key; nothing of a text
abbrev pub entry_in : KeyedSource → ℕ → Option NodeEntry
entry_in source key = kept_at (document_entries (author_sheet source.sheet source.tree) source.tree) key

-- The lines that an edit of a document and its sheet changes. A node that stays keeps its key, and one that comes has
-- a key that no node had.
unfoldable pub changed_lines : KeyedSource → KeyedSource → List ChangedLine
changed_lines old new = lines_between new.tree (entry_in old) (entry_in new)
