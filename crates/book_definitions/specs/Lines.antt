-- The lines of a chapter in a volume (our own): those of its document, with the texts that its boxes have in the volume.
use Rattle.std.specs.Prelude.{ℕ, List, map, option_map}
use Rattle.dump_definitions.specs.Dump.{Line, dump}
use Rattle.box_eval.specs.declared.element_record.ElementRecord.{ElementRecord}
use Rattle.generated_texts.specs.declared.entry.NodeEntry.{NodeEntry}
use Rattle.generated_texts.specs.Entries.{node_entry}
use Rattle.generated_texts.specs.Lines.{tree_lines}
use Rattle.generated_texts.specs.References.{kept_at}
use Rattle.book_definitions.specs.Chapters.{Chapter, chapter_records, chapter_styles}
use Rattle.book_definitions.specs.Texts.{known_in_volume, text_of_box}

module _ (volume : List Chapter) (own : Chapter) where
  -- what is kept of an element of which this is said: in its document, but for the texts of its boxes, which are those in the
  -- volume
  abbrev pub chapter_entry : ElementRecord → NodeEntry
  chapter_entry element = record (node_entry (chapter_styles own) (known_in_volume volume own) element) {
    marker = option_map (text_of_box volume own) element.marker;
    before = option_map (text_of_box volume own) element.before;
    after = option_map (text_of_box volume own) element.after;
  }

  -- what is kept of the elements of a chapter, under their keys
  abbrev pub chapter_entries : List (ℕ × NodeEntry)
  chapter_entries = map (λ (element : ℕ × ElementRecord). (element.0, chapter_entry element.1)) (chapter_records own)

  abbrev pub chapter_lines : List Line
  chapter_lines = tree_lines own.document (kept_at chapter_entries) own.document

  -- the dump of a fresh evaluation of the volume, of this chapter; the nodes have keys here
  abbrev pub chapter_dump : List ℕ
  chapter_dump = dump chapter_lines
