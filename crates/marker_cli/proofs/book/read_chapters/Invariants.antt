use Rattle.std.proofs.Common.{◌≡◌, ◌+◌, List, drop, map, take}
use Rattle.std.specs.List.{AllByRecursion, AllZip}
use Rattle.std.specs.Str.{chars}
use Rattle.book_refs.specs.declared.chapter.Chapter.{Chapter}
use Rattle.node_arena.specs.Document.{HasElementRoot}
use Rattle.xhtml_reader.specs.Readings.{ReadsAsDocument}
use Rattle.marker_cli.specs.Documents.{Reading}
use Rattle.marker_cli.specs.Parts.{trees_of}
use Rattle.marker_cli.proofs.PartLemmas.{after_trees, chapter_name, chapter_tree}
use Rattle.marker_cli.proofs.book.read_chapters.Given as goal

abbrev pub invariant-loop-place : goal.invariant-loop-place
invariant-loop-place l = record {
  trees : (readings : List Reading) → AllZip ReadsAsDocument l.texts readings
      → trees_of 3 readings ≡ after_trees (map chapter_tree l.chapters) (trees_of (l.place + 3) (drop l.place readings));
  names : map chapter_name l.chapters ≡ take l.place l.names;
  sheets : AllByRecursion (λ (chapter : Chapter). chapter.sheet ≡ chars l.sheet) l.chapters;
  roots : AllByRecursion (λ (chapter : Chapter). HasElementRoot chapter.document) l.chapters;
}
