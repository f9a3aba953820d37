use Rattle.std.proofs.Common.{◌≡◌, ◌≤◌, ◌+◌, ◌*◌, map, take}
use Rattle.std.specs.List.{AllByRecursion}
use Rattle.book_definitions.specs.Chapters.{Chapter}
use Rattle.book_definitions.specs.Fresh.{chapter_source}
use Rattle.book_refs.specs.Given.{elements_given, given_source}
use Rattle.node_arena.specs.Document.{IsKeyedDocument}
use Rattle.book_refs.proofs.volume.Volume.begin.Given as goal

abbrev pub invariant-loop-chapter : goal.invariant-loop-chapter
invariant-loop-chapter g l = record {
  made : map chapter_source l.evaluated.items ≡ map given_source (take l.chapter-index l.chapter-items);
  documents : AllByRecursion (λ (chapter : Chapter). IsKeyedDocument chapter.document) l.evaluated.items;
  spent : l.steps ≤ l.fn.steps + 7 * elements_given (take l.chapter-index l.chapter-items);
}
