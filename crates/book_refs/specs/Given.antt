-- Of what a volume is made (our own).
use Rattle.std.specs.Prelude.{◌≢◌, ℕ, List, sum_by}
use Rattle.std.specs.List.{AllByRecursion, AllPairs}
use Rattle.book_definitions.specs.Chapters.{IsChapterName}
use Rattle.book_definitions.specs.Fresh.{ChapterSource}
use Rattle.book_refs.specs.declared.chapter.Chapter.{Chapter}
use Rattle.document_walk.specs.Elements.{element_count}
use Rattle.node_arena.specs.Document.{HasElementRoot}

-- what a chapter that is given is made of
abbrev pub given_source : Chapter → ChapterSource
given_source chapter = record { name = chapter.name; tree = chapter.document; sheet = chapter.sheet }

-- Chapters of which a volume can be made: each name can stand before a `#`, no two chapters have one name, and each root is
-- an element.
pub record MakeVolume (chapters : List Chapter) : Type 0 where
  pub names : AllByRecursion (λ (chapter : Chapter). IsChapterName chapter.name) chapters
  pub distinct : AllPairs (λ (first second : Chapter). first.name ≢ second.name) chapters
  pub roots : AllByRecursion (λ (chapter : Chapter). HasElementRoot chapter.document) chapters

-- how many elements their documents have, all together
abbrev pub elements_given : List Chapter → ℕ
elements_given chapters = sum_by (λ (chapter : Chapter). element_count chapter.document) chapters
