-- Laws of volumes that are shown (our own).
use Rattle.std.specs.Prelude.{◌≡◌, List, map}
use Rattle.forest.specs.Keys.{HasDistinctKeys}
use Rattle.book_definitions.specs.Chapters.{Chapter}
use Rattle.book_definitions.specs.Fresh.{chapter_source}
use Rattle.book_definitions.specs.Laws.{HaveDistinctKeys}
use Rattle.book_refs.specs.ShowWork.{chapter_work, fresh_chapter_work}

-- Whichever distinct keys the nodes of each document of a volume have, it is as much work to show a chapter as in the volume
-- of the documents without their keys.
abbrev pub WorkIsThatOfTheTrees : Type 0
WorkIsThatOfTheTrees =
    (volume : List Chapter) (own : Chapter) → HaveDistinctKeys volume → HasDistinctKeys own.document
    → chapter_work volume own ≡ fresh_chapter_work (map chapter_source volume) (chapter_source own)
