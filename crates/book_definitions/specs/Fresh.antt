-- Volumes of documents whose nodes have no keys (our own).
use Rattle.std.specs.Prelude.{ℕ, List, map}
use Rattle.forest.specs.Forest.{Forest}
use Rattle.forest.specs.Keys.{numbered, without_keys}
use Rattle.plain_types.specs.declared.node.Node.{Node}
use Rattle.dump_definitions.specs.Dump.{Line, dump}
use Rattle.book_definitions.specs.Chapters.{Chapter}
use Rattle.book_definitions.specs.Lines.{chapter_lines}

-- what a chapter is made of: its name, its document, and the text of its sheet
pub record ChapterSource : Type 0 where
  pub name : List ℕ
  pub tree : Forest Node
  pub sheet : List ℕ

-- that of a chapter whose nodes have keys
abbrev pub chapter_source : Chapter → ChapterSource
chapter_source chapter = record { name = chapter.name; tree = without_keys chapter.document; sheet = chapter.sheet }

-- the chapter, each of whose nodes has its place in tree order as its key
abbrev pub numbered_chapter : ChapterSource → Chapter
numbered_chapter source = record { name = source.name; document = numbered 0 source.tree; sheet = source.sheet }

-- the lines of a chapter of a volume
unfoldable pub fresh_chapter_lines : List ChapterSource → ChapterSource → List Line
fresh_chapter_lines volume own = chapter_lines (map numbered_chapter volume) (numbered_chapter own)

-- the dump of a fresh evaluation of a volume, of this chapter
abbrev pub fresh_chapter_dump : List ChapterSource → ChapterSource → List ℕ
fresh_chapter_dump volume own = dump (fresh_chapter_lines volume own)
