-- How much work it is to show a chapter of a volume (our own): in elements, and in pieces with urls.
use Rattle.std.specs.Prelude.{ℕ, ◌+◌, List, Option, count_by, map, sum_by}
use Rattle.std.specs.Option.{option_map_or}
use Rattle.forest.specs.Forest.{weigh}
use Rattle.forest.specs.Keys.{Keyed}
use Rattle.plain_types.specs.declared.node.Node.{Node}
use Rattle.content_eval.specs.declared.generated.Piece.{Piece}
use Rattle.box_eval.specs.declared.element_record.ElementRecord.{ElementRecord}
use Rattle.box_eval.specs.declared.made.Made.{Made}
use Rattle.box_pieces.specs.BoxPieces.{has_url}
use Rattle.generated_texts.specs.References.{kept_at}
use Rattle.book_definitions.specs.Aims.{target}
use Rattle.book_definitions.specs.Chapters.{Chapter, chapter_records}
use Rattle.book_definitions.specs.Fresh.{ChapterSource, numbered_chapter}
use Rattle.book_definitions.specs.Texts.{url_of}

-- how many pieces of a box have a url
abbrev pub urls_in : Option Made → ℕ
urls_in made = option_map_or (λ (made : Made). count_by has_url made.pieces) made 0

-- how many pieces of an element's boxes have one
abbrev pub urls_at : ElementRecord → ℕ
urls_at element = urls_in element.marker + (urls_in element.before + urls_in element.after)

-- how many have one at this element
abbrev pub urls_there : Chapter × ℕ → ℕ
urls_there there = option_map_or urls_at (kept_at (chapter_records there.0) there.1) 0

module _ (volume : List Chapter) (own : Chapter) where
  -- of a url of a chapter: one, and one for each piece with a url in the boxes of the element at which it aims
  abbrev pub url_work : List ℕ → ℕ
  url_work url = 1 + option_map_or urls_there (target volume own url) 0

  -- of a piece, a box, and an element, for which one comes on top
  abbrev pub piece_work : Piece → ℕ
  piece_work refers = option_map_or url_work (url_of refers) 0

  abbrev pub box_work : Made → ℕ
  box_work made = sum_by piece_work made.pieces

  abbrev pub element_work : ElementRecord → ℕ
  element_work element =
      1 + (option_map_or box_work element.marker 0 + (option_map_or box_work element.before 0 + option_map_or box_work element.after 0))

  -- of all elements of the chapter
  abbrev pub chapter_work : ℕ
  chapter_work = weigh (λ (node : Keyed Node). option_map_or element_work (kept_at (chapter_records own) node.key) 0) own.document

-- the same of a chapter of a volume whose nodes have no keys
abbrev pub fresh_chapter_work : List ChapterSource → ChapterSource → ℕ
fresh_chapter_work volume own = chapter_work (map numbered_chapter volume) (numbered_chapter own)
