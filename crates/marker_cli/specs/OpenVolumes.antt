-- What a volume that is open at one of its chapters stands for, and what its calls answer (our own).
use Rattle.std.specs.Prelude.{◌≡◌, ℕ, suc, Bool, true, false, List, [], Option, Some, None, drop, get_or, map, refl, slice_set, take, unwrap_or}
use Rattle.std.specs.Coded.{Coded, code_by, coded×, coded_list, coded_ℕ}
use Rattle.book_definitions.specs.Chapters.{Chapter}
use Rattle.book_definitions.specs.Fresh.{ChapterSource, chapter_source}
use Rattle.book_refs.specs.Volumes.{coded_chapter, keyed_source, place_named}
use Rattle.edit_work.specs.KeyedSources.{KeyedSource}
use Rattle.forest.specs.Forest.{Empty}
use Rattle.plain_types.specs.declared.node.Node.{Node}
use Rattle.marker_cli.specs.OpenBooks.{OpenBook}

-- the chapters of a volume, whose nodes have keys, and the place of the present one
pub record OpenVolume : Type 0 where
  pub chapters : List Chapter
  pub place : ℕ

abbrev pub coded_open : Coded Node → Coded OpenVolume
coded_open node =
    code_by
    (List Chapter × ℕ)
    (coded× (coded_list (coded_chapter node)) coded_ℕ)
    (λ open_volume. (open_volume.chapters, open_volume.place))
    (λ pair. record { chapters = pair.0; place = pair.1 })
    (λ _. refl)

-- what stands for a chapter at a place past the last, where no book is open
abbrev pub no_chapter : ChapterSource
no_chapter = record { name = []; tree = Empty; sheet = [] }

-- the chapter at this place is the present one
abbrev pub open_at : List ChapterSource → ℕ → OpenBook
open_at chapters place = record { before = take place chapters; present = get_or chapters place no_chapter; after = drop (suc place) chapters }

-- the book that it stands for, whose nodes have no keys
abbrev pub book_of : OpenVolume → OpenBook
book_of volume = open_at (map chapter_source volume.chapters) volume.place

-- The present chapter, with its keys.

-- what stands for one at a place past the last
abbrev pub no_keyed_chapter : Chapter
no_keyed_chapter = record { name = []; document = Empty; sheet = [] }

abbrev pub present_chapter : OpenVolume → Chapter
present_chapter volume = get_or volume.chapters volume.place no_keyed_chapter

-- its document and its sheet
abbrev pub present_document : OpenVolume → KeyedSource
present_document volume = keyed_source (present_chapter volume)

-- the volume with another document and sheet there
abbrev pub with_document : OpenVolume → KeyedSource → OpenVolume
with_document volume source = record volume {
  chapters = slice_set volume.chapters volume.place (record { name = (present_chapter volume).name; document = source.tree; sheet = source.sheet });
}

-- the chapter of this name is the present one, where there is such a chapter
abbrev pub turned_to : List ℕ → OpenVolume → OpenVolume
turned_to name volume = record volume { place = unwrap_or (place_named volume.chapters name) volume.place }

-- what a book answers to a name, and what it is then, where the name leads to this book if to any
abbrev pub AnswersEnter : Bool → (book left : OpenBook) → Option OpenBook → Type 0
AnswersEnter true book left led = led ≡ Some left
AnswersEnter false book left led = (led ≡ None) × (left ≡ book)
