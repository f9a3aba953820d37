-- A book as the commands of its script so far leave it (our own).
use Rattle.std.specs.Prelude.{ℕ, List, [], ◌∷◌, ◌++◌, Option, Some, None, Result, Ok, Err, if◌then◌else◌, map, option_map, zip}
use Rattle.std.specs.Str.{bytes_eq}
use Rattle.book_definitions.specs.Fresh.{ChapterSource}
use Rattle.edit_inverses.specs.Versions.{Version, version_after}
use Rattle.forest.specs.Forest.{Forest}
use Rattle.plain_types.specs.declared.edit.Edit.{Edit}
use Rattle.plain_types.specs.declared.node.Node.{Node}
use Rattle.marker_cli.specs.declared.status.Status.{Status}
use Rattle.marker_cli.specs.declared.status.Status.TheVariants.{Usage}

-- a chapter of each document, under its name and the sheet of this text
abbrev pub chapters_of : List ℕ → List (List ℕ) → List (Forest Node) → List ChapterSource
chapters_of style names trees = map (λ (named : List ℕ × Forest Node). record { name = named.0; tree = named.1; sheet = style }) (zip names trees)

-- a chapter that is the present one, and those before it and after it
pub record OpenBook : Type 0 where
  pub before : List ChapterSource
  pub present : ChapterSource
  pub after : List ChapterSource

-- all its chapters, in their order
abbrev pub volume_of : OpenBook → List ChapterSource
volume_of book = book.before ++ book.present ∷ book.after

-- At first the first chapter is the present one. Words that name no document are of no form.
abbrev pub opened : List ChapterSource → Result OpenBook Status
opened [] = Err Usage
opened (first ∷ rest) = Ok (record { before = []; present = first; after = rest })

-- the chapter of this name, compared as written, is the present one; None where no chapter has it
abbrev pub opened_at : List ℕ → List ChapterSource → Option OpenBook
opened_at name [] = None
opened_at name (first ∷ rest) =
    if bytes_eq name first.name then Some (record { before = []; present = first; after = rest })
    else option_map (λ (book : OpenBook). record book { before = first ∷ book.before }) (opened_at name rest)

abbrev pub entered : List ℕ → OpenBook → Option OpenBook
entered name book = opened_at name (volume_of book)

-- the document of a chapter with its sheet, as a version of it
abbrev pub version_in : ChapterSource → Version
version_in chapter = record { document = chapter.tree; sheet = chapter.sheet }

-- an edit leaves the edited version of the present chapter, and the others as they are
abbrev pub edited_chapter : Edit → ChapterSource → ChapterSource
edited_chapter edit chapter =
    let version = version_after edit (version_in chapter) in record { name = chapter.name; tree = version.document; sheet = version.sheet }

abbrev pub edited_book : Edit → OpenBook → OpenBook
edited_book edit book = record book { present = edited_chapter edit book.present }
