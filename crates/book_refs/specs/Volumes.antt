-- What a volume stands for (our own): its chapters, whose nodes have keys.
use Rattle.std.specs.Prelude.{ℕ, List, Option, refl}
use Rattle.std.specs.Coded.{Coded, code_by, coded×, coded_list, coded_ℕ}
use Rattle.std.specs.List.{position}
use Rattle.std.specs.Str.{bytes_eq}
use Rattle.forest.specs.Forest.{Forest, coded_forest}
use Rattle.forest.specs.Keys.{Keyed, coded_keyed, without_keys}
use Rattle.plain_types.specs.declared.node.Node.{Node}
use Rattle.book_definitions.specs.Chapters.{Chapter}
use Rattle.dirty_walk.specs.Books.{StyledDocument}
use Rattle.edit_work.specs.KeyedSources.{KeyedSource}
use Rattle.marker_engine.specs.Engines.{Source}

abbrev pub coded_chapter : Coded Node → Coded Chapter
coded_chapter node =
    code_by
    (List ℕ × (Forest (Keyed Node) × List ℕ))
    (coded× (coded_list coded_ℕ) (coded× (coded_forest (coded_keyed node)) (coded_list coded_ℕ)))
    (λ chapter. (chapter.name, (chapter.document, chapter.sheet)))
    (λ (name, rest). record { name = name; document = rest.0; sheet = rest.1 })
    (λ _. refl)

-- the chapter of this name whose document and sheet an engine stands for
abbrev pub evaluated_chapter : List ℕ → StyledDocument → Chapter
evaluated_chapter name styled = record { name = name; document = styled.tree; sheet = styled.sheet }

-- the document of a chapter without its keys, and its sheet
abbrev pub source_of : Chapter → Source
source_of chapter = record { tree = without_keys chapter.document; sheet = chapter.sheet }

-- the same with the keys
abbrev pub keyed_source : Chapter → KeyedSource
keyed_source chapter = record { tree = chapter.document; sheet = chapter.sheet }

-- the place of the chapter of this name, compared as written
abbrev pub place_named : List Chapter → List ℕ → Option ℕ
place_named volume name = position (λ (chapter : Chapter). bytes_eq name chapter.name) volume
