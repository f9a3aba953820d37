-- Laws of open documents.
use Rattle.std.specs.Prelude.{◌≡◌, IsPermutation, filter, map}
use Rattle.forest.specs.Keys.{HasDistinctKeys}
use Rattle.dump_definitions.specs.Dump.{Line}
use Rattle.generated_texts.specs.Lines.{document_lines}
use Rattle.changed_lines.specs.Listings.{shown_line, stands_first}
use Rattle.changed_lines.specs.declared.changed_line.ChangedLine.{ChangedLine}
use Rattle.dirty_walk.specs.Books.{StyledDocument}
use Rattle.marker_engine.specs.Engines.{source_of}
use Rattle.marker_session.specs.Sessions.{all_lines}

-- All lines that are listed of a document are the lines of its dump, each once.
abbrev pub AllLinesAreOfTheDump : Type 0
AllLinesAreOfTheDump =
    (styled : StyledDocument) → HasDistinctKeys styled.tree
    → IsPermutation (all_lines styled) (map shown_line (document_lines styled.sheet (source_of styled).tree))

-- But for those of after boxes, which are listed with the others of their element, they have the order of the dump.
abbrev pub AllLinesAreInOrder : Type 0
AllLinesAreInOrder =
    (styled : StyledDocument) → HasDistinctKeys styled.tree
    → filter (λ (line : ChangedLine). stands_first line.kind) (all_lines styled)
    ≡ map shown_line (filter (λ (line : Line). stands_first line.kind) (document_lines styled.sheet (source_of styled).tree))
