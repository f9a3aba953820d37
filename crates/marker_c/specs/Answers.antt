-- What an answer of a call says (our own). A document of C is an open one, or none where it is closed.
use Rattle.std.specs.Prelude.{◌≡◌, ◌-◌, ◌++◌, ℕ, List, [], Option, Some, None, length, take, drop, min, slice_get, encode_utf8_all, is_none}
use Rattle.std.specs.Option.{option_map_or}
use Rattle.std.specs.Str.{IsUtf8}
use Rattle.std.specs.Str.Lossy.{utf8_valid_len}
use Rattle.changed_lines.specs.Changes.{changed_lines}
use Rattle.changed_lines.specs.declared.changed_line.ChangedLine.{ChangedLine}
use Rattle.dirty_walk.specs.Books.{keyed_source}
use Rattle.document_walk.specs.Elements.{element_count, one_where}
use Rattle.generated_texts.specs.Lines.{document_lines, fresh_dump}
use Rattle.marker_engine.specs.Census.{box_count, saturated}
use Rattle.marker_engine.specs.Engines.{source_of}
use Rattle.node_arena.specs.Document.{IsKeyedDocument}
use Rattle.plain_types.specs.declared.box_kind.BoxKind.{BoxKind}
use Rattle.plain_types.specs.declared.box_kind.BoxKind.TheVariants.{Element, Marker, Before, After}
use Rattle.plain_types.specs.declared.edit.Edit.TheVariants.{ReplaceSheet}
use Rattle.xml_definitions.specs.Texts.{IsDocumentText}
use Rattle.marker_session.specs.Lines.{DoesLine}
use Rattle.marker_session.specs.Sessions.{Does, OpenDocument, all_lines, listed_after}
use Rattle.marker_session.specs.declared.listing.Listing.{Listing}
use Rattle.marker_c.specs.declared.answer.Answer.{Answer}
use Rattle.marker_c.specs.declared.answer.Counts.{Counts}
use Rattle.marker_c.specs.declared.answer.Line.{Line}
use Rattle.marker_c.specs.Codes.{not_utf8}

-- Documents.

-- the document is open, and this holds of it
abbrev pub IsOpen : (OpenDocument → Type 0) → Option OpenDocument → Type 0
IsOpen P (Some document) = P document
IsOpen P None = ⊥

-- the document was open and is open, and this holds between then and now
abbrev pub StaysOpen : (OpenDocument → OpenDocument → Type 0) → Option OpenDocument → Option OpenDocument → Type 0
StaysOpen R (Some old) (Some new) = R old new
StaysOpen R old new = ⊥

-- a document that was opened from these two texts
pub record IsOpened (xhtml css : List ℕ) (document : OpenDocument) : Type 0 where
  pub tree : IsDocumentText xhtml (source_of document.styled).tree
  pub sheet : document.styled.sheet ≡ css
  pub keys : IsKeyedDocument document.styled.tree
  pub listed : document.listed ≡ all_lines document.styled
  pub shown : document.shown ≡ []

-- the line was done, and its changed lines are listed, or none
pub record IsApplied (line : List ℕ) (listing : Listing) (old new : OpenDocument) : Type 0 where
  pub done : DoesLine line old.styled new.styled
  pub listed : new.listed ≡ listed_after listing (changed_lines (keyed_source old.styled) (keyed_source new.styled))
  pub shown : new.shown ≡ old.shown

-- so is the sheet replaced
pub record IsRestyled (css : List ℕ) (listing : Listing) (old new : OpenDocument) : Type 0 where
  pub done : Does (ReplaceSheet css) old.styled new.styled
  pub listed : new.listed ≡ listed_after listing (changed_lines (keyed_source old.styled) (keyed_source new.styled))
  pub shown : new.shown ≡ old.shown

-- all lines are listed now
pub record IsListed (old new : OpenDocument) : Type 0 where
  pub listed : new.listed ≡ all_lines old.styled
  pub styled : new.styled ≡ old.styled
  pub shown : new.shown ≡ old.shown

-- the dump is kept now
pub record IsDumped (old new : OpenDocument) : Type 0 where
  pub shown : new.shown ≡ fresh_dump old.styled.sheet (source_of old.styled).tree
  pub styled : new.styled ≡ old.styled
  pub listed : new.listed ≡ old.listed

-- Answers.

-- these bytes are no text; the answer says which of the call's texts they are, and how long their longest front is that is one
pub record IsNotUtf8 (which : ℕ) (bytes : List ℕ) (answer : Answer) : Type 0 where
  pub code : answer.code ≡ not_utf8
  pub line : answer.line ≡ which
  pub column : answer.column ≡ utf8_valid_len bytes
  pub bad : ¬ (IsUtf8 bytes)

-- the answer has no place
abbrev pub HasNoPlace : Answer → Type 0
HasNoPlace answer = (answer.line ≡ 0) × (answer.column ≡ 0)

-- The list.

-- the lines that are listed; a closed document has none
abbrev pub listed_in : Option OpenDocument → List ChangedLine
listed_in document = option_map_or (λ (open_one : OpenDocument). open_one.listed) document []

-- the dump that is kept; a closed document has none
abbrev pub shown_in : Option OpenDocument → List ℕ
shown_in document = option_map_or (λ (open_one : OpenDocument). open_one.shown) document []

abbrev pub kind_number : BoxKind → ℕ
kind_number Element = 0
kind_number Marker = 1
kind_number Before = 2
kind_number After = 3

-- the bytes of a line's text; a box that is gone has none
abbrev pub bytes_of : ChangedLine → List ℕ
bytes_of line = option_map_or encode_utf8_all line.text []

-- a line as C sees it
abbrev pub line_of : ChangedLine → Line
line_of line = record { kind = kind_number line.kind; is_gone = one_where (is_none line.text); depth = length line.path; length = length (bytes_of line) }

abbrev pub no_line : Line
no_line = record { kind = 0; is_gone = 0; depth = 0; length = 0 }

-- the line of an index, its path and the bytes of its text; past the end there is none
abbrev pub line_at : List ChangedLine → ℕ → Line
line_at lines index = option_map_or line_of (slice_get lines index) no_line

abbrev pub path_at : List ChangedLine → ℕ → List ℕ
path_at lines index = option_map_or (λ (line : ChangedLine). line.path) (slice_get lines index) []

abbrev pub bytes_at : List ChangedLine → ℕ → List ℕ
bytes_at lines index = option_map_or bytes_of (slice_get lines index) []

-- Buffers of C.

-- what a buffer holds once items are read into it from an offset: those that are there and fit, and then what was there before
abbrev pub filled : List ℕ → ℕ → List ℕ → List ℕ
filled items offset buffer = take (length buffer) (drop offset items) ++ drop (length items - offset) buffer

-- how many that is
abbrev pub count_filled : List ℕ → ℕ → List ℕ → ℕ
count_filled items offset buffer = min (length items - offset) (length buffer)

-- Numbers.

-- how much there is of a document; a closed one has nothing
abbrev pub counts_of : OpenDocument → Counts
counts_of document =
    let source = source_of document.styled in
    record { elements = saturated (element_count source.tree); boxes = saturated (box_count source.sheet source.tree); lines = saturated (length (document_lines source.sheet source.tree)) }

abbrev pub no_counts : Counts
no_counts = record { elements = 0; boxes = 0; lines = 0 }

abbrev pub counts_in : Option OpenDocument → Counts
counts_in document = option_map_or counts_of document no_counts
