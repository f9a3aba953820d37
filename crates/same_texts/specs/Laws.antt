-- That documents which are the same but for the order of attributes have the same generated texts (our own).
use Rattle.std.specs.Prelude.{◌≡◌, ℕ, List, Option}
use Rattle.forest.specs.Forest.{Forest}
use Rattle.forest.specs.Keys.{Keyed}
use Rattle.plain_types.specs.declared.node.Node.{Node}
use Rattle.plain_types.specs.declared.selector.Selector.{Selector}
use Rattle.plain_types.specs.declared.sheet.Sheet.{Sheet}
use Rattle.plain_types.specs.declared.style.Style.{Style}
use Rattle.node_arena.specs.Nodes.{attr_of}
use Rattle.selector_match.specs.Matching.{matches}
use Rattle.generated_texts.specs.Documents.{document_evaluation, document_style}
use Rattle.generated_texts.specs.Entries.{document_entries}
use Rattle.generated_texts.specs.Lines.{document_lines, fresh_dump}
use Rattle.generated_texts.specs.References.{first_holder}
use Rattle.generated_texts.specs.StyleElements.{author_sheet, style_texts}
use Rattle.same_documents.specs.Sameness.{AreSame, AreSameKeyed}

-- a law of each two documents that are the same, keys and all
abbrev pub OfSameDocuments : (Forest (Keyed Node) → Forest (Keyed Node) → Type 0) → Type 0
OfSameDocuments law = (document other : Forest (Keyed Node)) → AreSameKeyed document other → law document other

-- The attributes of their nodes have the same values, by their names.
abbrev pub SameHaveSameAttrs : Type 0
SameHaveSameAttrs = OfSameDocuments (λ document other. (key : ℕ) (name : List ℕ) → attr_of document key name ≡ attr_of other key name)

-- The same elements match a selector.
abbrev pub SameAreMatchedAlike : Type 0
SameAreMatchedAlike = OfSameDocuments (λ document other. (key : ℕ) (selector : Selector) → matches document key selector ≡ matches other key selector)

-- Their style elements have the same texts, so the author's sheet is the same.
abbrev pub SameHaveSameStyleTexts : Type 0
SameHaveSameStyleTexts = OfSameDocuments (λ document other. style_texts document ≡ style_texts other)

abbrev pub SameHaveSameSheets : Type 0
SameHaveSameSheets = OfSameDocuments (λ document other. (sheet_text : List ℕ) → author_sheet sheet_text document ≡ author_sheet sheet_text other)

-- Their elements have the same styles under the same sheet.
abbrev pub SameHaveSameStyles : Type 0
SameHaveSameStyles = OfSameDocuments (λ document other. (author : Sheet) (key : ℕ) (parent : Option Style) → document_style author document key parent ≡ document_style author other key parent)

-- An id names the same element.
abbrev pub SameHaveSameHolders : Type 0
SameHaveSameHolders = OfSameDocuments (λ document other. (id : List ℕ) → first_holder document id ≡ first_holder other id)

-- The same is said of their elements, and the same kept.
abbrev pub SameHaveSameRecords : Type 0
SameHaveSameRecords = OfSameDocuments (λ document other. (author : Sheet) → document_evaluation author document ≡ document_evaluation author other)

abbrev pub SameHaveSameEntries : Type 0
SameHaveSameEntries = OfSameDocuments (λ document other. (author : Sheet) → document_entries author document ≡ document_entries author other)

-- And so documents that are the same have the same lines, and the same dump, under the sheet of one text.
abbrev pub SameHaveSameLines : Type 0
SameHaveSameLines = (sheet_text : List ℕ) (document other : Forest Node) → AreSame document other → document_lines sheet_text document ≡ document_lines sheet_text other

abbrev pub SameHaveSameDumps : Type 0
SameHaveSameDumps = (sheet_text : List ℕ) (document other : Forest Node) → AreSame document other → fresh_dump sheet_text document ≡ fresh_dump sheet_text other
