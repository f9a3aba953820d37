-- What a book stands for, and what it keeps (our own).
use Rattle.std.specs.Prelude.{◌≡◌, ◌<◌, ℕ, Bool, true, List, Option, Some, None, IfSome, IsSome, refl}
use Rattle.std.specs.Ordering.{nat_cmp}
use Rattle.std.specs.FinMap.{FinMap, code, get}
use Rattle.std.specs.Coded.{Coded, code_by, coded×, coded_bool, coded_list, coded_ℕ}
use Rattle.forest.specs.Forest.{Forest, coded_forest}
use Rattle.forest.specs.Keys.{Keyed, coded_keyed}
use Rattle.plain_types.specs.declared.node.Node.{Node}
use Rattle.plain_types.specs.declared.sheet.Sheet.{Sheet}
use Rattle.generated_texts.specs.StyleElements.{author_sheet}
use Rattle.edit_work.specs.KeyedSources.{KeyedSource}
use Rattle.started_walk.specs.declared.counting.Counting.{Counting}
use Rattle.started_walk.specs.Countings.{Counts}
use Rattle.node_arena.specs.declared.reversal.Reversal.{Reversal}
use Rattle.node_arena.specs.Document.{Document}
use Rattle.node_arena.specs.Nodes.{name_of}
use Rattle.node_arena.specs.Reversals.{IsCommitted, IsReversal, IsSettled}
use Rattle.generated_texts.specs.declared.entry.NodeEntry.{NodeEntry}
use Rattle.generated_texts.specs.Documents.{agent_sheet}
use Rattle.generated_texts.specs.Entries.{document_entries}
use Rattle.generated_texts.specs.References.{kept_at}
use Rattle.snapshot_board.specs.Records.{Records}
use Rattle.target_index.specs.declared.index.Index.{Index}
use Rattle.dirty_walk.specs.declared.document_styles.DocumentStyles.{DocumentStyles}
use Rattle.kept_elements.specs.declared.kept.Kept.{Kept}
use Rattle.kept_elements.specs.Changes.{entry_at}
use Rattle.dirty_walk.specs.DocumentStyles.{document_styles}
use Rattle.kept_elements.specs.Evaluations.{document_kept, evaluated_document}
use Rattle.referring_elements.specs.Indexes.{IsIndexOf, TellsReferences}

-- a document whose nodes have keys, the text of its style sheet, whether they are settled, which is that no edit is
-- planned, and what is kept of the document's elements under their keys
pub record StyledDocument : Type 0 where
  pub tree : Forest (Keyed Node)
  pub sheet : List ℕ
  pub settled : Bool
  pub kept : FinMap nat_cmp Kept

abbrev pub coded_styled_document : Coded Node → Coded Kept → Coded StyledDocument
coded_styled_document node kept =
    code_by
    (Forest (Keyed Node) × (List ℕ × (Bool × FinMap nat_cmp Kept)))
    (coded× (coded_forest (coded_keyed node)) (coded× (coded_list coded_ℕ) (coded× coded_bool (code coded_ℕ kept))))
    (λ styled. (styled.tree, (styled.sheet, (styled.settled, styled.kept))))
    (λ (tree, rest). record { tree = tree; sheet = rest.0; settled = rest.1.0; kept = rest.1.1 })
    (λ _. refl)

-- the document of a book and the text of its sheet
abbrev pub keyed_source : StyledDocument → KeyedSource
keyed_source styled = record { tree = styled.tree; sheet = styled.sheet }

-- the entry of the element of this key by a fresh evaluation; a text has none
abbrev pub fresh_entry : StyledDocument → ℕ → Option NodeEntry
fresh_entry styled key = kept_at (document_entries (author_sheet styled.sheet styled.tree) styled.tree) key

-- the entries are those of a fresh evaluation
abbrev pub Keeps : StyledDocument → Type 0
Keeps styled = (key : ℕ) → entry_at styled.kept key ≡ fresh_entry styled key

-- all that a fresh evaluation keeps of the element of this key; nothing of a text
abbrev pub fresh_kept : StyledDocument → ℕ → Option Kept
fresh_kept styled key = kept_at (document_kept (author_sheet styled.sheet styled.tree) styled.tree) key

-- all that is kept is that of a fresh evaluation
abbrev pub KeepsAll : StyledDocument → Type 0
KeepsAll styled = (key : ℕ) → get styled.kept key ≡ fresh_kept styled key

-- the keys in use are those of the document's nodes and, while an edit is planned, those that it had before
abbrev pub UsesItsKeys : Document → Option Reversal → Type 0
UsesItsKeys arena None = IsSettled arena
UsesItsKeys arena (Some reversal) = IsCommitted arena reversal

-- the keys of the document's elements are below a room
abbrev pub HasRoomFor : ℕ → Forest (Keyed Node) → Type 0
HasRoomFor room document = (key : ℕ) → IsSome (name_of document key) → key < room

-- A book stands for its arena's tree, its sheet's text, what its board holds, and whether no edit is planned. It has the
-- user agent's sheet, that document's styles and the index of its ids and references, room for what is kept of its elements,
-- and what is kept for the two walks of an edit. A settled one keeps what a fresh evaluation does, and uses the keys of its nodes
-- alone; an edit that is planned can be taken back.
pub record IsBook (arena : Document) (agent : Sheet) (styles : DocumentStyles) (board : Records Kept) (index : Index) (counting : Counting) (planned : Option Reversal) (styled : StyledDocument) : Type 0 where
  pub agent_is : agent ≡ agent_sheet
  pub styles_are : styles ≡ document_styles styled.sheet styled.tree
  pub kept : styled.settled ≡ true → KeepsAll styled
  pub room : HasRoomFor board.room styled.tree
  pub indexed : IsIndexOf index styled.tree
  pub refers : TellsReferences index (evaluated_document (author_sheet styled.sheet styled.tree) styled.tree)
  pub counts : Counts (keyed_source styled) counting
  pub back : IfSome planned (λ reversal. IsReversal arena reversal)
  pub keys : UsesItsKeys arena planned
