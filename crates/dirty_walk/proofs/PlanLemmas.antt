-- Books under edits that are planned.
use Rattle.std.proofs.Common.{◌≡◌, ◌<◌, ◌≤◌, ℕ, Bool, true, List, Option, Some, None, option_copied, unwrap_or, refl, ap, sym, subst, ◌∙◌, arith}
use Rattle.std.specs.Prelude.{is_some}
use Rattle.std.specs.Borrow.{Bor}
use Rattle.std.specs.FinMap.{FinMap, get}
use Rattle.std.specs.Ordering.{nat_cmp}
use Rattle.std.specs.Option.{is_none}
use Rattle.forest.specs.Forest.{Forest}
use Rattle.forest.specs.Keys.{Keyed}
use Rattle.plain_types.specs.declared.node.Node.{Node}
use Rattle.plain_types.specs.declared.sheet.Sheet.{Sheet}
use Rattle.node_arena.specs.declared.reversal.Reversal.{Reversal}
use Rattle.node_arena.specs.Document.{Document}
use Rattle.node_arena.specs.Nodes.{name_of}
use Rattle.kept_elements.specs.declared.kept.Kept.{Kept}
use Rattle.css_reader.specs.Features.{features}
use Rattle.generated_texts.specs.Documents.{counter_styles}
use Rattle.generated_texts.specs.StyleElements.{author_sheet, style_texts}
use Rattle.node_arena.specs.Reversals.{IsSettled}
use Rattle.dirty_walk.specs.declared.document_styles.DocumentStyles.{DocumentStyles}
use Rattle.dirty_walk.specs.DocumentStyles.{document_styles, read_styles}
use Rattle.snapshot_board.specs.Records.{Records}
use Rattle.started_walk.specs.declared.counting.Counting.{Counting}
use Rattle.started_walk.specs.Countings.{Counts}
use Rattle.target_index.specs.declared.index.Index.{Index}
use Rattle.target_index.specs.Holders.{is_holder, is_reference}
use Rattle.referring_elements.specs.Indexes.{IsIndexOf, holds_id}
use Rattle.dirty_walk.specs.Countings.{StaysCounted}
use Rattle.dirty_walk.specs.Books.{StyledDocument, fresh_kept, HasRoomFor, IsBook, KeepsAll, UsesItsKeys}
use Rattle.dirty_walk.proofs.ReferenceLemmas.{refers_where}

-- the value behind a reference that may be there, or else behind another
pub now-unwrap_or : {A : Type 0} (given : Option (Bor A)) (other : Bor A) → (unwrap_or given other).now ≡ unwrap_or (option_copied given) other.now
now-unwrap_or None other = refl
now-unwrap_or (Some given) other = refl

-- what its texts say is a document's
pub of_document : (styles : DocumentStyles) (text : List ℕ) (texts : List (List ℕ)) (tree : Forest (Keyed Node)) → styles ≡ read_styles text texts → texts ≡ style_texts tree
    → styles ≡ document_styles text tree
of_document styles text texts tree are is = are ∙ ap (read_styles text) is

-- the text of the sheet is the one that was read
pub its_text : (styles : DocumentStyles) (text : List ℕ) (texts : List (List ℕ)) → styles ≡ read_styles text texts → styles.sheet ≡ text
unfolding read_styles
its_text styles text texts are = ap (λ (styles : DocumentStyles). styles.sheet) are

-- styles that are a document's under a text are so under their own
pub under_its_text : (styles : DocumentStyles) (text : List ℕ) (tree : Forest (Keyed Node)) → styles ≡ document_styles text tree → styles ≡ document_styles styles.sheet tree
under_its_text styles text tree are = are ∙ ap (λ (text : List ℕ). document_styles text tree) (sym (its_text styles text (style_texts tree) are))

-- and what the texts say that they have
pub as_read : (styles : DocumentStyles) (text : List ℕ) (tree : Forest (Keyed Node)) → styles ≡ document_styles text tree → styles ≡ read_styles styles.sheet styles.texts
unfolding read_styles
as_read styles text tree are =
    are
    ∙ ap (λ (text : List ℕ). read_styles text (style_texts tree)) (sym (ap (λ (styles : DocumentStyles). styles.sheet) are))
    ∙ ap (read_styles styles.sheet) (sym (ap (λ (styles : DocumentStyles). styles.texts) are))

-- the sheet and the features of a document's styles
pub its_author : (styles : DocumentStyles) (text : List ℕ) (tree : Forest (Keyed Node)) → styles ≡ document_styles text tree → styles.author ≡ author_sheet text tree
unfolding read_styles
its_author styles text tree are = ap (λ (styles : DocumentStyles). styles.author) are

pub its_features : (styles : DocumentStyles) (text : List ℕ) (tree : Forest (Keyed Node)) → styles ≡ document_styles text tree → styles.features ≡ features (author_sheet text tree)
unfolding read_styles
its_features styles text tree are = ap (λ (styles : DocumentStyles). styles.features) are

pub its_table : (styles : DocumentStyles) (text : List ℕ) (tree : Forest (Keyed Node)) → styles ≡ document_styles text tree → styles.table ≡ counter_styles (author_sheet text tree)
unfolding read_styles
its_table styles text tree are = ap (λ (styles : DocumentStyles). styles.table) are

-- what a book of these stands for
abbrev pub stands : Forest (Keyed Node) → List ℕ → Option Reversal → FinMap nat_cmp Kept → StyledDocument
stands tree text planned entries = record { tree = tree; sheet = text; settled = is_none planned; kept = entries }

-- of equal documents and texts, fresh evaluations are equal
pub kept_where : (tree other_tree : Forest (Keyed Node)) (text other_text : List ℕ) (entries other : FinMap nat_cmp Kept) (settled other_settled : Bool)
    → other_tree ≡ tree → other_text ≡ text → other ≡ entries
    → KeepsAll (record { tree = tree; sheet = text; settled = settled; kept = entries })
    → KeepsAll (record { tree = other_tree; sheet = other_text; settled = other_settled; kept = other })
kept_where tree other_tree text other_text entries other settled other_settled same_tree same_text same kept key =
    ap (λ (held : FinMap nat_cmp Kept). get held key) same
    ∙ kept key
    ∙ ap (λ (text : List ℕ). fresh_kept (stands tree text None entries) key) (sym same_text)
    ∙ ap (λ (tree : Forest (Keyed Node)). fresh_kept (stands tree other_text None entries) key) (sym same_tree)

-- a book is settled on a document, a text and what it keeps where it has them and no edit is planned
pub is_settled : (tree other_tree : Forest (Keyed Node)) (text other_text : List ℕ) (entries other : FinMap nat_cmp Kept) (planned : Option Reversal)
    → other_tree ≡ tree → other_text ≡ text → other ≡ entries → planned ≡ None
    → stands other_tree other_text planned other ≡ record { tree = tree; sheet = text; settled = true; kept = entries }
is_settled tree other_tree text other_text entries other planned same_tree same_text same none =
    ap (λ t. stands t other_text planned other) same_tree
    ∙ ap (λ x. stands tree x planned other) same_text
    ∙ ap (λ m. stands tree text planned m) same
    ∙ ap (λ p. stands tree text p entries) none

-- the index of an equal document, with equal answers
pub index_where : (tree other : Forest (Keyed Node)) (index new : Index) → other ≡ tree → ((id : List ℕ) (key : ℕ) → is_holder new id key ≡ is_holder index id key) → IsIndexOf index tree → IsIndexOf new other
index_where tree other index new same answers indexed id key = answers id key ∙ indexed id key ∙ ap (λ (t : Forest (Keyed Node)). holds_id t id key) (sym same)

-- what is kept for both walks of its edits
pub counts_where : (tree other : Forest (Keyed Node)) (text : List ℕ) (counting : Counting) → other ≡ tree → Counts (record { tree = tree; sheet = text }) counting
    → Counts (record { tree = other; sheet = text }) counting
counts_where tree other text counting same counts = subst (λ (t : Forest (Keyed Node)). Counts (record { tree = t; sheet = text }) counting) (sym same) counts

-- and its room, or more
pub room_where : (tree other : Forest (Keyed Node)) (room more : ℕ) → other ≡ tree → room ≤ more → HasRoomFor room tree → HasRoomFor more other
room_where tree other room more same grown has key named =
    let low : key < room = has key (ap (λ (t : Forest (Keyed Node)). is_some (name_of t key)) (sym same) ∙ named) in
    omega (arith, low, grown)

-- Where no edit is planned, a book may have another arena of the same document, which uses its keys alone, another board
-- that holds the same and has as much room, another index of the same answers, and what else is kept of it for both walks.
pub same_document : (old new : Document) (agent : Sheet) (styles : DocumentStyles) (planned : Option Reversal) (board other : Records Kept) (index changed : Index) (counting again : Counting)
    → is_none planned ≡ true → new.tree ≡ old.tree → (IsSettled old → IsSettled new)
    → other.held ≡ board.held → board.room ≤ other.room → ((id : List ℕ) (key : ℕ) → is_holder changed id key ≡ is_holder index id key)
    → ((id : List ℕ) (key : ℕ) → is_reference changed id key ≡ is_reference index id key)
    → StaysCounted counting again
    → IsBook old agent styles board index counting planned (stands old.tree styles.sheet planned board.held)
    → IsBook new agent styles other changed again planned (stands new.tree styles.sheet planned other.held)
same_document old new agent styles (Some reversal) board other index changed counting again none same still held grown answers references stays book = cc
same_document old new agent styles None board other index changed counting again none same still held grown answers references stays book = record {
  agent_is = book.agent_is;
  styles_are = book.styles_are ∙ ap (λ (tree : Forest (Keyed Node)). document_styles styles.sheet tree) (sym same);
  kept = λ settled. kept_where old.tree new.tree styles.sheet styles.sheet board.held other.held true true same refl held (book.kept settled);
  room = room_where old.tree new.tree board.room other.room same grown book.room;
  indexed = index_where old.tree new.tree index changed same answers book.indexed;
  refers = refers_where old.tree new.tree styles.sheet index changed same references book.refers;
  counts = counts_where old.tree new.tree styles.sheet again same (stays (record { tree = old.tree; sheet = styles.sheet }) book.counts);
  back = tt;
  keys = still book.keys;
}

-- the keys of a book that no edit is planned for
pub its_keys : (arena : Document) (planned : Option Reversal) → is_none planned ≡ true → UsesItsKeys arena planned → IsSettled arena
its_keys arena (Some reversal) none keys = cc
its_keys arena None none keys = keys
