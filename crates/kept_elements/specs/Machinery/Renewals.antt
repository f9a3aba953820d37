-- What is told again of elements whose texts are made again, and what is known for these texts.
use Rattle.std.specs.Prelude.{◌≡◌, ◌≤◌, ◌+◌, ℕ, nat_eq, Bool, true, false, if◌then◌else◌, flat_map, length, List, [], ◌∷◌, ◌++◌, Option, Some, None, cond, option_copied, option_map}
use Rattle.std.specs.Borrow.{Bor}
use Rattle.std.specs.FinMap.{FinMap, get}
use Rattle.std.specs.HashMap as hash_map
use Rattle.std.specs.List.{IsDistinct, list_any}
use Rattle.std.specs.Option.{option_and_then, option_map_or}
use Rattle.std.specs.Ordering.{nat_cmp}
use Rattle.forest.specs.Forest.{Forest}
use Rattle.forest.specs.Keys.{Keyed}
use Rattle.plain_types.specs.declared.content.Part.{Part}
use Rattle.plain_types.specs.declared.content.Part.TheVariants.{Content, Before, After}
use Rattle.plain_types.specs.declared.counter.Counter.{Counter}
use Rattle.plain_types.specs.declared.counter_style.CounterStyle.{CounterStyle}
use Rattle.plain_types.specs.declared.node.Node.{Node}
use Rattle.content_eval.specs.Targets.{Known}
use Rattle.content_eval.specs.declared.generated.Piece.{Piece}
use Rattle.box_eval.specs.declared.made.Made.{Made}
use Rattle.box_pieces.specs.declared.box_pieces.BoxPieces.{BoxPieces}
use Rattle.generated_texts.specs.declared.entry.BoxText.{BoxText}
use Rattle.generated_texts.specs.declared.entry.NodeEntry.{NodeEntry}
use Rattle.generated_texts.specs.References.{first_holder, kept_at, known_characters}
use Rattle.edit_work.specs.KeyedSources.{is_among, references_of}
use Rattle.referring_elements.specs.Found.{is_named}
use Rattle.surroundings.specs.declared.told.Told.{Told}
use Rattle.kept_elements.specs.declared.flat_texts.FlatTexts.{FlatTexts}
use Rattle.kept_elements.specs.declared.kept.Kept.{Kept}
use Rattle.kept_elements.specs.declared.kept_change.KeptChange.{KeptChange}
use Rattle.kept_elements.specs.Changes.{AreChanges}
use Rattle.kept_elements.specs.Evaluations.{kept_of}
use Rattle.kept_elements.specs.Known.{all_flat_texts_of, flat_in}
use Rattle.kept_elements.specs.Renewals.{is_told}

-- Elements of which is told again.

-- a box of these pieces, of whose counters nothing is said
abbrev pub box_again : List Piece → Made
box_again pieces = record { set = []; pieces = pieces; changes = [] }

-- what is told again of an element of which this is kept, with the pieces of its boxes
abbrev pub told_again : Kept → BoxPieces → Told
told_again kept pieces = record {
  said = record {
    has_box = kept.entry.has_box;
    own = kept.entry.own;
    exit = kept.entry.exit;
    depth_before = kept.entry.depth_before;
    depth_after = kept.entry.depth_after;
    marker = option_map box_again pieces.marker;
    before = option_map box_again pieces.before;
    after = option_map box_again pieces.after;
  };
  walked = kept.walked;
  asks = false;
  starts = [];
  changes = [];
}

-- of the element of this key, where its pieces are kept, as what was read of elements says
abbrev pub again_by : (read : ℕ → Option Kept) → ℕ → List (ℕ × Told)
again_by read key = option_map_or (λ (kept : Kept). option_map_or (λ (pieces : BoxPieces). (key, told_again kept pieces) ∷ []) kept.pieces []) (read key) []

module _ (held : FinMap nat_cmp Kept) where
  abbrev pub again : ℕ → List (ℕ × Told)
  again key = again_by (get held) key

  -- with what is told of elements, what is told again of others
  abbrev pub with_again : List (ℕ × Told) → (keys : List ℕ) → List (ℕ × Told)
  with_again told keys = told ++ flat_map again keys

-- What is known of targets.

-- an element refers to this one
abbrev pub names : Forest (Keyed Node) → (key : ℕ) → Told → Bool
names document key told = list_any (is_named document key) (references_of told.said)

-- one of those does of which this is told
abbrev pub some_names : Forest (Keyed Node) → List (ℕ × Told) → (key : ℕ) → Bool
some_names document told key = list_any (λ (element : ℕ × Told). names document key element.1) told

-- Between one number of steps and another are no more than two lists have, each of its own choice: one of all elements of which
-- this is told, and one of all to which any of these refers.
abbrev pub IsWithinLists : Forest (Keyed Node) → List (ℕ × Told) → (old new : ℕ) → Type 0
IsWithinLists document told old new =
    (keys targets : List ℕ) → ((key : ℕ) → is_told told key ≡ true → is_among keys key ≡ true) → ((key : ℕ) → some_names document told key ≡ true → is_among targets key ≡ true)
    → new ≤ old + (length keys + length targets)

-- there are no more than a list has of all elements of which this is told
abbrev pub ListsAll : List (ℕ × Told) → ℕ → Type 0
ListsAll told count = (keys : List ℕ) → ((key : ℕ) → is_told told key ≡ true → is_among keys key ≡ true) → count ≤ length keys

-- what a map has under a key of what was read of elements
abbrev pub read_in : {S : Type 0} → hash_map.HashMap ℕ (Bor Kept) S → ℕ → Option Kept
read_in read = λ key. option_copied (hash_map.get nat_eq read key)

-- what is held of those of these elements
abbrev pub held_of : List ℕ → FinMap nat_cmp Kept → ℕ → Option Kept
held_of keys held key = if is_among keys key then get held key else None

-- that was read
abbrev pub AreRead : (keys : List ℕ) → (read : ℕ → Option Kept) → FinMap nat_cmp Kept → Type 0
AreRead keys read held = (key : ℕ) → read key ≡ held_of keys held key

-- the counters of an element, as it is told of, or else by what is held of it
abbrev pub its_counters : Option Told → Option Kept → Option (List Counter)
its_counters (Some told) kept = cond told.said.has_box (Some told.said.own) None
its_counters None (Some kept) = cond kept.entry.has_box (Some kept.entry.own) None
its_counters None None = None

-- the flat text of a box in what is kept of an element
abbrev pub kept_flat : NodeEntry → Part → Option (List ℕ)
kept_flat entry Content = None
kept_flat entry Before = option_map (λ (text : BoxText). text.flat) entry.before
kept_flat entry After = option_map (λ (text : BoxText). text.flat) entry.after

-- its flat texts, as they are made again, or else as they are held
abbrev pub its_flat : Option FlatTexts → Option Kept → Part → Option (List ℕ)
its_flat (Some texts) kept part = flat_in texts part
its_flat None (Some kept) part = kept_flat kept.entry part
its_flat None None part = None

-- what is known of targets where this is told of elements, these are flat texts, and this is held of others
abbrev pub renewed_known : Forest (Keyed Node) → (told : ℕ → Option Told) → (flats : ℕ → Option FlatTexts) → (held : ℕ → Option Kept) → Known
renewed_known document told flats held = record {
  counters = λ id. option_and_then (λ key. its_counters (told key) (held key)) (first_holder document id);
  characters = known_characters document;
  flat = λ id part. option_and_then (λ key. its_flat (flats key) (held key) part) (first_holder document id);
}

-- Entries.

-- what is kept of these elements, as they are told of
abbrev pub renewed_kept : List CounterStyle → Known → (ℕ → Option Told) → (keys : List ℕ) → List (ℕ × Kept)
renewed_kept table known told keys = flat_map (λ key. option_map_or (λ (one : Told). (key, kept_of table known one) ∷ []) (told key) []) keys

-- Where this is told, and told again, of those whose flat texts are made again, and of all whose texts are.
module _ (document : Forest (Keyed Node)) (table : List CounterStyle) (flat full : List (ℕ × Told)) where
  module _ (read : ℕ → Option Kept) where
    -- what flat texts rest on, where this was read of targets
    abbrev pub known_below : Known
    known_below = renewed_known document (kept_at full) (λ key. None) read

    -- and what full texts do
    abbrev pub known_again : Known
    known_again = renewed_known document (kept_at full) (kept_at (all_flat_texts_of table known_below flat)) read

-- these come to what is held
pub record IsRenewal (document : Forest (Keyed Node)) (table : List CounterStyle) (held : FinMap nat_cmp Kept) (flat full : List (ℕ × Told)) (changes : List (ℕ × KeptChange)) : Type 0 where
  pub keys : List ℕ
  pub read : ℕ → Option Kept
  pub once : IsDistinct nat_eq keys
  pub keys_are : (key : ℕ) → is_among keys key ≡ is_told full key
  pub read_are : (key : ℕ) → some_names document full key ≡ true → read key ≡ get held key
  pub changes_are : AreChanges held (renewed_kept table (known_again document table flat full read) (kept_at full) keys) changes
