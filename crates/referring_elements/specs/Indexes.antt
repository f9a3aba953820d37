-- What an index tells of a document: which elements hold an id (DOM, 4.9), and which refer to one (CSS Generated Content 3,
-- 2.6).
use Rattle.std.specs.Prelude.{◌≡◌, ℕ, Bool, true, false, List}
use Rattle.std.specs.List.{list_any}
use Rattle.std.specs.Option.{option_map_or}
use Rattle.std.specs.Str.{bytes_eq}
use Rattle.forest.specs.Forest.{Forest}
use Rattle.forest.specs.Keys.{Keyed}
use Rattle.forest.specs.Spots.{IsLive, label_of}
use Rattle.plain_types.specs.declared.node.Node.{Node}
use Rattle.generated_texts.specs.References.{has_id}
use Rattle.edit_work.specs.KeyedSources.{is_among}
use Rattle.target_index.specs.declared.index.Index.{Index}
use Rattle.target_index.specs.Holders.{is_holder, is_reference}
use Rattle.reference_reach.specs.ChangedTargets.{Evaluated, references_at}

-- the node of this key is an element of this id
abbrev pub holds_id : Forest (Keyed Node) → List ℕ → ℕ → Bool
holds_id document id key = option_map_or (has_id id) (label_of document key) false

-- the index has the document's elements as holders of their ids, and no others
abbrev pub IsIndexOf : Index → Forest (Keyed Node) → Type 0
IsIndexOf index document = (id : List ℕ) (key : ℕ) → is_holder index id key ≡ holds_id document id key

-- a box of the element refers to the id
abbrev pub refers_to : Evaluated → List ℕ → ℕ → Bool
refers_to document id key = list_any (bytes_eq id) (references_at document key)

-- the index has the elements of which this is said with the ids to which they refer, and no others
abbrev pub TellsReferences : Index → Evaluated → Type 0
TellsReferences index document = (id : List ℕ) (key : ℕ) → is_reference index id key ≡ refers_to document id key

-- each of these elements stands in the document
abbrev pub AreLive : Forest (Keyed Node) → List ℕ → Type 0
AreLive document keys = (key : ℕ) → is_among keys key ≡ true → IsLive document key

-- and so does each element that refers to an id
abbrev pub AreReferencesLive : Index → Forest (Keyed Node) → Type 0
AreReferencesLive index document = (id : List ℕ) (key : ℕ) → is_reference index id key ≡ true → IsLive document key
