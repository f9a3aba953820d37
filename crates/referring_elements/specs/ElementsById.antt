-- Elements by ids, as a map keeps them (our own).
use Rattle.std.specs.Prelude.{◌≡◌, ℕ, List, Option, Some, None, cond}
use Rattle.std.specs.Map.{lookup}
use Rattle.std.specs.Str.{bytes_eq}
use Rattle.forest.specs.Forest.{Forest}
use Rattle.forest.specs.Keys.{Keyed}
use Rattle.plain_types.specs.declared.node.Node.{Node}
use Rattle.generated_texts.specs.References.{first_holder}
use Rattle.target_index.specs.Views.{by_id}
use Rattle.referring_elements.specs.Indexes.{holds_id}

abbrev pub element_of : List (List ℕ × ℕ) → List ℕ → Option ℕ
element_of elements id = lookup (bytes_eq id) elements

abbrev pub elements_of : {K : Type 0} → (K → List ℕ) → List (K × ℕ) → List (List ℕ × ℕ)
elements_of bytes entries = by_id bytes (λ key. key) entries

-- a node, where it is an element of this id
abbrev pub if_holder : Forest (Keyed Node) → List ℕ → ℕ → Option ℕ
if_holder document id key = cond (holds_id document id key) (Some key) None

-- of an id that has an element, it is the first of the document that has this id
abbrev pub NameFirst : List (List ℕ × ℕ) → Forest (Keyed Node) → Type 0
NameFirst elements document = (id : List ℕ) (key : ℕ) → element_of elements id ≡ Some key → first_holder document id ≡ Some key
