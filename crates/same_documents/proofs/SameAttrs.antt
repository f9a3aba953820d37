-- Attributes that are the same by name stay so when one is set or unset.
use Rattle.std.proofs.Common.{◌≡◌, ℕ, List, [], ◌∷◌, true, false, cond, Some, None, bytes_eq, refl, sym, ap, ◌∙◌, inl, inr}
use Rattle.std.proofs.lemmas.Bool.{cases_Bool}
use Rattle.std.proofs.lemmas.Slice.Eq.{bytes_eq-Decides}
use Rattle.plain_types.specs.Attributes.{is_named, value_of}
use Rattle.plain_types.specs.declared.attr.Attr.{Attr}
use Rattle.plain_types.specs.declared.node.Node.{Node}
use Rattle.plain_types.specs.declared.node.Node.TheVariants.{Element, Text}
use Rattle.node_arena.specs.Copies.{is_element}
use Rattle.node_arena.specs.Edits.{set_attr, unset_attr, with_attr, without_attr}
use Rattle.same_documents.specs.Sameness.{IsSameNode}

abbrev pub attr_with : List ℕ → List ℕ → Attr
attr_with name value = record { name = name; value = value }

-- texts that are equal are so to the test, and the other way round
pub eq_is : (name other : List ℕ) → bytes_eq name other ≡ true → name ≡ other
eq_is name other e = let d = bytes_eq-Decides name other in d.0 e

pub is_eq : (name other : List ℕ) → name ≡ other → bytes_eq name other ≡ true
is_eq name other e = let d = bytes_eq-Decides name other in d.1 e

-- The value of a name, once another has this value, or none.

pub value_with : (other name value : List ℕ) (attrs : List Attr) → value_of other (with_attr name value attrs) ≡ cond (bytes_eq name other) (Some value) (value_of other attrs)
value_with other name value [] = elim (cases_Bool (bytes_eq name other)) [
  | inl e ↦ rw e refl
  | inr e ↦ rw e refl
]
value_with other name value (attr ∷ attrs) = elim (cases_Bool (is_named name attr)) [
  | inl e ↦ elim (cases_Bool (bytes_eq name other)) [
    | inl f ↦ rw (e, f) refl
    | inr f ↦ let its : bytes_eq attr.name other ≡ false = ap (λ n. bytes_eq n other) (eq_is attr.name name e) ∙ f in rw (e, f, its) refl
  ]
  | inr e ↦ elim (cases_Bool (bytes_eq attr.name other)) [
    | inl f ↦
        let differ : bytes_eq name other ≡ false = elim (cases_Bool (bytes_eq name other)) [
          | inl g ↦ absurd (let named : is_named name attr ≡ true = is_eq attr.name name (eq_is attr.name other f ∙ sym (eq_is name other g)) in cc)
          | inr g ↦ g
        ] in
        rw (e, f, differ) refl
    | inr f ↦ rw (e, f) (value_with other name value attrs)
  ]
]

pub value_without : (other name : List ℕ) (attrs : List Attr) → value_of other (without_attr name attrs) ≡ cond (bytes_eq name other) None (value_of other attrs)
value_without other name [] = elim (cases_Bool (bytes_eq name other)) [
  | inl e ↦ rw e refl
  | inr e ↦ rw e refl
]
value_without other name (attr ∷ attrs) = elim (cases_Bool (is_named name attr)) [
  | inl e ↦ elim (cases_Bool (bytes_eq name other)) [
    | inl f ↦ rw (e, f) (let more = value_without other name attrs in rw f at more)
    | inr f ↦
        let its : bytes_eq attr.name other ≡ false = ap (λ n. bytes_eq n other) (eq_is attr.name name e) ∙ f in
        rw (e, f, its) (let more = value_without other name attrs in rw f at more)
  ]
  | inr e ↦ elim (cases_Bool (bytes_eq attr.name other)) [
    | inl f ↦
        let differ : bytes_eq name other ≡ false = elim (cases_Bool (bytes_eq name other)) [
          | inl g ↦ absurd (let named : is_named name attr ≡ true = is_eq attr.name name (eq_is attr.name other f ∙ sym (eq_is name other g)) in cc)
          | inr g ↦ g
        ] in
        rw (e, f, differ) refl
    | inr f ↦ rw (e, f) (value_without other name attrs)
  ]
]

-- Nodes.

pub same_set : (name value : List ℕ) (node other : Node) → IsSameNode node other → IsSameNode (set_attr name value node) (set_attr name value other)
same_set name value (Element tag attrs) (Element other others) h =
    (h.0, (λ asked. value_with asked name value attrs ∙ ap (cond (bytes_eq name asked) (Some value)) (h.1 asked) ∙ sym (value_with asked name value others)))
same_set name value (Element tag attrs) (Text others) h = absurd h
same_set name value (Text characters) (Element other others) h = absurd h
same_set name value (Text characters) (Text others) h = h

pub same_unset : (name : List ℕ) (node other : Node) → IsSameNode node other → IsSameNode (unset_attr name node) (unset_attr name other)
same_unset name (Element tag attrs) (Element other others) h =
    (h.0, (λ asked. value_without asked name attrs ∙ ap (cond (bytes_eq name asked) None) (h.1 asked) ∙ sym (value_without asked name others)))
same_unset name (Element tag attrs) (Text others) h = absurd h
same_unset name (Text characters) (Element other others) h = absurd h
same_unset name (Text characters) (Text others) h = h

pub same_kind : (node other : Node) → IsSameNode node other → is_element node ≡ is_element other
same_kind (Element tag attrs) (Element other others) h = refl
same_kind (Element tag attrs) (Text others) h = absurd h
same_kind (Text characters) (Element other others) h = absurd h
same_kind (Text characters) (Text others) h = refl

pub same_node_refl : (node : Node) → IsSameNode node node
same_node_refl (Element tag attrs) = (refl, (λ asked. refl))
same_node_refl (Text characters) = refl

pub same_node_sym : (node other : Node) → IsSameNode node other → IsSameNode other node
same_node_sym (Element tag attrs) (Element other others) h = (sym h.0, (λ asked. sym (h.1 asked)))
same_node_sym (Element tag attrs) (Text others) h = absurd h
same_node_sym (Text characters) (Element other others) h = absurd h
same_node_sym (Text characters) (Text others) h = sym h

pub same_node_trans : (node other third : Node) → IsSameNode node other → IsSameNode other third → IsSameNode node third
same_node_trans (Element tag attrs) (Element other others) (Element last more) h g = (h.0 ∙ g.0, (λ asked. h.1 asked ∙ g.1 asked))
same_node_trans (Element tag attrs) (Element other others) (Text more) h g = absurd g
same_node_trans (Element tag attrs) (Text others) third h g = absurd h
same_node_trans (Text characters) (Element other others) third h g = absurd h
same_node_trans (Text characters) (Text others) (Element last more) h g = absurd g
same_node_trans (Text characters) (Text others) (Text more) h g = h ∙ g
