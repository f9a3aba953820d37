-- The first elements of ids: in a map, and in a document up to a node.
use Rattle.std.proofs.Common.{◌≡◌, ◌==◌, ◌+◌, ◌∙◌, ℕ, zero, suc, Bool, true, false, cond, List, [], ◌∷◌, map, slice_get, take, Option, Some, None, is_some, add-one, inl, inr, refl, sym, ap, arith, eqb-true, true≢false}
use Rattle.std.specs.Prelude.{codes, find, option_map, unwrap_or}
use Rattle.std.specs.List.{position_or_len}
use Rattle.std.specs.Map.{lookup}
use Rattle.std.specs.Option.{option_map_or, option_or}
use Rattle.std.specs.Str.{bytes_eq, chars, IsUtf8}
use Rattle.std.proofs.lemmas.Bool.{cases_Bool}
use Rattle.std.proofs.lemmas.Option.{none-some, same_Some}
use Rattle.std.proofs.lemmas.Slice.Eq.{bytes_eq-Decides}
use Rattle.indexmap.specs.IndexMap.{insert_entry}
use Rattle.forest.specs.Forest.{Forest, labels}
use Rattle.forest.specs.Keys.{HasDistinctKeys, Keyed}
use Rattle.forest.specs.Order.{next_in_order_of, place_of}
use Rattle.forest.specs.Spots.{IsLink, IsLive, Spot, keyed, label_of, spot_of}
use Rattle.forest.proofs.SpotLaws.{keyed-same, live-spot}
use Rattle.plain_types.specs.Attributes.{value_of}
use Rattle.plain_types.specs.declared.node.Node.{Node}
use Rattle.node_arena.specs.Nodes.{attr_of, node_attrs}
use Rattle.generated_texts.specs.References.{first_holder, has_id}
use Rattle.target_index.proofs.ViewLemmas.{inserted, is_asked, seen}
use Rattle.referring_elements.specs.ElementsById.{element_of, elements_of, if_holder}
use Rattle.referring_elements.proofs.HolderLemmas.{at_label, found, finds, same_key}
use Rattle.referring_elements.proofs.WalkLemmas.{place_is}

-- In a map.

or-some : (o rest : Option ℕ) → is_some o ≡ true → o ≡ option_or o rest
or-some None rest h = absurd (true≢false (sym h))
or-some (Some x) rest h = refl

pub or-none : (o : Option ℕ) → o ≡ option_or o None
or-none None = refl
or-none (Some x) = refl

as-it-is : (o : Option ℕ) → option_map (λ key. key) o ≡ o
as-it-is None = refl
as-it-is (Some x) = refl

no_some : {A : Type 0} (o : Option A) → is_some o ≡ false → o ≡ None
no_some None h = refl
no_some (Some a) h = absurd (true≢false h)

module _ (old : List (List ℕ × ℕ)) (name : List ℕ) (key : ℕ) (other : List ℕ) where
  same_name : bytes_eq other name ≡ true → element_of old other ≡ element_of old name
  same_name h = ap (element_of old) ((bytes_eq-Decides other name).0 h)

  -- an element is there already
  kept : is_some (element_of old name) ≡ true → element_of old other ≡ option_or (element_of old other) (cond (bytes_eq other name) (Some key) None)
  kept there = elim (cases_Bool (bytes_eq other name)) [
    | inl h ↦ rw h (or-some (element_of old other) (Some key) (ap is_some (same_name h) ∙ there))
    | inr h ↦ rw h (or-none (element_of old other))
  ]

  -- none is
  put : (new : List (List ℕ × ℕ)) → element_of old name ≡ None → element_of new other ≡ cond (bytes_eq other name) (Some key) (element_of old other)
      → element_of new other ≡ option_or (element_of old other) (cond (bytes_eq other name) (Some key) None)
  put new none puts = puts ∙ elim (cases_Bool (bytes_eq other name)) [
    | inl h ↦ rw (h, same_name h ∙ none) refl
    | inr h ↦ rw h (or-none (element_of old other))
  ]

module _ {K : Type 0} (bytes : K → List ℕ) (text : (k : K) → IsUtf8 (bytes k)) (entries : List (K × ℕ)) where
  pub looked_up : (query : List ℕ) → IsUtf8 query → element_of (elements_of bytes entries) (chars query) ≡ lookup (is_asked bytes query) entries
  looked_up query utf8 = seen bytes text (λ key. key) query utf8 entries ∙ as-it-is (lookup (is_asked bytes query) entries)

  pub stays : (query : List ℕ) → IsUtf8 query → (key : ℕ) → is_some (lookup (is_asked bytes query) entries) ≡ true → (other : List ℕ)
      → element_of (elements_of bytes entries) other ≡ option_or (element_of (elements_of bytes entries) other) (cond (bytes_eq other (chars query)) (Some key) None)
  stays query utf8 key there other = kept (elements_of bytes entries) (chars query) key other (ap is_some (looked_up query utf8) ∙ there)

  pub enters : (after : List (K × ℕ)) (name : K) (key : ℕ) → is_some (lookup (is_asked bytes (bytes name)) entries) ≡ false
      → after ≡ insert_entry (λ a b. bytes_eq (bytes a) (bytes b)) entries name key → (other : List ℕ)
      → element_of (elements_of bytes after) other ≡ option_or (element_of (elements_of bytes entries) other) (cond (bytes_eq other (chars (bytes name))) (Some key) None)
  enters after name key missing wrote other =
      put (elements_of bytes entries) (chars (bytes name)) key other (elements_of bytes after)
      (looked_up (bytes name) (text name) ∙ no_some (lookup (is_asked bytes (bytes name)) entries) missing)
      (ap (λ es. element_of (elements_of bytes es) other) wrote ∙ inserted bytes text (λ n. n) entries name key other)

-- In a document.

holds-attr : (id : List ℕ) (o : Option Node) → option_map_or (has_id id) o false ≡ option_map_or (bytes_eq id) (value_of (codes "id") (unwrap_or (option_map node_attrs o) [])) false
holds-attr id None = refl
holds-attr id (Some node) = refl

module _ (f : Forest (Keyed Node)) (q : ℕ) (other : List ℕ) where
  -- a node that has no id, and one that has this
  pub none-holds : None ≡ attr_of f q (codes "id") → if_holder f other q ≡ None
  none-holds h = ap (λ b. cond b (Some q) None) (holds-attr other (label_of f q) ∙ ap (λ o. option_map_or (bytes_eq other) o false) (sym h))

  pub some-holds : (id : List ℕ) → Some id ≡ attr_of f q (codes "id") → if_holder f other q ≡ cond (bytes_eq other id) (Some q) None
  some-holds id h = ap (λ b. cond b (Some q) None) (holds-attr other (label_of f q) ∙ ap (λ o. option_map_or (bytes_eq other) o false) (sym h))

-- the first of these nodes that is an element of an id
abbrev pub first_in : List (Keyed Node) → List ℕ → Option ℕ
first_in nodes id = option_map (λ (node : Keyed Node). node.key) (find (λ (node : Keyed Node). has_id id node.label) nodes)

-- what stands at the first place that passes
first-place : (test : ℕ → Bool) (ns : List (Keyed Node)) → slice_get ns (position_or_len test (map (λ (n : Keyed Node). n.key) ns)) ≡ find (λ (n : Keyed Node). test n.key) ns
first-place test [] = refl
first-place test (n ∷ ns) = elim (cases_Bool (test n.key)) [
  | inl h ↦ rw h refl
  | inr h ↦
      let place : ℕ = position_or_len test (map (λ (n : Keyed Node). n.key) ns) in
      let next : 1 + place ≡ suc place = omega arith in
      rw h (ap (slice_get (n ∷ ns)) next ∙ first-place test ns)
]

one-more : (id : List ℕ) (ns : List (Keyed Node)) (i : ℕ) (n : Keyed Node) → slice_get ns i ≡ Some n
    → first_in (take (suc i) ns) id ≡ option_or (first_in (take i ns) id) (cond (has_id id n.label) (Some n.key) None)
one-more id [] i n h = absurd (none-some n h)
one-more id (m ∷ ns) zero n h =
    let same : m ≡ n = same_Some m n h in
    elim (cases_Bool (has_id id n.label)) [
      | inl e ↦ rw (same, e) refl
      | inr e ↦ rw (same, e) refl
    ]
one-more id (m ∷ ns) (suc i) n h = elim (cases_Bool (has_id id m.label)) [
  | inl e ↦ rw e refl
  | inr e ↦ rw e (one-more id ns i n h)
]

past-end : (ns : List (Keyed Node)) (i : ℕ) → slice_get (map (λ (n : Keyed Node). n.key) ns) i ≡ None → take i ns ≡ ns
past-end [] zero h = refl
past-end [] (suc i) h = refl
past-end (n ∷ ns) zero h = absurd (none-some n.key (sym h))
past-end (n ∷ ns) (suc i) h = ap (λ rest. n ∷ rest) (past-end ns i h)

module _ (f : Forest (Keyed Node)) (d : HasDistinctKeys f) where
  node_at : (q : ℕ) (s : Spot Node) → spot_of f q ≡ Some s → slice_get (labels f) (place_of f q) ≡ Some (keyed q s.label)
  node_at q s at =
      let by_key : Keyed Node → Bool = λ n. n.key == q in
      let n = finds by_key f None [] q s at (same_key q) in
      let it = found by_key f None [] n.0 d n.1 in
      let own : n.0.key ≡ q = eqb-true n.0.key q it.passes in
      let label : n.0.label ≡ s.label = sym it.label ∙ ap (λ (s : Spot Node). s.label) (same_Some it.here s (sym it.at ∙ ap (λ k. spot_of f k) own ∙ at)) in
      first-place (λ k. k == q) (labels f) ∙ n.1 ∙ ap Some (keyed-same n.0 q s.label own label)

  module _ (q : ℕ) (live : IsLive f q) (id : List ℕ) where
    -- that of one node more
    first_more : first_in (take (place_of f q + 1) (labels f)) id ≡ option_or (first_in (take (place_of f q) (labels f)) id) (if_holder f id q)
    first_more =
        let s = live-spot f q live in
        ap (λ n. first_in (take n (labels f)) id) (add-one (place_of f q))
        ∙ one-more id (labels f) (place_of f q) (keyed q s.0.label) (node_at q s.0 s.1)
        ∙ ap (λ o. option_or (first_in (take (place_of f q) (labels f)) id) (cond (option_map_or (has_id id) o false) (Some q) None)) (sym (at_label f q s.0 s.1))

    pub next_first : (k : ℕ) → next_in_order_of f q ≡ Some k → first_in (take (place_of f k) (labels f)) id ≡ option_or (first_in (take (place_of f q) (labels f)) id) (if_holder f id q)
    next_first k h = ap (λ n. first_in (take n (labels f)) id) (place_is f (place_of f q + 1) k d h) ∙ first_more

    pub last_first : next_in_order_of f q ≡ None → first_holder f id ≡ option_or (first_in (take (place_of f q) (labels f)) id) (if_holder f id q)
    last_first h = sym (ap (λ ns. first_in ns id) (past-end (labels f) (place_of f q + 1) h)) ∙ first_more

  -- the first holder stands in the document
  pub first-live : (id : List ℕ) → IsLink f (first_holder f id)
  first-live id = by (find (λ (n : Keyed Node). has_id id n.label) (labels f)) refl
    where
      by : (o : Option (Keyed Node)) → find (λ (n : Keyed Node). has_id id n.label) (labels f) ≡ o → IsLink f (option_map (λ (n : Keyed Node). n.key) o)
      by None e = tt
      by (Some n) e =
          let it = found (λ (n : Keyed Node). has_id id n.label) f None [] n d e in
          rw it.at refl
