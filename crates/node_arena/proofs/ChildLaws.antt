-- Children that get their places, one after the other.
use Rattle.std.proofs.Common.{◌≡◌, ◌≢◌, ◌==◌, ◌<◌, ◌≤◌, ◌+◌, ◌⊎◌, ℕ, true, false, List, length, get_or, Option, Some, None, IsSomeAnd, vec_capacity, Contains, option_map, slice_get, refl, sym, ap, subst, ◌∙◌, inl, inr, arith, eqb-true}
use Rattle.std.proofs.lemmas.Bool.{eqb-false}
use Rattle.std.proofs.lemmas.Option.{same_Some, slice_get_within, slice_get-get_or, get_or_from_slice_get}
use Rattle.slab.specs.Slab.{Slab, get}
use Rattle.node_arena.specs.declared.entry.Entry.{Entry}
use Rattle.node_arena.specs.Entries.{Links, links_of, links_in}
use Rattle.node_arena.specs.Children.{list_of, listed, AreOnce, HasRoom, with_place, with_list, Places, Lists, Numbers, Hangs}

pub same-or-other : (a b : ℕ) → (a ≡ b) ⊎ (a ≢ b)
same-or-other a b = elim (a == b) as (λ t. (a == b) ≡ t → (a ≡ b) ⊎ (a ≢ b)) [
  | true ↦ λ e. inl (eqb-true a b e)
  | false ↦ λ e. inr (eqb-false a b e)
] refl

-- before an index, or at it
below-or-at : (i k : ℕ) → i < k + 1 → (i < k) ⊎ (i ≡ k)
below-or-at i k low = elim (same-or-other i k) [ inl e ↦ inr e | inr ne ↦ inl (omega arith) ]

module _ (old now new : ℕ → Option Links) (parent : ℕ) where
  listed-same : (o p : Option Links) → (position : ℕ) → p ≡ option_map (with_place parent position) o → list_of p ≡ list_of o
  listed-same None p position e = rw e refl
  listed-same (Some links) p position e = rw e refl

  -- a place changes no list
  pub listed-places : (child position key : ℕ) → Places now new child parent position → listed new key ≡ listed now key
  listed-places child position key h = elim (same-or-other key child) [
    | inl e ↦ subst (λ k. listed new k ≡ listed now k) (sym e) (listed-same (now child) (new child) position h.changed)
    | inr ne ↦ rw (h.others key ne) refl
  ]

  -- no child yet
  pub numbers-none : (children : List ℕ) (from : ℕ) → Numbers old old parent children from from
  numbers-none children from = record { placed = λ index child low high at. absurd (omega arith); others = λ key none. refl }

  -- one child more
  pub numbers-more : (children : List ℕ) (from k child : ℕ) → AreOnce children → Numbers old now parent children from k → from ≤ k → slice_get children k ≡ Some child → Places now new child parent k → Numbers old new parent children from (k + 1)
  numbers-more children from k child once h low is p = record {
    placed = λ index other above below at. elim (below-or-at index k below) [
      | inl before ↦
          let differ : other ≢ child = λ e. absurd (let same : index ≡ k = once index k other at (is ∙ ap (λ x. Some x) (sym e)) in omega arith) in
          p.others other differ ∙ h.placed index other above before at
      | inr e ↦
          let key : other ≡ child = same_Some other child (sym at ∙ ap (slice_get children) e ∙ is) in
          let unplaced : now child ≡ old child = h.others child (λ i a b c. absurd (let same : i ≡ k = once i k child c is in omega arith)) in
          ap new key ∙ p.changed ∙ ap (option_map (with_place parent k)) unplaced ∙ rw (e, key) refl
    ];
    others = λ key none.
        let differ : key ≢ child = λ e. none k low (omega arith) (is ∙ ap (λ x. Some x) (sym e)) in
        p.others key differ ∙ h.others key (λ index above below. none index above (omega arith));
  }

  -- all children
  pub numbers-all : (children : List ℕ) (from k : ℕ) → length children ≤ k → Numbers old now parent children from k → Numbers old now parent children from (length children)
  numbers-all children from k all h = record {
    placed = λ index child above below at. h.placed index child above (omega arith) at;
    others = λ key none. h.others key (λ index above below at. none index above (slice_get_within children index key at) at);
  }

  listed-list : (o p : Option Links) → (children : List ℕ) (links : Links) → o ≡ Some links → p ≡ option_map (with_list children) o → list_of p ≡ children
  listed-list o p children links is e = rw (e, is) refl

  -- an entry that is there then has the list
  pub lists-listed : (children : List ℕ) (links : Links) → old parent ≡ Some links → Lists old now parent children → listed now parent ≡ children
  lists-listed children links is h = listed-list (old parent) (now parent) children links is h.changed

  -- the list, and then the places
  pub hangs : (children : List ℕ) (from : ℕ) (links : Links) → old parent ≡ Some links → Lists old now parent children → Numbers now new parent (listed now parent) from (length (listed now parent)) → ((index : ℕ) → slice_get children index ≢ Some parent) → Hangs old new parent children from
  hangs children from links is l n below =
      let all : listed now parent ≡ children = lists-listed children links is l in
      let h : Numbers now new parent children from (length children) = subst (λ ks. Numbers now new parent ks from (length ks)) all n in
      record {
        changed = h.others parent (λ index above within. below index) ∙ l.changed;
        placed = λ index child above at.
            let differ : child ≢ parent = λ e. below index (at ∙ ap (λ x. Some x) e) in
            h.placed index child above (slice_get_within children index child at) at ∙ ap (option_map (with_place parent index)) (l.others child differ);
        others = λ key differ none. h.others key (λ index above within. none index above) ∙ l.others key differ;
      }

-- an entry that lists a child, or has room for one, is there

some-list : (o : Option Links) (index : ℕ) → index < length (list_of o) → (links : Links) × (o ≡ Some links)
some-list None index low = absurd (omega arith)
some-list (Some links) index low = (links, refl)

pub listing-there : (at : ℕ → Option Links) (parent index : ℕ) → index < length (listed at parent) → (links : Links) × (at parent ≡ Some links)
listing-there at parent index low = some-list (at parent) index low

some-room : (o : Option Entry) → IsSomeAnd o (λ (entry : Entry). length entry.children.items < vec_capacity entry.children) → (links : Links) × (option_map links_of o ≡ Some links)
some-room None h = absurd h
some-room (Some entry) h = (links_of entry, refl)

pub room-there : (nodes : Slab Entry) (parent : ℕ) → HasRoom nodes parent → (links : Links) × (links_in nodes parent ≡ Some links)
room-there nodes parent h = some-room (get nodes parent) h

-- Keys that are looked for by their index in a list, one after the other.

pub contained : (keys : List ℕ) (key : ℕ) → Contains keys key → (at : ℕ) × (at < length keys) × (slice_get keys at ≡ Some key)
contained keys key h = (h.0, h.1, slice_get-get_or keys h.0 key h.1 ∙ ap (λ x. Some x) h.2)

pub contains : (keys : List ℕ) (at key : ℕ) → slice_get keys at ≡ Some key → Contains keys key
contains keys at key is = (at, slice_get_within keys at key is, get_or_from_slice_get keys at key key is)

module _ {X : Type 0} (old now new : ℕ → Option X) where
  -- one key more is free
  pub freed : (keys : List ℕ) (k : ℕ) → k < length keys → new (get_or keys k 0) ≡ None → ((other : ℕ) → other ≢ get_or keys k 0 → new other ≡ now other)
      → ((at key : ℕ) → at < k → slice_get keys at ≡ Some key → now key ≡ None) → (at key : ℕ) → at < k + 1 → slice_get keys at ≡ Some key → new key ≡ None
  freed keys k within gone others before at key low is = elim (same-or-other key (get_or keys k 0)) [
    | inl e ↦ ap new e ∙ gone
    | inr ne ↦ elim (below-or-at at k low) [
      | inl below ↦ others key ne ∙ before at key below is
      | inr e ↦ absurd (ne (same_Some _ _ (sym is ∙ ap (slice_get keys) e ∙ slice_get-get_or keys k 0 within)))
    ]
  ]

  pub kept : (keys : List ℕ) (k : ℕ) → k < length keys → ((other : ℕ) → other ≢ get_or keys k 0 → new other ≡ now other)
      → ((key : ℕ) → ((at : ℕ) → at < k → slice_get keys at ≡ Some key → ⊥) → now key ≡ old key) → (key : ℕ) → ((at : ℕ) → at < k + 1 → slice_get keys at ≡ Some key → ⊥) → new key ≡ old key
  kept keys k within others before key none =
      others key (λ e. none k (omega arith) (slice_get-get_or keys k 0 within ∙ ap (λ x. Some x) (sym e)))
      ∙ before key (λ at low is. none at (omega arith) is)
