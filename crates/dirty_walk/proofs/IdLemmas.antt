-- The index of a document's ids, and what it holds.
use Rattle.std.proofs.Common.{◌≡◌, ◌∙◌, ℕ, zero, suc, nat_eq, Bool, true, false, ◌&&◌, ◌||◌, cond, List, [], ◌∷◌, Option, Some, None, flat_map, slice_get, refl, ap, inl, inr, eqb-true, eq-eqb}
use Rattle.std.specs.Prelude.{codes, IsSome, option_map}
use Rattle.std.specs.List.{list_any}
use Rattle.std.specs.Option.{option_map_or}
use Rattle.std.specs.Str.{bytes_eq}
use Rattle.std.proofs.lemmas.Bool.{cases_Bool}
use Rattle.std.proofs.lemmas.List.Sums.{fold-append}
use Rattle.std.proofs.lemmas.Option.{none-some, same_Some}
use Rattle.forest.specs.Forest.{Forest}
use Rattle.forest.specs.Keys.{HasDistinctKeys, Keyed, keys}
use Rattle.forest.specs.Order.{place_of}
use Rattle.forest.specs.Spots.{IsLive, Spot, label_of, spot_of}
use Rattle.forest.proofs.WalkLaws.{key-at-place}
use Rattle.plain_types.specs.declared.node.Node.{Node}
use Rattle.node_arena.specs.Nodes.{attr_of}
use Rattle.target_index.specs.declared.change.IndexChange.{IndexChange}
use Rattle.target_index.specs.declared.change.IndexChange.TheVariants.{Hold}
use Rattle.target_index.specs.Changes.{holds_after, holds_after_all}
use Rattle.referring_elements.specs.Indexes.{holds_id}

-- of an element that has an id, that it holds it
abbrev pub id_change : Forest (Keyed Node) → ℕ → List IndexChange
id_change document key = option_map_or (λ id. Hold id key ∷ []) (attr_of document key (codes "id")) []

-- the same of all, in tree order
abbrev pub id_changes : Forest (Keyed Node) → List IndexChange
id_changes document = flat_map (id_change document) (keys document)

there : (xs : List ℕ) (i x : ℕ) → slice_get xs i ≡ Some x → list_any (λ y. nat_eq y x) xs ≡ true
there [] i x h = absurd (none-some x h)
there (y ∷ xs) zero x h = let same : nat_eq y x ≡ true = eq-eqb y x (same_Some y x h) in rw same refl
there (y ∷ xs) (suc i) x h = or_true (nat_eq y x) (there xs i x h)
  where
    or_true : (b : Bool) {c : Bool} → c ≡ true → (b || c) ≡ true
    or_true true e = refl
    or_true false e = e

module _ (f : Forest (Keyed Node)) (d : HasDistinctKeys f) where
  -- What the changes make of an index without holders.
  module _ (id : List ℕ) (key : ℕ) where
    -- whether a node has the id
    abbrev has : ℕ → Bool
    has k = option_map_or (bytes_eq id) (attr_of f k (codes "id")) false

    abbrev is_it : ℕ → Bool
    is_it k = has k && nat_eq k key

    one_change : (k : ℕ) (before : Bool) → holds_after_all (id_change f k) id key before ≡ cond (is_it k) true before
    one_change k before = by (attr_of f k (codes "id"))
      where
        by : (o : Option (List ℕ)) → holds_after_all (option_map_or (λ i. Hold i k ∷ []) o []) id key before ≡ cond (option_map_or (bytes_eq id) o false && nat_eq k key) true before
        by None = refl
        by (Some i) = refl

    cond_or : (s t before : Bool) → cond t true (cond s true before) ≡ cond (s || t) true before
    cond_or true true before = refl
    cond_or true false before = refl
    cond_or false true before = refl
    cond_or false false before = refl

    all_changes : (ks : List ℕ) (before : Bool) → holds_after_all (flat_map (id_change f) ks) id key before ≡ cond (list_any is_it ks) true before
    all_changes [] before = refl
    all_changes (k ∷ ks) before =
        fold-append (λ held change. holds_after change id key held) before (id_change f k) (flat_map (id_change f) ks)
        ∙ all_changes ks (holds_after_all (id_change f k) id key before)
        ∙ ap (cond (list_any is_it ks) true) (one_change k before)
        ∙ cond_or (is_it k) (list_any is_it ks) before

    and_or : (a m : Bool) → ((a && true) || (a && m)) ≡ (a && true)
    and_or true m = refl
    and_or false m = refl

    or_none : (a m : Bool) → ((a && false) || m) ≡ m
    or_none true m = refl
    or_none false m = refl

    only_that : (ks : List ℕ) → list_any is_it ks ≡ (has key && list_any (λ k. nat_eq k key) ks)
    only_that [] = none (has key)
      where
        none : (a : Bool) → false ≡ (a && false)
        none true = refl
        none false = refl
    only_that (k ∷ ks) = elim (cases_Bool (nat_eq k key)) [
      | inl e ↦
          rw (only_that ks, e, eqb-true k key e) (and_or (has key) (list_any (λ other. nat_eq other key) ks))
      | inr e ↦ rw (only_that ks, e) (or_none (has k) (has key && list_any (λ other. nat_eq other key) ks))
    ]

    live_label : (label : Node) → label_of f key ≡ Some label → IsLive f key
    live_label label h = by (spot_of f key) h
      where
        by : (o : Option (Spot Node)) → option_map (λ (s : Spot Node). s.label) o ≡ Some label → IsSome o
        by None e = absurd (none-some label e)
        by (Some s) e = refl

    to_test : (b m : Bool) → m ≡ true → cond (b && m) true false ≡ b
    to_test true true e = refl
    to_test false true e = refl
    to_test b false e = absurd (cc e)

    pub ids_held : holds_after_all (id_changes f) id key false ≡ holds_id f id key
    ids_held = all_changes (keys f) false ∙ ap (λ b. cond b true false) (only_that (keys f)) ∙ by (label_of f key) refl
      where
        by : (o : Option Node) → label_of f key ≡ o → cond (has key && list_any (λ k. nat_eq k key) (keys f)) true false ≡ holds_id f id key
        by None e = rw e refl
        by (Some label) e =
            to_test (has key) (list_any (λ k. nat_eq k key) (keys f)) (there (keys f) (place_of f key) key (key-at-place f key d (live_label label e)))
            ∙ rw e refl
