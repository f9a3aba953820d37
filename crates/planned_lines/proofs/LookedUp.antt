-- The nodes of a document of which something is looked up, in a walk over all.
use Rattle.std.proofs.Common.{◌≡◌, ◌==◌, ◌≤◌, ◌+◌, ◌∙◌, ◌++◌, ◌||◌, ℕ, zero, suc, nat_eq, Bool, true, false, cond, List, [], ◌∷◌, Option, Some, None, flat_map, get_or, length, take, arith, refl, sym, ap, eqb-true, inl, inr, length-append}
use Rattle.std.specs.List.{AllByRecursion, IsDistinct}
use Rattle.std.specs.Option.{option_or}
use Rattle.std.proofs.lemmas.Bool.{cases_Bool, false≢true}
use Rattle.std.proofs.lemmas.Map.Keys.{IsDistinct-cons, IsDistinct-from_apart, IsDistinct-head, IsDistinct-tail}
use Rattle.std.proofs.lemmas.Option.{slice_get-get_or}
use Rattle.forest.specs.Forest.{Forest}
use Rattle.forest.specs.Keys.{HasDistinctKeys, Keyed, keys}
use Rattle.forest.specs.Order.{next_in_order_of, place_of}
use Rattle.forest.specs.Spots.{IsLive}
use Rattle.plain_types.specs.declared.node.Node.{Node}
use Rattle.edit_work.specs.KeyedSources.{is_among}
use Rattle.merged_walk.specs.Entries.{last_at}
use Rattle.referring_elements.proofs.WalkLemmas.{place_is}
use Rattle.kept_elements.specs.declared.kept_change.KeptChange.{KeptChange}
use Rattle.kept_elements.proofs.AgainLemmas.{no_more_keys}
use Rattle.kept_elements.proofs.ChangeLemmas.{has_key}
use Rattle.dirty_walk.proofs.WalkLemmas.{next_told, told_more}
use Rattle.planned_lines.specs.PutLines.{looked_up, shows}

-- each node of a document stands once among its keys
keys_once : (f : Forest (Keyed Node)) → HasDistinctKeys f → IsDistinct nat_eq (keys f)
keys_once f d = IsDistinct-from_apart nat_eq (keys f) (λ i j e low high.
    elim (cases_Bool (nat_eq (get_or (keys f) i e) (get_or (keys f) j e))) [
      | inl same ↦
          let first = place_is f i (get_or (keys f) i e) d (slice_get-get_or (keys f) i e (omega (arith, low, high))) in
          let second = place_is f j (get_or (keys f) j e) d (slice_get-get_or (keys f) j e high) in
          absurd (omega (arith, low, first, second, ap (place_of f) (eqb-true (get_or (keys f) i e) (get_or (keys f) j e) same)))
      | inr apart ↦ apart
    ])

-- a key under which something is put that shows another text is one of those that are put
last_there : (puts : List (ℕ × KeptChange)) (key : ℕ) → shows (last_at puts key) ≡ true → has_key key puts ≡ true
last_there [] key h = absurd (false≢true h)
last_there (put ∷ puts) key h = by (last_at puts key) (put.0 == key) h (λ there. last_there puts key there)
  where
    by : (o : Option KeptChange) (b : Bool) → shows (option_or o (cond b (Some put.1) None)) ≡ true → (shows o ≡ true → has_key key puts ≡ true) → (b || has_key key puts) ≡ true
    by o true there rest = refl
    by (Some change) false there rest = rest there
    by None false there rest = absurd (false≢true there)

module _ (put_at : ℕ → Option KeptChange) where
  -- the key of a node, where something is looked up of it
  abbrev pub looked : ℕ → List ℕ
  looked key = looked_up key (put_at key)

  -- of how many nodes before one
  abbrev pub looked_before : Forest (Keyed Node) → ℕ → ℕ
  looked_before document key = length (flat_map looked (take (place_of document key) (keys document)))

  fewer : (n : ℕ) (ks : List ℕ) → length (flat_map looked (take n ks)) ≤ length (flat_map looked ks)
  fewer zero [] = omega arith
  fewer zero (k ∷ ks) = omega arith
  fewer (suc n) [] = omega arith
  fewer (suc n) (k ∷ ks) =
      let some = length-append (looked k) (flat_map looked (take n ks)) in
      let all = length-append (looked k) (flat_map looked ks) in
      let rest = fewer n ks in
      omega (arith, some, all, rest)

  module _ (f : Forest (Keyed Node)) (d : HasDistinctKeys f) (q : ℕ) (live : IsLive f q) where
    pub next_looked : (k : ℕ) → next_in_order_of f q ≡ Some k → looked_before f k ≡ looked_before f q + length (looked q)
    next_looked k h = ap length (next_told f d q live looked k h) ∙ length-append (flat_map looked (take (place_of f q) (keys f))) (looked q)

    pub most_looked : looked_before f q + length (looked q) ≤ length (flat_map looked (keys f))
    most_looked =
        let more = ap length (told_more f d q live looked) in
        let both = length-append (flat_map looked (take (place_of f q) (keys f))) (looked q) in
        let most = fewer (place_of f q + 1) (keys f) in
        omega (arith, more, both, most)

  -- Keys, each once, give keys, each once, of which something is put.

  apart : (k : ℕ) (ks : List ℕ) → AllByRecursion (λ y. nat_eq k y ≡ false) ks → AllByRecursion (λ y. nat_eq k y ≡ false) (flat_map looked ks)
  apart k [] all = tt
  apart k (x ∷ ks) all = by (shows (put_at x)) (apart k ks all.1)
    where
      by : (b : Bool) → AllByRecursion (λ y. nat_eq k y ≡ false) (flat_map looked ks) → AllByRecursion (λ y. nat_eq k y ≡ false) (cond b (x ∷ []) [] ++ flat_map looked ks)
      by true rest = (all.0, rest)
      by false rest = rest

  once : (ks : List ℕ) → IsDistinct nat_eq ks → IsDistinct nat_eq (flat_map looked ks)
  once [] distinct = distinct
  once (x ∷ ks) distinct = by (shows (put_at x)) (once ks (IsDistinct-tail nat_eq x ks distinct))
    where
      by : (b : Bool) → IsDistinct nat_eq (flat_map looked ks) → IsDistinct nat_eq (cond b (x ∷ []) [] ++ flat_map looked ks)
      by true rest = IsDistinct-cons nat_eq x (flat_map looked ks) (apart x ks (IsDistinct-head nat_eq x ks distinct)) rest
      by false rest = rest

  shown : (ks : List ℕ) (key : ℕ) → is_among (flat_map looked ks) key ≡ true → shows (put_at key) ≡ true
  shown [] key there = absurd (false≢true there)
  shown (x ∷ ks) key there = by (shows (put_at x)) refl there (λ h. shown ks key h)
    where
      by : (b : Bool) → shows (put_at x) ≡ b → is_among (cond b (x ∷ []) [] ++ flat_map looked ks) key ≡ true
          → (is_among (flat_map looked ks) key ≡ true → shows (put_at key) ≡ true) → shows (put_at key) ≡ true
      by true is h rest = elim (cases_Bool (x == key)) [
        | inl e ↦ ap (λ (k : ℕ). shows (put_at k)) (sym (eqb-true x key e)) ∙ is
        | inr e ↦ rest (ap (λ b. b || is_among (flat_map looked ks) key) (sym e) ∙ h)
      ]
      by false is h rest = rest h

  -- so they are no more than what is put
  pub few_looked : (f : Forest (Keyed Node)) → HasDistinctKeys f → (puts : List (ℕ × KeptChange)) → ((key : ℕ) → put_at key ≡ last_at puts key) → length (flat_map looked (keys f)) ≤ length puts
  few_looked f d puts are =
      no_more_keys (flat_map looked (keys f)) puts (once (keys f) (keys_once f d))
      (λ key among. last_there puts key (ap shows (sym (are key)) ∙ shown (keys f) key among))
