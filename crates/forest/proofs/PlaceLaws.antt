-- Places: their keys are those of the document in tree order, and their paths are the nodes' paths.
use Rattle.std.proofs.Common.{◌≡◌, ◌==◌, ◌<◌, ◌≤◌, ◌+◌, ℕ, true, false, cond, List, [], ◌∷◌, ◌++◌, length, map, All, Some, slice_get, unwrap_or, drop, refl, sym, ap, ◌∙◌, ◌⊎◌, inl, inr, arith, append_assoc, append-nil, length-append}
use Rattle.std.specs.List.{AllByRecursion}
use Rattle.std.proofs.lemmas.List.{map-append}
use Rattle.std.proofs.lemmas.List.Elements.{All-from_recursion}
use Rattle.std.proofs.lemmas.Bool.{cases_lt, cases_order}
use Rattle.std.proofs.lemmas.Bool.Decides.{nat_tests}
use Rattle.std.proofs.lemmas.Option.{same_Some}
use Rattle.forest.specs.Forest.{Forest, Empty, Tree, size, IsOneTree}
use Rattle.forest.specs.Keys.{Keyed, keys, times, HasDistinctKeys, without_keys, numbered}
use Rattle.forest.specs.Places.{Place, child_path, places_under, places}
use Rattle.forest.specs.Spots.{IsLive}
use Rattle.forest.specs.Paths.{route, path_of}
use Rattle.forest.specs.Order.{place_of, Precedes}
use Rattle.forest.proofs.SpotLaws.{distinct-parts}
use Rattle.forest.proofs.StandLaws.{route-root, route-below, route-beside}
use Rattle.forest.proofs.PathLaws.{route-counted}
use Rattle.forest.proofs.OrderLaws.{keys-tree}
use Rattle.forest.proofs.WalkLaws.{key-at-place}

module _ {L : Type 0} where
  abbrev pub keys_of_places : List (Place (Keyed L)) → List ℕ
  keys_of_places all = map (λ (place : Place (Keyed L)). place.label.key) all

  keys-under : (parent : List ℕ) (earlier : List (Keyed L)) (f : Forest (Keyed L)) → keys_of_places (places_under parent earlier f) ≡ keys f
  keys-under parent earlier Empty = refl
  keys-under parent earlier (Tree n c r) =
      ap (λ ks. n.key ∷ ks)
      (map-append (λ (place : Place (Keyed L)). place.label.key) (places_under (child_path parent earlier) [] c) (places_under parent (earlier ++ n ∷ []) r)
      ∙ ap (λ ks. ks ++ keys_of_places (places_under parent (earlier ++ n ∷ []) r)) (keys-under (child_path parent earlier) [] c)
      ∙ ap (λ ks. keys c ++ ks) (keys-under parent (earlier ++ n ∷ []) r))
      ∙ sym (keys-tree n c r)

  pub keys-places : (f : Forest (Keyed L)) → IsOneTree f → keys_of_places (places f) ≡ keys f
  keys-places Empty one = refl
  keys-places (Tree n c Empty) one = ap (λ ks. n.key ∷ ks) (keys-under [] [] c ∙ sym (append-nil (keys c))) ∙ sym (keys-tree n c Empty)
  keys-places (Tree n c (Tree m i r)) one = absurd (let e : Tree m i r ≡ Empty = one in cc)

  -- the path of a place is the parent's, and then the way from there
  abbrev IsOnWay : List ℕ → ℕ → Forest (Keyed L) → Place (Keyed L) → Type 0
  IsOnWay parent i f place = (steps : List ℕ) × (route i f place.label.key ≡ Some steps) × (place.path ≡ parent ++ steps)

  all-weaker : (P Q : Place (Keyed L) → Type 0) → ((place : Place (Keyed L)) → P place → Q place) → (all : List (Place (Keyed L))) → AllByRecursion P all → AllByRecursion Q all
  all-weaker P Q more [] h = tt
  all-weaker P Q more (place ∷ all) h = (more place h.0, all-weaker P Q more all h.1)

  all-append : (P : Place (Keyed L) → Type 0) (xs ys : List (Place (Keyed L))) → AllByRecursion P xs → AllByRecursion P ys → AllByRecursion P (xs ++ ys)
  all-append P [] ys h k = k
  all-append P (x ∷ xs) ys h k = (h.0, all-append P xs ys h.1 k)

  ways : (f : Forest (Keyed L)) (parent : List ℕ) (earlier : List (Keyed L)) (i : ℕ) → HasDistinctKeys f → length earlier ≡ i → AllByRecursion (IsOnWay parent i f) (places_under parent earlier f)
  ways Empty parent earlier i d is = tt
  ways (Tree n c r) parent earlier i d is =
      let parts = distinct-parts n c r d in
      let down = child_path parent earlier in (
        (i ∷ [], route-root i n c r, ap (λ k. parent ++ k ∷ []) is),
        all-append (IsOnWay parent i (Tree n c r)) (places_under down [] c) (places_under parent (earlier ++ n ∷ []) r)
            (all-weaker (IsOnWay down 0 c) (IsOnWay parent i (Tree n c r))
            (λ place h. (i ∷ h.0, route-below i n c r place.label.key h.0 d (route-counted c 0 place.label.key h.0 h.1) h.1, h.2 ∙ append_assoc parent (length earlier ∷ []) h.0 ∙ ap (λ k. parent ++ k ∷ h.0) is))
            (places_under down [] c) (ways c down [] 0 parts.0 refl))
            (all-weaker (IsOnWay parent (i + 1) r) (IsOnWay parent i (Tree n c r))
            (λ place h. (h.0, route-beside i n c r place.label.key d (route-counted r (i + 1) place.label.key h.0 h.1) ∙ h.1, h.2))
            (places_under parent (earlier ++ n ∷ []) r) (ways r parent (earlier ++ n ∷ []) (i + 1) parts.1 (omega (arith, length-append earlier (n ∷ []))))),
      )

  pub paths-places : (f : Forest (Keyed L)) → HasDistinctKeys f → IsOneTree f → All (λ (place : Place (Keyed L)). path_of f place.label.key ≡ place.path) (places f)
  paths-places Empty d one = absurd one
  paths-places (Tree n c Empty) d one =
      let f : Forest (Keyed L) = Tree n c Empty in
      All-from_recursion (λ (place : Place (Keyed L)). path_of f place.label.key ≡ place.path) (places f) (
        ap (λ o. drop 1 (unwrap_or o [])) (route-root 0 n c Empty),
        all-weaker (IsOnWay [] 0 c) (λ (place : Place (Keyed L)). path_of f place.label.key ≡ place.path)
            (λ place h. ap (λ o. drop 1 (unwrap_or o [])) (route-below 0 n c Empty place.label.key h.0 d (route-counted c 0 place.label.key h.0 h.1) h.1) ∙ sym h.2)
            (places_under [] [] c) (ways c [] [] 0 (distinct-parts n c Empty d).0 refl),
      )
  paths-places (Tree n c (Tree m i r)) d one = absurd (let e : Tree m i r ≡ Empty = one in cc)

  -- two nodes have two places in tree order
  pub same-place : (f : Forest (Keyed L)) (a b : ℕ) → HasDistinctKeys f → IsLive f a → IsLive f b → place_of f a ≡ place_of f b → a ≡ b
  same-place f a b d live_a live_b e = same_Some a b (sym (key-at-place f a d live_a) ∙ ap (slice_get (keys f)) e ∙ key-at-place f b d live_b)

  -- so of two nodes one precedes the other
  pub order-total : (f : Forest (Keyed L)) (a b : ℕ) → HasDistinctKeys f → IsLive f a → IsLive f b → (a ≡ b) ⊎ (Precedes f a b ⊎ Precedes f b a)
  order-total f a b d live_a live_b =
      elim (cases_order (place_of f a) (place_of f b)) [
        | inl e ↦ inl (same-place f a b d live_a live_b e)
        | inr h ↦ inr h
      ]

-- Keys that are places in tree order.
other : (n q : ℕ) → n < q → (n == q) ≡ false
other n q h = grind (arith, nat_tests)

module _ {L : Type 0} where
  pub without_keys-numbered : (n : ℕ) (f : Forest L) → without_keys (numbered n f) ≡ f
  without_keys-numbered n Empty = refl
  without_keys-numbered n (Tree l c r) = λ i. Tree l (without_keys-numbered (n + 1) c i) (without_keys-numbered (n + 1 + size c) r i)

  numbered-before : (q n : ℕ) (f : Forest L) → q < n → times q (numbered n f) ≡ 0
  numbered-before q n Empty h = refl
  numbered-before q n (Tree l c r) h = grind (arith, nat_tests, numbered-before q (n + 1) c (omega arith), numbered-before q (n + 1 + size c) r (omega arith))

  numbered-past : (q n : ℕ) (f : Forest L) → n + size f ≤ q → times q (numbered n f) ≡ 0
  numbered-past q n Empty h = refl
  numbered-past q n (Tree l c r) h = grind (arith, nat_tests, numbered-past q (n + 1) c (omega arith), numbered-past q (n + 1 + size c) r (omega arith))

  pub distinct-numbered : (n : ℕ) (f : Forest L) → HasDistinctKeys (numbered n f)
  distinct-numbered n Empty q = omega arith
  distinct-numbered n (Tree l c r) q =
      elim (cases_lt q (n + 1)) [
        | inl low ↦ let a = numbered-before q (n + 1) c low in let b = numbered-before q (n + 1 + size c) r (omega arith) in elim (n == q) as (λ b. (cond b 1 0 + (times q (numbered (n + 1) c) + times q (numbered (n + 1 + size c) r))) ≤ 1) [ true ↦ omega arith | false ↦ omega arith ]
        | inr high ↦ rw (other n q (omega arith)) (elim (cases_lt q (n + 1 + size c)) [
          | inl within ↦ omega (arith, distinct-numbered (n + 1) c q, numbered-before q (n + 1 + size c) r within)
          | inr past ↦ omega (arith, distinct-numbered (n + 1 + size c) r q, numbered-past q (n + 1) c past)
        ])
      ]
