-- Each keying is that by places in tree order, under other keys.
use Rattle.std.proofs.Common.{◌≡◌, ◌+◌, ◌<◌, ◌≤◌, ◌==◌, ◌∷◌, ◌++◌, ℕ, zero, suc, List, [], true, cond, length, refl, sym, ap, subst, ◌∙◌, inl, inr, arith, eq-eqb}
use Rattle.std.proofs.lemmas.Bool.{cases_Bool}
use Rattle.forest.specs.Forest.{Forest, Empty, Tree, size}
use Rattle.forest.specs.Keys.{HasDistinctKeys, Keyed, keys, numbered, times, without_keys}
use Rattle.forest.proofs.OrderLaws.{keys-tree, length-keys}
use Rattle.generated_texts.specs.Keyings.{KeepsApart, rekeyed}

-- the key at a place, and past the end one above all
abbrev pub key_at : ℕ → List ℕ → ℕ → ℕ
key_at top [] place = top + place
key_at top (key ∷ rest) zero = key
key_at top (key ∷ rest) (suc place) = key_at top rest place

abbrev pub above_all : List ℕ → ℕ
above_all [] = 0
above_all (key ∷ rest) = key + 1 + above_all rest

abbrev IsOut : ℕ → List ℕ → Type 0
IsOut key [] = Unit {0}
IsOut key (first ∷ rest) = (first ≡ key → ⊥) × IsOut key rest

abbrev AreDistinct : List ℕ → Type 0
AreDistinct [] = Unit {0}
AreDistinct (key ∷ rest) = IsOut key rest × AreDistinct rest

other_key : (top key : ℕ) (rest : List ℕ) (place : ℕ) → IsOut key rest → key < top → key_at top rest place ≡ key → ⊥
other_key top key [] place out below e = omega (arith, e, below)
other_key top key (first ∷ rest) zero out below e = out.0 e
other_key top key (first ∷ rest) (suc place) out below e = other_key top key rest place out.1 below e

keys_apart : (top : ℕ) (rest : List ℕ) → AreDistinct rest → above_all rest ≤ top → KeepsApart (key_at top rest)
keys_apart top [] distinct below one other e = omega (arith, e)
keys_apart top (key ∷ rest) distinct below zero zero e = refl
keys_apart top (key ∷ rest) distinct below zero (suc other) e = absurd (other_key top key rest other distinct.0 (omega (arith, below)) (sym e))
keys_apart top (key ∷ rest) distinct below (suc one) zero e = absurd (other_key top key rest one distinct.0 (omega (arith, below)) e)
keys_apart top (key ∷ rest) distinct below (suc one) (suc other) e = ap (λ n. suc n) (keys_apart top rest distinct.1 (omega (arith, below)) one other e)

-- how often a key is among others
abbrev pub among : ℕ → List ℕ → ℕ
among key [] = 0
among key (first ∷ rest) = cond (first == key) 1 0 + among key rest

among_append : (key : ℕ) (some others : List ℕ) → among key (some ++ others) ≡ among key some + among key others
among_append key [] others = omega arith
among_append key (first ∷ some) others = let more = among_append key some others in omega (arith, more)

not_among : (key : ℕ) (rest : List ℕ) → among key rest ≡ 0 → IsOut key rest
not_among key [] none = tt
not_among key (first ∷ rest) none = elim (cases_Bool (first == key)) [
  | inl e ↦ absurd (let one : 1 + among key rest ≡ 0 = rw e at none in omega arith)
  | inr e ↦ let none_left : 0 + among key rest ≡ 0 = rw e at none in (λ same. let there = eq-eqb first key same in absurd (cc), not_among key rest (omega arith))
]

distinct_list : (rest : List ℕ) → ((key : ℕ) → among key rest ≤ 1) → AreDistinct rest
distinct_list [] once = tt
distinct_list (key ∷ rest) once =
    let here : (key == key) ≡ true = eq-eqb key key refl in
    let one : 1 + among key rest ≤ 1 = rw here at (once key) in
    (not_among key rest (omega arith), distinct_list rest (λ other. let all = once other in omega arith))

-- the keys from a place on are these
abbrev Tells : (ℕ → ℕ) → ℕ → List ℕ → Type 0
Tells rekey place [] = Unit {0}
Tells rekey place (key ∷ rest) = (rekey place ≡ key) × Tells rekey (place + 1) rest

tells_front : (rekey : ℕ → ℕ) (place : ℕ) (some others : List ℕ) → Tells rekey place (some ++ others) → Tells rekey place some
tells_front rekey place [] others h = tt
tells_front rekey place (key ∷ some) others h = (h.0, tells_front rekey (place + 1) some others h.1)

tells_rest : (rekey : ℕ → ℕ) (place next : ℕ) (some others : List ℕ) → next ≡ place + length some → Tells rekey place (some ++ others) → Tells rekey next others
tells_rest rekey place next [] others e h = let f : next ≡ place = omega arith in rw f h
tells_rest rekey place next (key ∷ some) others e h = tells_rest rekey (place + 1) next some others (omega arith) h.1

tells_more : (top key place : ℕ) (rest some : List ℕ) → Tells (key_at top rest) place some → Tells (key_at top (key ∷ rest)) (place + 1) some
tells_more top key place rest [] h = tt
tells_more top key place rest (first ∷ some) h = (let next : place + 1 ≡ suc place = omega arith in ap (key_at top (key ∷ rest)) next ∙ h.0, tells_more top key (place + 1) rest some h.1)

tells_all : (top : ℕ) (rest : List ℕ) → Tells (key_at top rest) 0 rest
tells_all top [] = tt
tells_all top (key ∷ rest) = (refl, tells_more top key 0 rest rest (tells_all top rest))

module _ {L : Type 0} where
  pub times_among : (trees : Forest (Keyed L)) (key : ℕ) → times key trees ≡ among key (keys trees)
  times_among Empty key = refl
  times_among (Tree node children after) key =
      let below = times_among children key in
      let beside = times_among after key in
      let both = among_append key (keys children) (keys after) in
      let all = ap (among key) (keys-tree node children after) in
      omega (arith, below, beside, both, all)

  distinct_keys : (trees : Forest (Keyed L)) → HasDistinctKeys trees → AreDistinct (keys trees)
  distinct_keys trees distinct = distinct_list (keys trees) (λ key. let same = times_among trees key in let once = distinct key in omega arith)

  same_size : (trees : Forest (Keyed L)) → size (without_keys trees) ≡ size trees
  same_size Empty = refl
  same_size (Tree node children after) = let below = same_size children in let beside = same_size after in omega (arith, below, beside)

  numbered_rekeyed : (rekey : ℕ → ℕ) (trees : Forest (Keyed L)) (place : ℕ) → Tells rekey place (keys trees) → trees ≡ rekeyed rekey (numbered place (without_keys trees))
  numbered_rekeyed rekey Empty place h = refl
  numbered_rekeyed rekey (Tree node children after) place h =
      let told : Tells rekey place (node.key ∷ (keys children ++ keys after)) = subst (Tells rekey place) (keys-tree node children after) h in
      let next = place + 1 + size (without_keys children) in
      let below = numbered_rekeyed rekey children (place + 1) (tells_front rekey (place + 1) (keys children) (keys after) told.1) in
      let beside = numbered_rekeyed rekey after next
      (tells_rest rekey (place + 1) next (keys children) (keys after) (let same = same_size children in let many = length-keys children in omega (arith, same, many)) told.1) in
      let make : ℕ → Forest (Keyed L) → Forest (Keyed L) → Forest (Keyed L) = λ key inner others. Tree (record { key = key; label = node.label }) inner others in
      ap (λ key. make key children after) (sym told.0)
      ∙ ap (λ inner. make (rekey place) inner after) below
      ∙ ap (make (rekey place) (rekeyed rekey (numbered (place + 1) (without_keys children)))) beside

  pub each_keying : (document : Forest (Keyed L)) → HasDistinctKeys document → (rekey : ℕ → ℕ) × KeepsApart rekey × (document ≡ rekeyed rekey (numbered 0 (without_keys document)))
  each_keying document distinct =
      let all = keys document in
      let rekey = key_at (above_all all) all in
      (rekey, keys_apart (above_all all) all (distinct_keys document distinct) (omega arith), numbered_rekeyed rekey document 0 (tells_all (above_all all) all))
