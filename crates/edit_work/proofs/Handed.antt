-- Elements that stay and are handed something else, by their keys. Throughout, e is an evaluator that hands on something
-- or nothing, i what a level is handed, j what it was handed, n a node, c what is under it, r what is after it, m a merge,
-- and k a key.
use Rattle.std.proofs.Common.{◌≡◌, ◌≤◌, ℕ, Bool, true, false, cond, List, [], ◌∷◌, Option, Some, None, refl, sym, subst, ◌∙◌, arith}
use Rattle.std.specs.Prelude.{All, is_some}
use Rattle.std.proofs.lemmas.List.Elements.{All-head}
use Rattle.forest.specs.Forest.{Forest}
use Rattle.forest.specs.Keys.{Keyed}
use Rattle.merged_walk.specs.Merges.{Merge, End, Kept, Turned, Gone, Come, old_of, new_of}
use Rattle.merged_walk.specs.Evaluators.{Evaluator, past_all, input, inputs, weigh_elements}
use Rattle.merged_walk.specs.Counts.{other_count}
use Rattle.merged_walk.proofs.EntryLaws.{all-left, all-right}

-- no node is turned
abbrev pub HasNoTurned : {L : Type 0} → Merge L → Type 0
HasNoTurned End = Unit {0}
HasNoTurned (Kept n c r) = HasNoTurned c × HasNoTurned r
HasNoTurned (Turned was n c r) = ⊥
HasNoTurned (Gone n c r) = HasNoTurned r
HasNoTurned (Come n c r) = HasNoTurned r

module _ {L K S : Type 0} (e : Evaluator L K (Option S)) where
  -- something is handed to one of two levels where it is to the other, and to what is in a node and behind it
  pub record HandsOn : Type 0 where
    pub nothing : e.is_same None None ≡ true
    pub within : (n : Keyed L) (i j : Option S) → is_some i ≡ is_some j → is_some (e.within n i) ≡ is_some (e.within n j)
    pub past : (n : Keyed L) (i b : Option S) → is_some (e.past n i b) ≡ is_some i

-- a map has what elements are handed, where something is
abbrev pub Has : {S : Type 0} → (ℕ → Option S) → List (ℕ × Option S) → Type 0
Has {S} held entries = All (λ (x : ℕ × Option S). (a : S) → x.1 ≡ Some a → held x.0 ≡ Some a) entries

module _ {L K S : Type 0} (e : Evaluator L K (Option S)) (hands : HandsOn e) (w : ℕ → ℕ) (heavy : (k : ℕ) → 1 ≤ w k) (differs : ℕ → Bool) (before now : ℕ → Option S)
    (other : (k : ℕ) (a b : S) → now k ≡ Some a → before k ≡ Some b → e.is_same (Some a) (Some b) ≡ false → differs k ≡ true) where
  -- the elements of trees that differ, weighed
  abbrev others : Forest (Keyed L) → ℕ
  others g = weigh_elements e.is_element (λ k. cond (differs k) (w k) 0) g

  own-entry : (held : ℕ → Option S) (n : Keyed L) (a : S) → e.is_element n.label ≡ true → Has held (input e n (Some a)) → held n.key ≡ Some a
  own-entry held n a is h =
      All-head (λ (x : ℕ × Option S). (a : S) → x.1 ≡ Some a → held x.0 ≡ Some a) (n.key, Some a) [] (subst (λ b. Has held (cond b ((n.key, Some a) ∷ []) [])) is h) a refl

  own-other : (n : Keyed L) (a b : S) (same : Bool) → e.is_same (Some a) (Some b) ≡ same → now n.key ≡ Some a → before n.key ≡ Some b → cond {A = ℕ} same 0 1 ≤ cond (differs n.key) (w n.key) 0
  own-other n a b true is at was = omega arith
  own-other n a b false is at was = rw (other n.key a b at was is) (heavy n.key)

  own-within : (n : Keyed L) (i j : Option S) → is_some i ≡ is_some j → (b : Bool) → e.is_element n.label ≡ b → Has now (input e n i) → Has before (input e n j)
      → cond {A = ℕ} b (cond (e.is_same i j) 0 1) 0 ≤ cond b (cond (differs n.key) (w n.key) 0) 0
  own-within n i j some false is hi hj = omega arith
  own-within n None None some true is hi hj = rw hands.nothing (omega arith)
  own-within n None (Some b) some true is hi hj = absurd (cc)
  own-within n (Some a) None some true is hi hj = absurd (cc)
  own-within n (Some a) (Some b) some true is hi hj = own-other n a b (e.is_same (Some a) (Some b)) refl (own-entry now n a is hi) (own-entry before n b is hj)

  pub others-within : (m : Merge L) → HasNoTurned m → (i j : Option S) → is_some i ≡ is_some j → Has now (inputs e i (new_of m)) → Has before (inputs e j (old_of m)) → other_count e i j m ≤ others (new_of m)
  others-within End turned i j some hi hj = omega arith
  others-within (Kept n c r) turned i j some hi hj =
      let x = past_all e (e.within n i) (new_of c) in
      let y = past_all e (e.within n j) (old_of c) in
      let now_has = λ (x : ℕ × Option S). (a : S) → x.1 ≡ Some a → now x.0 ≡ Some a in
      let before_has = λ (x : ℕ × Option S). (a : S) → x.1 ≡ Some a → before x.0 ≡ Some a in
      let rest_i = all-right now_has (input e n i) _ hi in
      let rest_j = all-right before_has (input e n j) _ hj in
      omega (
        arith,
        own-within n i j some (e.is_element n.label) refl (all-left now_has (input e n i) _ hi) (all-left before_has (input e n j) _ hj),
        others-within c turned.0 (e.within n i) (e.within n j) (hands.within n i j some) (all-left now_has (inputs e (e.within n i) (new_of c)) _ rest_i) (all-left before_has (inputs e (e.within n j) (old_of c)) _ rest_j),
        others-within r turned.1 (e.past n i x) (e.past n j y) (hands.past n i x ∙ some ∙ sym (hands.past n j y)) (all-right now_has (inputs e (e.within n i) (new_of c)) _ rest_i) (all-right before_has (inputs e (e.within n j) (old_of c)) _ rest_j),
      )
  others-within (Turned was n c r) turned i j some hi hj = absurd turned
  others-within (Gone n c r) turned i j some hi hj =
      let y = past_all e (e.within n j) c in
      let before_has = λ (x : ℕ × Option S). (a : S) → x.1 ≡ Some a → before x.0 ≡ Some a in
      others-within r turned i (e.past n j y) (some ∙ sym (hands.past n j y)) hi (all-right before_has (inputs e (e.within n j) c) _ (all-right before_has (input e n j) _ hj))
  others-within (Come n c r) turned i j some hi hj =
      let x = past_all e (e.within n i) c in
      let now_has = λ (x : ℕ × Option S). (a : S) → x.1 ≡ Some a → now x.0 ≡ Some a in
      omega (
        arith,
        others-within r turned (e.past n i x) j (hands.past n i x ∙ some) (all-right now_has (inputs e (e.within n i) c) _ (all-right now_has (input e n i) _ hi)) hj,
      )
