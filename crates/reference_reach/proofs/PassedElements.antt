-- Elements that a walk may pass are told the same as before. Throughout, e is an evaluator that hands on something or nothing,
-- i what a level is handed, j what it was handed, n a node, c what is under it, r what is after it, g trees, m a merge, and
-- k a key.
use Rattle.std.proofs.Common.{◌≡◌, ◌==◌, ◌||◌, ℕ, Bool, true, false, cond, List, [], ◌∷◌, ◌++◌, Option, Some, None, refl, sym, ap, ap₂, subst, ◌∙◌, eq-eqb}
use Rattle.std.specs.Prelude.{All, is_some}
use Rattle.std.proofs.lemmas.List.Elements.{All-append, All-cons, All-head, All-nil, All-weaker}
use Rattle.std.proofs.lemmas.List.Folds.{list_any-append}
use Rattle.forest.specs.Forest.{Forest, Empty, Tree}
use Rattle.forest.specs.Keys.{Keyed}
use Rattle.merged_walk.specs.Entries.{Holds}
use Rattle.merged_walk.specs.Evaluators.{Evaluator, input, inputs, past_all, told, told_all}
use Rattle.merged_walk.specs.Merges.{Merge, End, Kept, Turned, Gone, Come, has_place, new_of, old_of}
use Rattle.merged_walk.proofs.EntryLaws.{all-left, all-right}
use Rattle.merged_walk.proofs.MergeLaws.{old-new}
use Rattle.edit_work.specs.KeyedSources.{is_among}
use Rattle.reference_reach.proofs.UnderLaws.{apart}

-- The elements that a merge enters, whatever its labels are.
module _ {L : Type 0} (is_element : L → Bool) where
  abbrev pub own_of : Keyed L → List ℕ
  own_of n = cond (is_element n.label) (n.key ∷ []) []

  abbrev pub elements : Forest (Keyed L) → List ℕ
  elements Empty = []
  elements (Tree n c r) = own_of n ++ (elements c ++ elements r)

  abbrev pub entered : Merge L → List ℕ
  entered End = []
  entered (Kept n c r) = cond (has_place c) (n.key ∷ []) [] ++ (entered c ++ entered r)
  entered (Turned was n c r) = n.key ∷ (entered c ++ entered r)
  entered (Gone n c r) = entered r
  entered (Come n c r) = elements (Tree n c Empty) ++ entered r

-- no node is turned
abbrev pub HasNoTurned : {L : Type 0} → Merge L → Type 0
HasNoTurned End = Unit {0}
HasNoTurned (Kept n c r) = HasNoTurned c × HasNoTurned r
HasNoTurned (Turned was n c r) = ⊥
HasNoTurned (Gone n c r) = HasNoTurned r
HasNoTurned (Come n c r) = HasNoTurned r

-- a map has what elements are handed, where something is
abbrev pub Has : {S : Type 0} → (ℕ → Option S) → List (ℕ × Option S) → Type 0
Has {S} map entries = All (λ (x : ℕ × Option S). (a : S) → x.1 ≡ Some a → map x.0 ≡ Some a) entries

module _ {L K S : Type 0} (e : Evaluator L K (Option S)) where
  -- something is handed on where something is handed
  pub record HandsOn : Type 0 where
    pub within : (n : Keyed L) (i j : Option S) → is_some i ≡ is_some j → is_some (e.within n i) ≡ is_some (e.within n j)
    pub past : (n : Keyed L) (i b : Option S) → is_some (e.past n i b) ≡ is_some i

-- the first of these, or among others
first-among : (k : ℕ) (xs : List ℕ) → is_among (k ∷ xs) k ≡ true
first-among k xs = ap (λ b. b || is_among xs k) (eq-eqb k k refl)

pub left-among : (k : ℕ) (xs ys : List ℕ) → is_among xs k ≡ true → is_among (xs ++ ys) k ≡ true
left-among k xs ys h = list_any-append (λ other. other == k) xs ys ∙ ap (λ b. b || is_among ys k) h

pub right-true : (a b : Bool) → b ≡ true → (a || b) ≡ true
right-true true b h = refl
right-true false b h = h

pub right-among : (k : ℕ) (xs ys : List ℕ) → is_among ys k ≡ true → is_among (xs ++ ys) k ≡ true
right-among k xs ys h = list_any-append (λ other. other == k) xs ys ∙ right-true (is_among xs k) (is_among ys k) h

module _ {L K S : Type 0} (e : Evaluator L K (Option S)) where
  -- what is told of trees is told of their elements
  abbrev Listed : List ℕ → ℕ × K → Type 0
  Listed ks x = is_among ks x.0 ≡ true

  listed-own : (n : Keyed L) (entry : K) (b : Bool) → All (Listed (cond b (n.key ∷ []) [])) (cond b ((n.key, entry) ∷ []) [])
  listed-own n entry true = All-cons (Listed (n.key ∷ [])) (n.key, entry) [] (first-among n.key []) (All-nil (Listed (n.key ∷ [])))
  listed-own n entry false = All-nil (Listed [])

  pub listed : (i : Option S) (g : Forest (Keyed L)) → All (Listed (elements e.is_element g)) (told_all e i g)
  listed i Empty = All-nil (Listed [])
  listed i (Tree n c r) =
      let inside = e.within n i in
      let x = past_all e inside c in
      let behind = e.past n i x in
      let own = own_of e.is_element n in
      let under = elements e.is_element c in
      let after = elements e.is_element r in
      let all : List ℕ = own ++ (under ++ after) in
      All-append (Listed all) (told_all e inside c) (told e n i x ++ told_all e behind r)
      (All-weaker (Listed under) (Listed all) (λ y h. right-among y.0 own (under ++ after) (left-among y.0 under after h)) (told_all e inside c) (listed inside c))
      (All-append (Listed all) (told e n i x) (told_all e behind r)
      (All-weaker (Listed own) (Listed all) (λ y h. left-among y.0 own (under ++ after) h) (told e n i x) (listed-own n (e.kept n i x) (e.is_element n.label)))
      (All-weaker (Listed after) (Listed all) (λ y h. right-among y.0 own (under ++ after) (right-among y.0 under after h)) (told_all e behind r) (listed behind r)))

  module _ (hands : HandsOn e) (held : ℕ → Option K) (before now : ℕ → Option S) (Same : ℕ → Type 0)
      (same : (k : ℕ) → Same k → (a b : S) → now k ≡ Some a → before k ≡ Some b → a ≡ b) where
    -- an element that is not entered, and handed the same, is held as it is told
    abbrev pub IsHeld : Merge L → ℕ × K → Type 0
    IsHeld m x = is_among (entered e.is_element m) x.0 ≡ false → Same x.0 → held x.0 ≡ Some x.1

    abbrev now_has : ℕ × Option S → Type 0
    now_has x = (a : S) → x.1 ≡ Some a → now x.0 ≡ Some a

    abbrev before_has : ℕ × Option S → Type 0
    before_has x = (a : S) → x.1 ≡ Some a → before x.0 ≡ Some a

    abbrev has : ℕ × K → Type 0
    has x = held x.0 ≡ Some x.1

    handed-same : (k : ℕ) (i j : Option S) → is_some i ≡ is_some j → Same k → Has now ((k, i) ∷ []) → Has before ((k, j) ∷ []) → i ≡ j
    handed-same k None None some is hi hj = refl
    handed-same k None (Some b) some is hi hj = absurd (cc)
    handed-same k (Some a) None some is hi hj = absurd (cc)
    handed-same k (Some a) (Some b) some is hi hj =
        ap (λ (s : S). Some s) (same k is a b (All-head now_has (k, Some a) [] hi a refl) (All-head before_has (k, Some b) [] hj b refl))

    not-entered : (n : Keyed L) (c r : Merge L) (b : Bool) → has_place c ≡ b → is_among (cond b (n.key ∷ []) [] ++ (entered e.is_element c ++ entered e.is_element r)) n.key ≡ false → has_place c ≡ false
    not-entered n c r true is h =
        let first = left-among n.key (n.key ∷ []) (entered e.is_element c ++ entered e.is_element r) (first-among n.key []) in
        absurd (cc (first, h))
    not-entered n c r false is h = is

    -- the node itself
    held-own : (n : Keyed L) (c r : Merge L) (i j : Option S) → is_some i ≡ is_some j → (b : Bool)
        → Has now (cond b ((n.key, i) ∷ []) []) → Has before (cond b ((n.key, j) ∷ []) [])
        → Holds held (cond b ((n.key, e.kept n j (past_all e (e.within n j) (old_of c))) ∷ []) [])
        → All (IsHeld (Kept n c r)) (cond b ((n.key, e.kept n i (past_all e (e.within n i) (new_of c))) ∷ []) [])
    held-own n c r i j some false hi hj holds = All-nil (IsHeld (Kept n c r))
    held-own n c r i j some true hi hj holds =
        let entry : ℕ × K = (n.key, e.kept n i (past_all e (e.within n i) (new_of c))) in
        All-cons (IsHeld (Kept n c r)) entry []
        (λ out is.
        let none : has_place c ≡ false = not-entered n c r (has_place c) refl out in
        let trees : old_of c ≡ new_of c = old-new c none in
        let handed : j ≡ i = sym (handed-same n.key i j some is hi hj) in
        let was : held n.key ≡ Some (e.kept n j (past_all e (e.within n j) (old_of c))) = All-head has (n.key, e.kept n j (past_all e (e.within n j) (old_of c))) [] holds in
        was ∙ (λ t. Some (e.kept n (handed t) (past_all e (e.within n (handed t)) (trees t)))))
        (All-nil (IsHeld (Kept n c r)))

    -- what comes is entered
    held-come : (n : Keyed L) (c : Forest (Keyed L)) (r : Merge L) (xs : List (ℕ × K)) → All (Listed (elements e.is_element (Tree n c Empty))) xs → All (IsHeld (Come n c r)) xs
    held-come n c r xs listed =
        let comes = elements e.is_element (Tree n c Empty) in
        All-weaker (Listed comes) (IsHeld (Come n c r)) (λ x is out _. let never = left-among x.0 comes (entered e.is_element r) is in absurd (cc (never, out))) xs listed

    pub all-held : (m : Merge L) → HasNoTurned m → (i j : Option S) → is_some i ≡ is_some j → Has now (inputs e i (new_of m)) → Has before (inputs e j (old_of m))
        → Holds held (told_all e j (old_of m)) → All (IsHeld m) (told_all e i (new_of m))
    all-held End turned i j some hi hj holds = All-nil (IsHeld End)
    all-held (Kept n c r) turned i j some hi hj holds =
        let x = past_all e (e.within n i) (new_of c) in
        let y = past_all e (e.within n j) (old_of c) in
        let rest_i = all-right now_has (input e n i) _ hi in
        let rest_j = all-right before_has (input e n j) _ hj in
        let rest_held = all-right has (told_all e (e.within n j) (old_of c)) _ holds in
        let place = cond (has_place c) (n.key ∷ []) [] in
        let below = entered e.is_element c in
        let beside = entered e.is_element r in
        All-append (IsHeld (Kept n c r)) (told_all e (e.within n i) (new_of c)) (told e n i x ++ told_all e (e.past n i x) (new_of r))
        (All-weaker (IsHeld c) (IsHeld (Kept n c r)) (λ z h out is. h (apart z.0 below beside (apart z.0 place (below ++ beside) out).1).0 is) (told_all e (e.within n i) (new_of c))
        (all-held c turned.0 (e.within n i) (e.within n j) (hands.within n i j some) (all-left now_has (inputs e (e.within n i) (new_of c)) _ rest_i) (all-left before_has (inputs e (e.within n j) (old_of c)) _ rest_j)
        (all-left has (told_all e (e.within n j) (old_of c)) _ holds)))
        (All-append (IsHeld (Kept n c r)) (told e n i x) (told_all e (e.past n i x) (new_of r))
        (held-own n c r i j some (e.is_element n.label) (all-left now_has (input e n i) _ hi) (all-left before_has (input e n j) _ hj) (all-left has (told e n j y) _ rest_held))
        (All-weaker (IsHeld r) (IsHeld (Kept n c r)) (λ z h out is. h (apart z.0 below beside (apart z.0 place (below ++ beside) out).1).1 is) (told_all e (e.past n i x) (new_of r))
        (all-held r turned.1 (e.past n i x) (e.past n j y) (hands.past n i x ∙ some ∙ sym (hands.past n j y)) (all-right now_has (inputs e (e.within n i) (new_of c)) _ rest_i)
        (all-right before_has (inputs e (e.within n j) (old_of c)) _ rest_j) (all-right has (told e n j y) _ rest_held))))
    all-held (Turned was n c r) turned i j some hi hj holds = absurd turned
    all-held (Gone n c r) turned i j some hi hj holds =
        let y = past_all e (e.within n j) c in
        all-held r turned i (e.past n j y) (some ∙ sym (hands.past n j y)) hi (all-right before_has (inputs e (e.within n j) c) _ (all-right before_has (input e n j) _ hj))
        (all-right has (told e n j y) _ (all-right has (told_all e (e.within n j) c) _ holds))
    all-held (Come n c r) turned i j some hi hj holds =
        let x = past_all e (e.within n i) c in
        let comes = elements e.is_element (Tree n c Empty) in
        let told_there = listed i (Tree n c Empty) in
        let rest = all-right (Listed comes) (told_all e (e.within n i) c) _ told_there in
        All-append (IsHeld (Come n c r)) (told_all e (e.within n i) c) (told e n i x ++ told_all e (e.past n i x) (new_of r))
        (held-come n c r (told_all e (e.within n i) c) (all-left (Listed comes) (told_all e (e.within n i) c) _ told_there))
        (All-append (IsHeld (Come n c r)) (told e n i x) (told_all e (e.past n i x) (new_of r))
        (held-come n c r (told e n i x) (all-left (Listed comes) (told e n i x) _ rest))
        (All-weaker (IsHeld r) (IsHeld (Come n c r)) (λ z h out is. h (apart z.0 comes (entered e.is_element r) out).1 is) (told_all e (e.past n i x) (new_of r))
        (all-held r turned (e.past n i x) j (hands.past n i x ∙ some) (all-right now_has (inputs e (e.within n i) c) _ (all-right now_has (input e n i) _ hi)) hj holds)))
