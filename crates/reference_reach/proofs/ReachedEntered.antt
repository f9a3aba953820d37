-- The elements that a merge enters where what is reached goes and comes. Throughout, n is a node, c what is under it, r
-- what is after it, g trees, and m a merge.
use Rattle.std.proofs.Common.{◌≡◌, ◌==◌, ◌<◌, ◌≤◌, ◌+◌, ◌||◌, ℕ, zero, suc, Bool, true, false, cond, List, [], ◌∷◌, ◌++◌, Some, refl, sym, ap, ap₂, subst, ◌∙◌, inl, inr, arith, eq-eqb, eqb-true}
use Rattle.std.proofs.lemmas.Option.{same_Some}
use Rattle.forest.specs.Forest.{Forest, Empty, IsOneTree, Tree}
use Rattle.forest.specs.Keys.{Keyed, HasDistinctKeys, times}
use Rattle.forest.specs.Paths.{on_path, path_of, trees_from}
use Rattle.forest.specs.Spots.{first_key}
use Rattle.forest.proofs.PathLaws.{key_at-path_of, path-counted}
use Rattle.forest.proofs.SpotLaws.{counted-live, distinct-parts, not-root, some_or_none}
use Rattle.plain_types.specs.declared.node.Node.{Node}
use Rattle.node_arena.specs.Changes.{alone}
use Rattle.merged_walk.specs.Merges.{Merge, End, Kept, Turned, Gone, Come, has_place, new_of, old_of}
use Rattle.edit_work.specs.KeyedSources.{elements_in}
use Rattle.styled_merge.specs.Reached.{reached}
use Rattle.styled_merge.specs.Stays.{IsUnturned}
use Rattle.reference_reach.specs.MergedNodes.{entered_elements}
use Rattle.reference_reach.proofs.EnteredLaws.{keys_above}
use Rattle.reference_reach.proofs.Lists.{Within, both-within, first-within, itself-within, left-within, nothing-within, right-within, same-within, sum-within, through-within}

-- a key, where a test holds
abbrev pub own : Bool → ℕ → List ℕ
own b k = cond b (k ∷ []) []

module _ (is_reached : ℕ → Bool) where
  -- a node is reached
  abbrev pub has_reached : Forest (Keyed Node) → Bool
  has_reached Empty = false
  has_reached (Tree n c r) = is_reached n.key || (has_reached c || has_reached r)

  -- the elements of the outermost trees whose roots are reached, and the nodes above these
  abbrev pub in_reached : Forest (Keyed Node) → List ℕ
  in_reached Empty = []
  in_reached (Tree n c r) = cond (is_reached n.key) (elements_in (Tree n c Empty)) (in_reached c) ++ in_reached r

  abbrev pub above_reached : Forest (Keyed Node) → List ℕ
  above_reached Empty = []
  above_reached (Tree n c r) = cond (is_reached n.key) [] (own (has_reached c) n.key ++ above_reached c) ++ above_reached r

  -- a merge has a place, or one comes by what is reached
  place-of : (b : Bool) (n : Keyed Node) (c r : Merge Node) → is_reached n.key ≡ b
      → (has_place (reached is_reached c) ≡ true → (has_place c || has_reached (old_of c)) ≡ true)
      → (has_place (reached is_reached r) ≡ true → (has_place r || has_reached (old_of r)) ≡ true)
      → has_place (cond b (Gone n (old_of c) (Come n (new_of c) (reached is_reached r))) (Kept n (reached is_reached c) (reached is_reached r))) ≡ true
      → ((has_place c || has_place r) || (b || (has_reached (old_of c) || has_reached (old_of r)))) ≡ true
  place-of true n c r is below beside h = last (has_place c || has_place r) (has_reached (old_of c) || has_reached (old_of r))
    where
      last : (x y : Bool) → (x || (true || y)) ≡ true
      last true y = refl
      last false y = refl
  place-of false n c r is below beside h = four (has_place c) (has_place r) (has_reached (old_of c)) (has_reached (old_of r)) (has_place (reached is_reached c)) (has_place (reached is_reached r)) below beside h
    where
      four : (x y u v a b : Bool) → (a ≡ true → (x || u) ≡ true) → (b ≡ true → (y || v) ≡ true) → (a || b) ≡ true → ((x || y) || (false || (u || v))) ≡ true
      four true y u v a b one other h = refl
      four false true u v a b one other h = refl
      four false false true v a b one other h = refl
      four false false false true a b one other h = refl
      four false false false false true b one other h = one refl
      four false false false false false b one other h = other h

  places : (m : Merge Node) → IsUnturned m → has_place (reached is_reached m) ≡ true → (has_place m || has_reached (old_of m)) ≡ true
  places End u h = absurd (cc h)
  places (Kept n c r) u h = place-of (is_reached n.key) n c r refl (places c u.0) (places r u.1) h
  places (Turned was n c r) u h = absurd u.0
  places (Gone n c r) u h = refl
  places (Come n c r) u h = refl

  own-either : (k : ℕ) (a x y : Bool) → (a ≡ true → (x || y) ≡ true) → Within (own a k) (own x k ++ own y k)
  own-either k false x y h = nothing-within (own x k ++ own y k)
  own-either k true true y h = left-within (k ∷ []) (own y k)
  own-either k true false true h = itself-within (k ∷ [])
  own-either k true false false h = absurd (cc (h refl))

  abbrev pub parts : Merge Node → List ℕ
  parts m = entered_elements m ++ (in_reached (new_of m) ++ above_reached (old_of m))

  -- three lists, each within one of three
  three : (xs ys zs us vs ws : List ℕ) → Within xs us → Within ys vs → Within zs ws → Within (xs ++ (ys ++ zs)) (us ++ (vs ++ ws))
  three xs ys zs us vs ws one two other = sum-within xs (ys ++ zs) us (vs ++ ws) one (sum-within ys zs vs ws two other)

  at-kept : (b : Bool) (n : Keyed Node) (c r : Merge Node) → IsUnturned c
      → Within (entered_elements (reached is_reached c)) (parts c) → Within (entered_elements (reached is_reached r)) (parts r)
      → Within (entered_elements (cond b (Gone n (old_of c) (Come n (new_of c) (reached is_reached r))) (Kept n (reached is_reached c) (reached is_reached r))))
      (entered_elements (Kept n c r)
      ++ ((cond b (elements_in (Tree n (new_of c) Empty)) (in_reached (new_of c)) ++ in_reached (new_of r))
      ++ (cond b [] (own (has_reached (old_of c)) n.key ++ above_reached (old_of c)) ++ above_reached (old_of r))))
  at-kept true n c r u below beside =
      let first : List ℕ = entered_elements (Kept n c r) in
      let tree : List ℕ = elements_in (Tree n (new_of c) Empty) in
      let rest : List ℕ = in_reached (new_of r) in
      let over : List ℕ = above_reached (old_of r) in
      let all : List ℕ = first ++ ((tree ++ rest) ++ over) in
      both-within tree (entered_elements (reached is_reached r))
      (through-within (left-within tree rest) (through-within (left-within (tree ++ rest) over) (right-within first ((tree ++ rest) ++ over))))
      (through-within beside
      (three (entered_elements r) rest over first (tree ++ rest) over
      (through-within (right-within (entered_elements c) (entered_elements r)) (right-within (own (has_place c) n.key) (entered_elements c ++ entered_elements r)))
      (right-within tree rest) (itself-within over)))
  at-kept false n c r u below beside =
      let mine : List ℕ = own (has_place c) n.key in
      let first : List ℕ = mine ++ (entered_elements c ++ entered_elements r) in
      let trees : List ℕ = in_reached (new_of c) ++ in_reached (new_of r) in
      let led : List ℕ = own (has_reached (old_of c)) n.key in
      let over : List ℕ = (led ++ above_reached (old_of c)) ++ above_reached (old_of r) in
      let to_over : Within over (first ++ (trees ++ over)) = through-within (right-within trees over) (right-within first (trees ++ over)) in
      both-within (own (has_place (reached is_reached c)) n.key) (entered_elements (reached is_reached c) ++ entered_elements (reached is_reached r))
      (through-within (own-either n.key (has_place (reached is_reached c)) (has_place c) (has_reached (old_of c)) (places c u))
      (both-within mine led
      (through-within (left-within mine (entered_elements c ++ entered_elements r)) (left-within first (trees ++ over)))
      (through-within (left-within led (above_reached (old_of c))) (through-within (left-within (led ++ above_reached (old_of c)) (above_reached (old_of r))) to_over))))
      (both-within (entered_elements (reached is_reached c)) (entered_elements (reached is_reached r))
      (through-within below
      (three (entered_elements c) (in_reached (new_of c)) (above_reached (old_of c)) first trees over
      (through-within (left-within (entered_elements c) (entered_elements r)) (right-within mine (entered_elements c ++ entered_elements r)))
      (left-within (in_reached (new_of c)) (in_reached (new_of r)))
      (through-within (right-within led (above_reached (old_of c))) (left-within (led ++ above_reached (old_of c)) (above_reached (old_of r))))))
      (through-within beside
      (three (entered_elements r) (in_reached (new_of r)) (above_reached (old_of r)) first trees over
      (through-within (right-within (entered_elements c) (entered_elements r)) (right-within mine (entered_elements c ++ entered_elements r)))
      (right-within (in_reached (new_of c)) (in_reached (new_of r)))
      (right-within (led ++ above_reached (old_of c)) (above_reached (old_of r))))))

  pub entered-reached : (m : Merge Node) → IsUnturned m → Within (entered_elements (reached is_reached m)) (parts m)
  entered-reached End u = nothing-within []
  entered-reached (Kept n c r) u = at-kept (is_reached n.key) n c r u.0 (entered-reached c u.0) (entered-reached r u.1)
  entered-reached (Turned was n c r) u = absurd u.0
  entered-reached (Gone n c r) u =
      through-within (entered-reached r u)
      (three (entered_elements r) (in_reached (new_of r)) (above_reached (old_of r)) (entered_elements r) (in_reached (new_of r)) (above_reached (Tree n c (old_of r)))
      (itself-within (entered_elements r)) (itself-within (in_reached (new_of r)))
      (right-within (cond (is_reached n.key) [] (own (has_reached c) n.key ++ above_reached c)) (above_reached (old_of r))))
  entered-reached (Come n c r) u =
      let tree : List ℕ = elements_in (Tree n c Empty) in
      let rest : List ℕ = in_reached (Tree n c (new_of r)) ++ above_reached (old_of r) in
      both-within tree (entered_elements (reached is_reached r))
      (through-within (left-within tree (entered_elements r)) (left-within (tree ++ entered_elements r) rest))
      (through-within (entered-reached r u)
      (three (entered_elements r) (in_reached (new_of r)) (above_reached (old_of r)) (tree ++ entered_elements r) (in_reached (Tree n c (new_of r))) (above_reached (old_of r))
      (right-within tree (entered_elements r))
      (right-within (cond (is_reached n.key) (elements_in (Tree n c Empty)) (in_reached c)) (in_reached (new_of r)))
      (itself-within (above_reached (old_of r)))))

-- One node reaches what stands at its path.
module _ (top : ℕ) where
  abbrev pub is_top : ℕ → Bool
  is_top k = top == k

  flipped : (k : ℕ) → (k == top) ≡ false → (top == k) ≡ false
  flipped k h = by (top == k) refl
    where
      by : (b : Bool) → (top == k) ≡ b → (top == k) ≡ false
      by false is = is
      by true is = absurd (let never : true ≡ false = sym (eq-eqb k top (sym (eqb-true top k is))) ∙ h in cc)

  not-root-key : (n : Keyed Node) (c r : Forest (Keyed Node)) → times top (Tree n c r) ≡ 0 → (n.key == top) ≡ false
  not-root-key n c r none = by (n.key == top) refl none
    where
      by : (b : Bool) → (n.key == top) ≡ b → cond {A = ℕ} b 1 0 + (times top c + times top r) ≡ 0 → (n.key == top) ≡ false
      by false is h = is
      by true is h = absurd (omega arith)

  -- what is reached of trees that do not have it
  record ReachesNone (g : Forest (Keyed Node)) : Type 0 where
    none : has_reached is_top g ≡ false
    trees : in_reached is_top g ≡ []
    over : above_reached is_top g ≡ []

  none-there : (g : Forest (Keyed Node)) → times top g ≡ 0 → ReachesNone g
  none-there Empty h = record { none = refl; trees = refl; over = refl }
  none-there (Tree n c r) h =
      let not = flipped n.key (not-root-key n c r h) in
      let below : ReachesNone c = none-there c (omega (arith, h)) in
      let beside : ReachesNone r = none-there r (omega (arith, h)) in
      record {
        none = ap (λ b. b || (has_reached is_top c || has_reached is_top r)) not ∙ ap₂ (λ x y. x || y) below.none beside.none;
        trees =
            ap (λ b. cond b (elements_in (Tree n c Empty)) (in_reached is_top c) ++ in_reached is_top r) not
            ∙ ap₂ (λ xs ys. xs ++ ys) below.trees beside.trees;
        over =
            ap (λ b. cond b [] (own (has_reached is_top c) n.key ++ above_reached is_top c) ++ above_reached is_top r) not
            ∙ ap (λ b. (own b n.key ++ above_reached is_top c) ++ above_reached is_top r) below.none
            ∙ ap₂ (λ xs ys. xs ++ ys) below.over beside.over;
      }

  -- it is at this place
  pub record IsAt (i : ℕ) (path : List ℕ) (g : Forest (Keyed Node)) : Type 0 where
    pub trees : Within (in_reached is_top g) (elements_in (alone (on_path path (trees_from i g))))
    pub over : Within (above_reached is_top g) (keys_above path (trees_from i g))

  -- what is not the top
  elsewhere : (n : Keyed Node) (c r : Forest (Keyed Node)) → (n.key == top) ≡ false
      → (in_reached is_top (Tree n c r) ≡ in_reached is_top c ++ in_reached is_top r)
      × (above_reached is_top (Tree n c r) ≡ (own (has_reached is_top c) n.key ++ above_reached is_top c) ++ above_reached is_top r)
  elsewhere n c r not =
      let is = flipped n.key not in (
        ap (λ b. cond b (elements_in (Tree n c Empty)) (in_reached is_top c) ++ in_reached is_top r) is,
        ap (λ b. cond b [] (own (has_reached is_top c) n.key ++ above_reached is_top c) ++ above_reached is_top r) is,
      )

  empty-within : (xs ys : List ℕ) → xs ≡ [] → Within xs ys
  empty-within xs ys is = through-within (same-within xs [] is) (nothing-within ys)

  there : (i : ℕ) (path : List ℕ) (g : Forest (Keyed Node)) → HasDistinctKeys g → first_key (on_path path (trees_from i g)) ≡ Some top → IsAt i path g
  there i path Empty distinct at = absurd (omega (arith, path-counted {L = Node} Empty i path top at))
  there zero [] (Tree n c r) distinct at =
      let is : n.key ≡ top = same_Some n.key top at in
      let here : (top == n.key) ≡ true = eq-eqb top n.key (sym is) in
      let root : (n.key == top) ≡ true = eq-eqb n.key top is in
      let after : times top r ≡ 0 = subst (λ b. cond {A = ℕ} b 1 0 + (times top c + times top r) ≤ 1 → times top r ≡ 0) (sym root) (λ h. omega (arith, h)) (distinct top) in
      let beside = none-there r after in
      let tree : List ℕ = elements_in (Tree n c Empty) in
      record {
        trees =
            through-within (same-within (in_reached is_top (Tree n c r)) (tree ++ in_reached is_top r) (ap (λ b. cond b tree (in_reached is_top c) ++ in_reached is_top r) here))
            (both-within tree (in_reached is_top r) (itself-within tree) (empty-within (in_reached is_top r) tree beside.trees));
        over =
            empty-within (above_reached is_top (Tree n c r)) []
            (ap (λ b. cond b [] (own (has_reached is_top c) n.key ++ above_reached is_top c) ++ above_reached is_top r) here ∙ beside.over);
      }
  there zero (k ∷ path) (Tree n c r) distinct at =
      let parts = distinct-parts n c r distinct in
      let below : 0 < times top c = path-counted c k path top at in
      let not = not-root n c r top distinct (omega (arith, below)) in
      let after : times top r ≡ 0 = omega (arith, distinct top, below) in
      let inner : IsAt k path c = there k path c parts.0 at in
      let beside = none-there r after in
      let its = elsewhere n c r not in
      let place : List ℕ = elements_in (alone (on_path path (trees_from k c))) in
      let led : List ℕ = own (has_reached is_top c) n.key in
      let way : List ℕ = keys_above path (trees_from k c) in
      record {
        trees =
            through-within (same-within (in_reached is_top (Tree n c r)) (in_reached is_top c ++ in_reached is_top r) its.0)
            (both-within (in_reached is_top c) (in_reached is_top r) inner.trees (empty-within (in_reached is_top r) place beside.trees));
        over =
            through-within (same-within (above_reached is_top (Tree n c r)) ((led ++ above_reached is_top c) ++ above_reached is_top r) its.1)
            (both-within (led ++ above_reached is_top c) (above_reached is_top r)
            (both-within led (above_reached is_top c) (first-within n.key (has_reached is_top c) way) (through-within inner.over (right-within (n.key ∷ []) way)))
            (empty-within (above_reached is_top r) (n.key ∷ way) beside.over));
      }
  there (suc i) path (Tree n c r) distinct at =
      let parts = distinct-parts n c r distinct in
      let beside : 0 < times top r = path-counted r i path top at in
      let not = not-root n c r top distinct (omega (arith, beside)) in
      let under : times top c ≡ 0 = omega (arith, distinct top, beside) in
      let inner : IsAt i path r = there i path r parts.1 at in
      let none = none-there c under in
      let its = elsewhere n c r not in
      let place : List ℕ = elements_in (alone (on_path path (trees_from i r))) in
      let led : List ℕ = own (has_reached is_top c) n.key in
      let way : List ℕ = keys_above path (trees_from i r) in
      record {
        trees =
            through-within (same-within (in_reached is_top (Tree n c r)) (in_reached is_top c ++ in_reached is_top r) its.0)
            (both-within (in_reached is_top c) (in_reached is_top r) (empty-within (in_reached is_top c) place none.trees) inner.trees);
        over =
            through-within (same-within (above_reached is_top (Tree n c r)) ((led ++ above_reached is_top c) ++ above_reached is_top r) its.1)
            (both-within (led ++ above_reached is_top c) (above_reached is_top r)
            (empty-within (led ++ above_reached is_top c) way (ap₂ (λ xs ys. xs ++ ys) (ap (λ b. own b n.key) none.none) none.over)) inner.over);
      }

  -- in a document
  pub at-its-path : (g : Forest (Keyed Node)) → HasDistinctKeys g → IsOneTree g → IsAt zero (path_of g top) g
  at-its-path g distinct tree =
      let place : List ℕ = elements_in (alone (on_path (path_of g top) g)) in
      elim (some_or_none (times top g)) [
        | inl none ↦
            let its = none-there g none in
            record { trees = empty-within (in_reached is_top g) place its.trees; over = empty-within (above_reached is_top g) (keys_above (path_of g top) g) its.over }
        | inr some ↦ there zero (path_of g top) g distinct (key_at-path_of g top tree (counted-live g top some))
      ]

-- Two nodes reach no more than each of them does.
module _ (first second : ℕ) where
  abbrev pub is_either : ℕ → Bool
  is_either k = (first == k) || (second == k)

  abbrev pub is_first : ℕ → Bool
  is_first k = first == k

  abbrev pub is_second : ℕ → Bool
  is_second k = second == k

  swap-or : (a b u v x y : Bool) → ((a || b) || ((u || v) || (x || y))) ≡ ((a || (u || x)) || (b || (v || y)))
  swap-or true b u v x y = refl
  swap-or false true true v x y = refl
  swap-or false true false v true y = refl
  swap-or false true false v false y = refl
  swap-or false false true v x y = refl
  swap-or false false false true true y = refl
  swap-or false false false true false y = refl
  swap-or false false false false true y = refl
  swap-or false false false false false y = refl

  has-either : (g : Forest (Keyed Node)) → has_reached is_either g ≡ (has_reached is_first g || has_reached is_second g)
  has-either Empty = refl
  has-either (Tree n c r) =
      ap₂ (λ x y. ((first == n.key) || (second == n.key)) || (x || y)) (has-either c) (has-either r)
      ∙ swap-or (first == n.key) (second == n.key) (has_reached is_first c) (has_reached is_second c) (has_reached is_first r) (has_reached is_second r)

  -- each list of a sum is within two sums
  two-sums : (xs ys us vs ss ts : List ℕ) → Within xs (us ++ ss) → Within ys (vs ++ ts) → Within (xs ++ ys) ((us ++ vs) ++ (ss ++ ts))
  two-sums xs ys us vs ss ts one other =
      both-within xs ys
      (through-within one (sum-within us ss (us ++ vs) (ss ++ ts) (left-within us vs) (left-within ss ts)))
      (through-within other (sum-within vs ts (us ++ vs) (ss ++ ts) (right-within us vs) (right-within ss ts)))

  trees-own : (a b : Bool) (tree both one other : List ℕ) → Within both (one ++ other) → Within (cond (a || b) tree both) (cond a tree one ++ cond b tree other)
  trees-own true b tree both one other h = left-within tree (cond b tree other)
  trees-own false true tree both one other h = right-within one tree
  trees-own false false tree both one other h = h

  pub trees-either : (g : Forest (Keyed Node)) → Within (in_reached is_either g) (in_reached is_first g ++ in_reached is_second g)
  trees-either Empty = nothing-within []
  trees-either (Tree n c r) =
      let tree : List ℕ = elements_in (Tree n c Empty) in
      two-sums (cond ((first == n.key) || (second == n.key)) tree (in_reached is_either c)) (in_reached is_either r)
      (cond (first == n.key) tree (in_reached is_first c)) (in_reached is_first r) (cond (second == n.key) tree (in_reached is_second c)) (in_reached is_second r)
      (trees-own (first == n.key) (second == n.key) tree (in_reached is_either c) (in_reached is_first c) (in_reached is_second c) (trees-either c)) (trees-either r)

  over-own : (a b : Bool) (both one other : List ℕ) → Within both (one ++ other) → Within (cond (a || b) [] both) (cond a [] one ++ cond b [] other)
  over-own true b both one other h = nothing-within (cond b [] other)
  over-own false true both one other h = nothing-within (one ++ [])
  over-own false false both one other h = h

  led-either : (k : ℕ) (b x y : Bool) → b ≡ (x || y) → Within (own b k) (own x k ++ own y k)
  led-either k b x y is = own-either is_either k b x y (λ h. sym is ∙ h)

  pub over-either : (g : Forest (Keyed Node)) → Within (above_reached is_either g) (above_reached is_first g ++ above_reached is_second g)
  over-either Empty = nothing-within []
  over-either (Tree n c r) =
      let both : List ℕ = own (has_reached is_either c) n.key ++ above_reached is_either c in
      let one : List ℕ = own (has_reached is_first c) n.key ++ above_reached is_first c in
      let other : List ℕ = own (has_reached is_second c) n.key ++ above_reached is_second c in
      two-sums (cond ((first == n.key) || (second == n.key)) [] both) (above_reached is_either r)
      (cond (first == n.key) [] one) (above_reached is_first r) (cond (second == n.key) [] other) (above_reached is_second r)
      (over-own (first == n.key) (second == n.key) both one other
      (two-sums (own (has_reached is_either c) n.key) (above_reached is_either c) (own (has_reached is_first c) n.key) (above_reached is_first c)
      (own (has_reached is_second c) n.key) (above_reached is_second c)
      (led-either n.key (has_reached is_either c) (has_reached is_first c) (has_reached is_second c) (has-either c)) (over-either c)))
      (over-either r)
