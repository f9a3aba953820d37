-- The elements that refer to changed targets weigh no more than the point of references. Throughout, w is a weight, n a
-- node, c what is under it, r what is after it, g trees, k a key, and xs, ys and bs keys.
use Rattle.std.proofs.Common.{◌≡◌, ◌==◌, ◌≤◌, ◌+◌, ◌||◌, ℕ, Bool, true, false, not, cond, List, [], ◌∷◌, ◌++◌, Option, Some, None, IsSome, refl, sym, ap, subst, ◌∙◌, inl, inr, arith, eqb-true}
use Rattle.std.specs.Prelude.{filter, sum_by}
use Rattle.std.specs.List.{list_any}
use Rattle.std.specs.Option.{option_map_or}
use Rattle.std.proofs.lemmas.Bool.Decides.{nat_tests}
use Rattle.std.proofs.lemmas.List.Folds.{list_any-append}
use Rattle.std.proofs.lemmas.List.Sums.{sum_by-append, sum_by-cons}
use Rattle.forest.specs.Forest.{Forest, Empty, Tree}
use Rattle.forest.specs.Keys.{Keyed, HasDistinctKeys, times}
use Rattle.forest.proofs.SpotLaws.{distinct-parts, some_or_none}
use Rattle.plain_types.specs.declared.edit.Edit.{Edit}
use Rattle.plain_types.specs.declared.node.Node.{Node}
use Rattle.node_arena.specs.Nodes.{name_of}
use Rattle.generated_texts.specs.References.{first_holder}
use Rattle.merged_walk.specs.Evaluators.{weigh_elements}
use Rattle.edit_merge.specs.EditMerges.{is_element}
use Rattle.edit_work.specs.KeyedSources.{KeyedSource, either, element_key, elements_in, is_among, references_held, weight}
use Rattle.edit_work.specs.References.{elements_referring, is_touched_id, names_one, referring_first, referring_second}
use Rattle.edit_work.specs.Work.{referring, referring_to_points}
use Rattle.reference_reach.specs.Laws.{elements_where, evaluated, other_points}
use Rattle.reference_reach.specs.ChangedTargets.{has_other_target, has_changed_target, has_referring_target, refers, refers_through}
use Rattle.reference_reach.proofs.HolderLaws.{holder-element, holder-listed}

-- Weights of elements.

weigh-zero : (g : Forest (Keyed Node)) → weigh_elements is_element (λ k. 0) g ≡ 0
weigh-zero Empty = refl
weigh-zero (Tree n c r) = omega (arith, zero-own (is_element n.label), weigh-zero c, weigh-zero r)
  where
    zero-own : (b : Bool) → cond {A = ℕ} b 0 0 ≡ 0
    zero-own true = refl
    zero-own false = refl

weigh-sum : (u v w : ℕ → ℕ) → ((k : ℕ) → u k ≤ v k + w k) → (g : Forest (Keyed Node)) → weigh_elements is_element u g ≤ weigh_elements is_element v g + weigh_elements is_element w g
weigh-sum u v w few Empty = omega arith
weigh-sum u v w few (Tree n c r) = omega (arith, own (is_element n.label), weigh-sum u v w few c, weigh-sum u v w few r)
  where
    own : (b : Bool) → cond b (u n.key) 0 ≤ cond b (v n.key) 0 + cond b (w n.key) 0
    own true = few n.key
    own false = omega arith

other-way : (a b : ℕ) → (a == b) ≡ false → (b == a) ≡ false
other-way a b h = grind (arith, nat_tests, h)

-- what a key weighs, where it is this one
abbrev one_weight : (ℕ → ℕ) → ℕ → ℕ → ℕ
one_weight w q k = cond (q == k) (w k) 0

module _ (w : ℕ → ℕ) (q : ℕ) where
  own-weight : (k : ℕ) (b : Bool) → cond b (one_weight w q k) 0 ≤ w q
  own-weight k b = by b (q == k) refl
    where
      by : (b x : Bool) → (q == k) ≡ x → cond b (cond x (w k) 0) 0 ≤ w q
      by false x is = omega arith
      by true false is = omega arith
      by true true is = subst (λ k. w k ≤ w q) (eqb-true q k is) (omega arith)

  not-own : (k : ℕ) (b : Bool) → (k == q) ≡ false → cond b (one_weight w q k) 0 ≡ 0
  not-own k true h = ap (λ x. cond x (w k) 0) (other-way k q h)
  not-own k false h = refl

  weigh-absent : (g : Forest (Keyed Node)) → times q g ≡ 0 → weigh_elements is_element (one_weight w q) g ≡ 0
  weigh-absent Empty h = refl
  weigh-absent (Tree n c r) h =
      omega (arith, not-own n.key (is_element n.label) (not-key (n.key == q) h), weigh-absent c (omega arith), weigh-absent r (omega arith))
    where
      not-key : (b : Bool) → cond {A = ℕ} b 1 0 + (times q c + times q r) ≡ 0 → b ≡ false
      not-key true h = absurd (omega arith)
      not-key false h = refl

  weigh-once : (g : Forest (Keyed Node)) → HasDistinctKeys g → weigh_elements is_element (one_weight w q) g ≤ w q
  weigh-once Empty d = omega arith
  weigh-once (Tree n c r) d = let parts = distinct-parts n c r d in by (n.key == q) refl (d q) (weigh-once c parts.0) (weigh-once r parts.1)
    where
      by : (b : Bool) → (n.key == q) ≡ b → cond {A = ℕ} b 1 0 + (times q c + times q r) ≤ 1
          → weigh_elements is_element (one_weight w q) c ≤ w q → weigh_elements is_element (one_weight w q) r ≤ w q → weigh_elements is_element (one_weight w q) (Tree n c r) ≤ w q
      by true is once below beside = omega (arith, own-weight n.key (is_element n.label), weigh-absent c (omega arith), weigh-absent r (omega arith))
      by false is once below beside = elim (some_or_none (times q c)) [
        | inl none ↦ omega (arith, not-own n.key (is_element n.label) is, weigh-absent c none, beside)
        | inr some ↦ omega (arith, not-own n.key (is_element n.label) is, weigh-absent r (omega arith), below)
      ]

-- the elements that are among some keys weigh no more than these
weigh-among : (w : ℕ → ℕ) (bs : List ℕ) (g : Forest (Keyed Node)) → HasDistinctKeys g → weigh_elements is_element (λ k. cond (is_among bs k) (w k) 0) g ≤ sum_by w bs
weigh-among w [] g d = omega (arith, weigh-zero g)
weigh-among w (b ∷ bs) g d =
    omega (
      arith,
      weigh-sum (λ k. cond (is_among (b ∷ bs) k) (w k) 0) (one_weight w b) (λ k. cond (is_among bs k) (w k) 0) (λ k. two (b == k) (is_among bs k) (w k)) g,
      weigh-once w b g d,
      weigh-among w bs g d,
      sum_by-cons w b bs,
    )
  where
    two : (x y : Bool) (a : ℕ) → cond (x || y) a 0 ≤ cond x a 0 + cond y a 0
    two true y a = omega arith
    two false y a = omega arith

first-filtered : (w : ℕ → ℕ) (x : ℕ) (kept : List ℕ) (b : Bool) → sum_by w (cond b (x ∷ kept) kept) ≡ cond b (w x) 0 + sum_by w kept
first-filtered w x kept true = sum_by-cons w x kept
first-filtered w x kept false = omega arith

sum-filtered : (w : ℕ → ℕ) (test : ℕ → Bool) (xs : List ℕ) → sum_by w (filter test xs) ≡ sum_by (λ k. cond (test k) (w k) 0) xs
sum-filtered w test [] = refl
sum-filtered w test (x ∷ xs) =
    first-filtered w x (filter test xs) (test x)
    ∙ ap (λ sum. cond (test x) (w x) 0 + sum) (sum-filtered w test xs)
    ∙ sym (sum_by-cons (λ k. cond (test k) (w k) 0) x xs)

sum-own : (w : ℕ → ℕ) (k : ℕ) (b : Bool) → sum_by w (cond b (k ∷ []) []) ≡ cond b (w k) 0
sum-own w k true = omega arith
sum-own w k false = refl

sum-elements : (w : ℕ → ℕ) (g : Forest (Keyed Node)) → sum_by w (elements_in g) ≡ weigh_elements is_element w g
sum-elements w Empty = refl
sum-elements w (Tree n c r) =
    omega (
      arith,
      sum_by-append w (element_key n) (elements_in c ++ elements_in r),
      sum_by-append w (elements_in c) (elements_in r),
      sum-own w n.key (is_element n.label),
      sum-elements w c,
      sum-elements w r,
    )

-- what a key weighs, where it passes a test
abbrev passing : (ℕ → ℕ) → (ℕ → Bool) → ℕ → ℕ
passing w test k = cond (test k) (w k) 0

sum-passing : (w : ℕ → ℕ) (test : ℕ → Bool) (g : Forest (Keyed Node)) → sum_by w (filter test (elements_in g)) ≡ weigh_elements is_element (passing w test) g
sum-passing w test g = sum-filtered w test (elements_in g) ∙ sum-elements (passing w test) g

-- The elements that pass a test weigh no more than some keys and those beside them that pass a weaker one.
module _ (w : ℕ → ℕ) (strong weak : ℕ → Bool) (weaker : (k : ℕ) → strong k ≡ true → weak k ≡ true) where
  abbrev beside_weight : List ℕ → ℕ → ℕ
  beside_weight bs k = cond (not (is_among bs k)) (w k) 0

  each-weight : (bs : List ℕ) (k : ℕ) → cond (strong k) (w k) 0 ≤ cond (is_among bs k) (w k) 0 + cond (weak k) (beside_weight bs k) 0
  each-weight bs k = by (strong k) (weak k) (is_among bs k) (weaker k)
    where
      by : (s v a : Bool) → (s ≡ true → v ≡ true) → cond s (w k) 0 ≤ cond a (w k) 0 + cond v (cond (not a) (w k) 0) 0
      by false v a implies = omega arith
      by true v true implies = omega arith
      by true true false implies = omega arith
      by true false false implies = absurd (cc (implies refl))

  pub within-either : (bs : List ℕ) (g : Forest (Keyed Node)) → HasDistinctKeys g → sum_by w (filter strong (elements_in g)) ≤ sum_by w (either bs (filter weak (elements_in g)))
  within-either bs g d =
      omega (
        arith,
        sum-passing w strong g,
        weigh-sum (passing w strong) (λ k. cond (is_among bs k) (w k) 0) (passing (beside_weight bs) weak) (each-weight bs) g,
        weigh-among w bs g d,
        sum-passing (beside_weight bs) weak g,
        sum-filtered w (λ k. not (is_among bs k)) (filter weak (elements_in g)),
        sum_by-append w bs (filter (λ k. not (is_among bs k)) (filter weak (elements_in g))),
      )

-- Which keys are listed.

second-true : (a b : Bool) → b ≡ true → (a || b) ≡ true
second-true true b h = refl
second-true false b h = h

either-more : (a b c d : Bool) → (a ≡ true → c ≡ true) → (b ≡ true → d ≡ true) → (a || b) ≡ true → (c || d) ≡ true
either-more true b c d first rest h = ap (λ x. x || d) (first refl)
either-more false b c d first rest h = second-true c d (rest h)

list-any-more : {X : Type 0} (one other : X → Bool) → ((x : X) → one x ≡ true → other x ≡ true) → (xs : List X) → list_any one xs ≡ true → list_any other xs ≡ true
list-any-more one other more [] h = h
list-any-more one other more (x ∷ xs) h = either-more (one x) (list_any one xs) (other x) (list_any other xs) (more x) (list-any-more one other more xs) h

module _ (test : ℕ → Bool) (k : ℕ) (passes : test k ≡ true) where
  first-among : (x : ℕ) (xs kept : List ℕ) (e t : Bool) → (x == k) ≡ e → test x ≡ t → (is_among xs k ≡ true → is_among kept k ≡ true)
      → (e || is_among xs k) ≡ true → is_among (cond t (x ∷ kept) kept) k ≡ true
  first-among x xs kept true true is at rest h = ap (λ b. b || is_among kept k) is
  first-among x xs kept true false is at rest h =
      let same : test x ≡ true = subst (λ y. test y ≡ true) (sym (eqb-true x k is)) passes in
      absurd (cc (same, at))
  first-among x xs kept false true is at rest h = second-true (x == k) (is_among kept k) (rest h)
  first-among x xs kept false false is at rest h = rest h

  pub among-filter : (xs : List ℕ) → is_among xs k ≡ true → is_among (filter test xs) k ≡ true
  among-filter [] h = h
  among-filter (x ∷ xs) h = first-among x xs (filter test xs) (x == k) (test x) refl refl (among-filter xs) h

among-either : (bs xs : List ℕ) (k : ℕ) → is_among xs k ≡ true → is_among (either bs xs) k ≡ true
among-either bs xs k h = list_any-append (λ other. other == k) bs (filter (λ key. not (is_among bs key)) xs) ∙ by (is_among bs k) refl
  where
    by : (b : Bool) → is_among bs k ≡ b → (b || is_among (filter (λ key. not (is_among bs key)) xs) k) ≡ true
    by true is = refl
    by false is = among-filter (λ key. not (is_among bs key)) k (ap not is) xs h

-- The point of references.

module _ (edit : Edit) (before after : KeyedSource) (changed : List ℕ) (distinct : HasDistinctKeys after.tree)
    (points : (k : ℕ) → IsSome (name_of after.tree k) → is_among changed k ≡ true → is_among (other_points edit before after) k ≡ true) where
  abbrev others : List ℕ
  others = other_points edit before after

  abbrev first : List ℕ
  first = referring_first before after others

  -- an id with a changed target is touched for the work
  touched-more : (id : List ℕ) → has_changed_target (evaluated before) (evaluated after) changed id ≡ true → is_touched_id before after others id ≡ true
  touched-more id h = by (has_other_target (evaluated before) (evaluated after) id) (first_holder after.tree id) refl h
    where
      by : (b : Bool) (o : Option ℕ) → first_holder after.tree id ≡ o → (b || option_map_or (is_among changed) o false) ≡ true
          → (b || (option_map_or (is_among others) (first_holder before.tree id) false || option_map_or (is_among others) o false)) ≡ true
      by true o at h = refl
      by false None at h = absurd (cc)
      by false (Some k) at h =
          second-true (option_map_or (is_among others) (first_holder before.tree id) false) (is_among others k) (points k (holder-element id after.tree k distinct at) h)

  refers-more : (k : ℕ) → refers (evaluated before) (evaluated after) changed k ≡ true → list_any (is_touched_id before after others) (references_held after k) ≡ true
  refers-more k h = list-any-more (has_changed_target (evaluated before) (evaluated after) changed) (is_touched_id before after others) touched-more (references_held after k) h

  -- and one whose target refers to such an id names one of the elements that refer first
  through-more : (id : List ℕ) → has_referring_target (evaluated before) (evaluated after) changed id ≡ true → names_one before after first id ≡ true
  through-more id h = by (first_holder after.tree id) refl h
    where
      by : (o : Option ℕ) → first_holder after.tree id ≡ o → option_map_or (refers (evaluated before) (evaluated after) changed) o false ≡ true
          → (option_map_or (is_among first) (first_holder before.tree id) false || option_map_or (is_among first) o false) ≡ true
      by None at h = absurd (cc)
      by (Some k) at h =
          let tests : ℕ → Bool = λ key. list_any (is_touched_id before after others) (references_held after key) in
          second-true (option_map_or (is_among first) (first_holder before.tree id) false) (is_among first k)
          (among-either (elements_referring (is_touched_id before after others) before) (elements_referring (is_touched_id before after others) after) k
          (among-filter tests k (refers-more k h) (elements_in after.tree) (holder-listed id after.tree k at)))

  refers-through-more : (k : ℕ) → refers_through (evaluated before) (evaluated after) changed k ≡ true → list_any (names_one before after first) (references_held after k) ≡ true
  refers-through-more k h = list-any-more (has_referring_target (evaluated before) (evaluated after) changed) (names_one before after first) through-more (references_held after k) h

  pub referring-pays : let w : ℕ → ℕ = weight before after in
      (sum_by w (elements_where (refers (evaluated before) (evaluated after) changed) after)
      + sum_by w (elements_where (refers_through (evaluated before) (evaluated after) changed) after))
      ≤ sum_by w (referring edit before after)
  unfolding referring
  referring-pays =
      let w = weight before after in
      omega (
        arith,
        within-either w (refers (evaluated before) (evaluated after) changed) (λ k. list_any (is_touched_id before after others) (references_held after k)) refers-more
            (elements_referring (is_touched_id before after others) before) after.tree distinct,
        within-either w (refers_through (evaluated before) (evaluated after) changed) (λ k. list_any (names_one before after first) (references_held after k)) refers-through-more
            (elements_referring (names_one before after first) before) after.tree distinct,
        sum_by-append w (referring_to_points edit before after) (referring_second before after (referring_to_points edit before after)),
      )
