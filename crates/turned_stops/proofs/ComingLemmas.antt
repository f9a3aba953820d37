-- An element comes where a tree comes whose root is on the way to it. Throughout, n is a node, c what is under it, r what is after it, f trees, p
-- the parent of a level and e the nodes of the level before it, k a key, b whether the node of this key is an element, and q the key of the
-- root of a tree.
use Rattle.std.proofs.Common.{◌≡◌, ◌==◌, ◌<◌, ◌≤◌, ◌+◌, ◌||◌, ◌&&◌, ◌⊎◌, ℕ, Bool, true, false, cond, List, [], ◌∷◌, ◌++◌, Option, Some, None, length, take, get_or, refl, sym, ap, ap₂, subst, ◌∙◌, inl, inr, arith, append-nil, eqb-true}
use Rattle.std.specs.Prelude.{is_some, nat_eq, option_and_then, option_map, unwrap_or}
use Rattle.std.specs.List.{list_any}
use Rattle.std.specs.Option.{option_eq, option_or}
use Rattle.std.proofs.lemmas.Bool.{and_right, cases_Bool, or_left}
use Rattle.std.proofs.lemmas.Grind.{flat_map-append}
use Rattle.std.proofs.lemmas.List.{take_more}
use Rattle.std.proofs.lemmas.List.Folds.{list_any-append}
use Rattle.forest.specs.Forest.{Forest, Empty, Tree, labels}
use Rattle.forest.specs.Keys.{Keyed, HasDistinctKeys, times}
use Rattle.forest.specs.Spots.{IsLive, Spot, keyed, spot, tree_of}
use Rattle.forest.proofs.SpotLaws.{below-or-after, counted-live, distinct-parts, live-spot, root-once, some_or_none, spot-absent, spot-some, the_some, the_spot}
use Rattle.plain_types.specs.declared.node.Node.{Node}
use Rattle.node_arena.specs.Changes.{alone}
use Rattle.node_arena.specs.Nodes.{name_of, node_name}
use Rattle.merged_walk.specs.declared.stop.Stop.{Stop}
use Rattle.merged_walk.specs.declared.stop.Way.{Way}
use Rattle.merged_walk.specs.declared.stop.Way.TheVariants.{Past, Inside, Anew}
use Rattle.edit_merge.specs.EditMerges.{is_element}
use Rattle.edit_work.specs.KeyedSources.{element_key, elements_in, is_among}
use Rattle.referring_elements.proofs.NodesLeft.{told_of}
use Rattle.start_reach.specs.TurnedElements.{way_in, way_to}
use Rattle.start_reach.proofs.ClimbLaws.{ways_are_climbed}
use Rattle.start_reach.proofs.TurnedLaws.{absent-way, key-flipped}
use Rattle.turned_stops.specs.Coming.{coming_at_stops, coming_by}
use Rattle.turned_stops.specs.Machinery.ComingAt.{comes_at, is_anew}
use Rattle.turned_stops.proofs.ElementCounts.{Says, elements-count, one, one-false, one-true, says-there}

some-or-not : {A : Type 0} (o : Option A) → (o ≡ None) ⊎ ((x : A) × (o ≡ Some x))
some-or-not None = inl refl
some-or-not (Some x) = inr (x, refl)

not-empty : (xs : List ℕ) (x : ℕ) → [] ≡ xs ++ x ∷ [] → ⊥
not-empty [] x h = cc h
not-empty (y ∷ xs) x h = cc h

-- a node that stands in trees has a way
no-node : (k : ℕ) (f : Forest (Keyed Node)) → HasDistinctKeys f → way_in f k ≡ None → times k f ≡ 0
no-node k f d none = elim (some_or_none (times k f)) [
  | inl is ↦ is
  | inr some ↦ absurd (not-empty _ k (sym (ap (λ o. unwrap_or o []) none) ∙ ways_are_climbed Node f d k (counted-live f k some)))
]

module _ (k : ℕ) (q : ℕ) where
  -- the way to the node leads through this one
  abbrev pub leads : Forest (Keyed Node) → Bool
  leads f = list_any (λ x. q == x) (unwrap_or (way_in f k) [])

  abbrev leads-by : Bool → Keyed Node → (c r : Option (List ℕ)) → Bool
  leads-by t n c r = list_any (λ x. q == x) (unwrap_or (cond t (Some (n.key ∷ [])) (option_or (option_map (λ way. n.key ∷ way) c) r)) [])

  leads-root : (n : Keyed Node) (c r : Forest (Keyed Node)) → (n.key == k) ≡ true → leads (Tree n c r) ≡ ((q == n.key) || false)
  leads-root n c r is = ap (λ t. leads-by t n (way_in c k) (way_in r k)) is

  leads-below : (n : Keyed Node) (c r : Forest (Keyed Node)) (way : List ℕ) → (n.key == k) ≡ false → way_in c k ≡ Some way → leads (Tree n c r) ≡ ((q == n.key) || leads c)
  leads-below n c r way not is =
      ap (λ t. leads-by t n (way_in c k) (way_in r k)) not
      ∙ ap (λ o. leads-by false n o (way_in r k)) is
      ∙ ap (λ o. (q == n.key) || list_any (λ x. q == x) (unwrap_or o [])) (sym is)

  leads-beside : (n : Keyed Node) (c r : Forest (Keyed Node)) → (n.key == k) ≡ false → way_in c k ≡ None → leads (Tree n c r) ≡ leads r
  leads-beside n c r not is = ap (λ t. leads-by t n (way_in c k) (way_in r k)) not ∙ ap (λ o. leads-by false n o (way_in r k)) is

  no-way : (f : Forest (Keyed Node)) → way_in f k ≡ None → leads f ≡ false
  no-way f is = ap (λ o. list_any (λ x. q == x) (unwrap_or o [])) is

  absent-key : (f : Forest (Keyed Node)) → times k f ≡ 0 → leads f ≡ false
  absent-key f none = no-way f (absent-way is_element k f none)

  other-root : (n : Keyed Node) (x y : ℕ) → cond {A = ℕ} (n.key == q) 1 0 + (x + y) ≡ 0 → (q == n.key) ≡ false
  other-root n x y none = key-flipped q n.key ∙ by (n.key == q) none
    where
      by : (t : Bool) → cond {A = ℕ} t 1 0 + (x + y) ≡ 0 → t ≡ false
      by true none = absurd (omega (arith, none))
      by false none = refl

  -- no way leads through a node that does not stand in the trees
  absent-link : (f : Forest (Keyed Node)) → times q f ≡ 0 → leads f ≡ false
  absent-link Empty none = refl
  absent-link (Tree n c r) none =
      let root : (q == n.key) ≡ false = other-root n (times q c) (times q r) none in
      elim (cases_Bool (n.key == k)) [
        | inl own ↦ leads-root n c r own ∙ ap (λ t. t || false) root
        | inr not ↦ elim (some-or-not (way_in c k)) [
          | inl above ↦ leads-beside n c r not above ∙ absent-link r (omega (arith, none))
          | inr way ↦ leads-below n c r way.0 not way.1 ∙ ap (λ t. t || leads c) root ∙ absent-link c (omega (arith, none))
        ]
      ]

  -- The elements of its tree.
  abbrev pub has : Option (Spot Node) → Bool
  has o = is_among (elements_in (alone (tree_of q o))) k

  abbrev spot-by : Bool → Option ℕ → List (Keyed Node) → Keyed Node → (c r : Forest (Keyed Node)) → Option (Spot Node) → Option (Spot Node) → Option (Spot Node)
  spot-by t p e n c r below beside = cond t (Some (the_spot p e n.label c r)) (option_or below beside)

  has-root : (p : Option ℕ) (e : List (Keyed Node)) (n : Keyed Node) (c r : Forest (Keyed Node)) → (n.key == q) ≡ true
      → has (spot p e (Tree n c r) q) ≡ is_among (elements_in (Tree n c Empty)) k
  has-root p e n c r is =
      ap (λ t. has (spot-by t p e n c r (spot (Some n.key) [] c q) (spot p (e ++ n ∷ []) r q))) is
      ∙ ap (λ x. is_among (elements_in (Tree (keyed x n.label) c Empty)) k) (sym (eqb-true n.key q is))

  has-beside : (p : Option ℕ) (e : List (Keyed Node)) (n : Keyed Node) (c r : Forest (Keyed Node)) → (n.key == q) ≡ false → times q c ≡ 0
      → has (spot p e (Tree n c r) q) ≡ has (spot p (e ++ n ∷ []) r q)
  has-beside p e n c r not none =
      ap (λ t. has (spot-by t p e n c r (spot (Some n.key) [] c q) (spot p (e ++ n ∷ []) r q))) not
      ∙ ap (λ o. has (option_or o (spot p (e ++ n ∷ []) r q))) (spot-absent c (Some n.key) [] q none)

  has-below : (p : Option ℕ) (e : List (Keyed Node)) (n : Keyed Node) (c r : Forest (Keyed Node)) → (n.key == q) ≡ false → 0 < times q c
      → has (spot p e (Tree n c r) q) ≡ has (spot (Some n.key) [] c q)
  has-below p e n c r not some =
      let s = the_some (spot (Some n.key) [] c q) (spot-some c (Some n.key) [] q some) in
      ap (λ t. has (spot-by t p e n c r (spot (Some n.key) [] c q) (spot p (e ++ n ∷ []) r q))) not
      ∙ ap (λ o. has (option_or o (spot p (e ++ n ∷ []) r q))) s.1
      ∙ ap has (sym s.1)

  module _ (b : Bool) where
    count-by : (t : Bool) (x : ℕ) (l : Bool) → one t ≡ cond b x 0 → ((l ≡ true) × (x ≡ 1)) ⊎ ((l ≡ false) × (x ≡ 0)) → t ≡ (b && l)
    count-by t x l is which = by b is which
      where
        by : (b : Bool) → one t ≡ cond b x 0 → ((l ≡ true) × (x ≡ 1)) ⊎ ((l ≡ false) × (x ≡ 0)) → t ≡ (b && l)
        by true is (inl h) = one-true t (is ∙ h.1) ∙ sym h.0
        by true is (inr h) = one-false t (is ∙ h.1) ∙ sym h.0
        by false is h = one-false t is

    -- the root's own tree has what the way through the root leads to
    root-counts : (n : Keyed Node) (c r : Forest (Keyed Node)) → HasDistinctKeys (Tree n c r) → (n.key == q) ≡ true
        → ((leads (Tree n c r) ≡ true) × (times k (Tree n c Empty) ≡ 1)) ⊎ ((leads (Tree n c r) ≡ false) × (times k (Tree n c Empty) ≡ 0))
    root-counts n c r d is =
        let through : (q == n.key) ≡ true = key-flipped q n.key ∙ is in
        elim (cases_Bool (n.key == k)) [
          | inl own ↦
              let few : (1 + (times k c + times k r)) ≤ 1 = subst (λ t. (cond {A = ℕ} t 1 0 + (times k c + times k r)) ≤ 1) own (d k) in
              let count : 1 + (times k c + 0) ≡ 1 = omega (arith, few) in
              inl (leads-root n c r own ∙ ap (λ t. t || false) through, ap (λ t. cond {A = ℕ} t 1 0 + (times k c + 0)) own ∙ count)
          | inr not ↦ elim (some-or-not (way_in c k)) [
            | inl none ↦
                let gone : times q r ≡ 0 = subst (λ x. times x r ≡ 0) (eqb-true n.key q is) (root-once n c r d).1 in
                let count : 0 + (times k c + 0) ≡ 0 = omega (arith, no-node k c (distinct-parts n c r d).0 none) in
                inr (leads-beside n c r not none ∙ absent-link r gone, ap (λ t. cond {A = ℕ} t 1 0 + (times k c + 0)) not ∙ count)
            | inr way ↦
                let there : 0 < times k c = counted c way.0 way.1 in
                let count : 0 + (times k c + 0) ≡ 1 = omega (arith, there, (distinct-parts n c r d).0 k) in
                inl (leads-below n c r way.0 not way.1 ∙ or_left (q == n.key) (leads c) through, ap (λ t. cond {A = ℕ} t 1 0 + (times k c + 0)) not ∙ count)
          ]
        ]
      where
        counted : (c : Forest (Keyed Node)) (way : List ℕ) → way_in c k ≡ Some way → 0 < times k c
        counted c way is = elim (some_or_none (times k c)) [
          | inl none ↦ absurd (let no : None ≡ Some way = sym (absent-way is_element k c none) ∙ is in cc)
          | inr some ↦ some
        ]

    -- an element is in the tree where the way to it leads through the root
    pub in-tree : (f : Forest (Keyed Node)) (p : Option ℕ) (e : List (Keyed Node)) → HasDistinctKeys f → Says k b f → has (spot p e f q) ≡ (b && leads f)
    in-tree Empty p e d says = sym (and_right b false refl)
    in-tree (Tree n c r) p e d says =
        let parts = distinct-parts n c r d in
        elim (cases_Bool (n.key == q)) [
          | inl is ↦
              has-root p e n c r is
              ∙ count-by (is_among (elements_in (Tree n c Empty)) k) (times k (Tree n c Empty)) (leads (Tree n c r))
              (elements-count k b (Tree n c Empty) (λ x. omega (arith, d x)) (says.0, says.1, tt))
              (root-counts n c r d is)
          | inr not ↦
              let root : (q == n.key) ≡ false = key-flipped q n.key ∙ not in
              elim (some_or_none (times q c)) [
                | inl none ↦ has-beside p e n c r not none ∙ in-tree r p (e ++ n ∷ []) parts.1 says.2 ∙ ap (λ l. b && l) (sym (beside n c r d root none))
                | inr some ↦ has-below p e n c r not some ∙ in-tree c (Some n.key) [] parts.0 says.1 ∙ ap (λ l. b && l) (sym (below n c r d root some))
              ]
        ]
      where
        few-with : (n : Keyed Node) (c r : Forest (Keyed Node)) → HasDistinctKeys (Tree n c r) → (n.key == k) ≡ true → (1 + (times k c + times k r)) ≤ 1
        few-with n c r d own = subst (λ t. (cond {A = ℕ} t 1 0 + (times k c + times k r)) ≤ 1) own (d k)

        beside : (n : Keyed Node) (c r : Forest (Keyed Node)) → HasDistinctKeys (Tree n c r) → (q == n.key) ≡ false → times q c ≡ 0 → leads (Tree n c r) ≡ leads r
        beside n c r d root none = elim (cases_Bool (n.key == k)) [
          | inl own ↦ leads-root n c r own ∙ ap (λ t. t || false) root ∙ sym (absent-key r (omega (arith, few-with n c r d own)))
          | inr not ↦ elim (some-or-not (way_in c k)) [
            | inl above ↦ leads-beside n c r not above
            | inr way ↦
                leads-below n c r way.0 not way.1
                ∙ ap (λ t. t || leads c) root
                ∙ absent-link c none
                ∙ sym (apart n c r d way.0 way.1)
          ]
        ]
          where
            apart : (n : Keyed Node) (c r : Forest (Keyed Node)) → HasDistinctKeys (Tree n c r) → (way : List ℕ) → way_in c k ≡ Some way → leads r ≡ false
            apart n c r d way is = elim (some_or_none (times k r)) [
              | inl none ↦ absent-key r none
              | inr some ↦ absurd (let no : None ≡ Some way = sym (absent-way is_element k c (below-or-after n c r k d some)) ∙ is in cc)
            ]

        below : (n : Keyed Node) (c r : Forest (Keyed Node)) → HasDistinctKeys (Tree n c r) → (q == n.key) ≡ false → 0 < times q c → leads (Tree n c r) ≡ leads c
        below n c r d root some = elim (cases_Bool (n.key == k)) [
          | inl own ↦ leads-root n c r own ∙ ap (λ t. t || false) root ∙ sym (absent-key c (omega (arith, few-with n c r d own)))
          | inr not ↦ elim (some-or-not (way_in c k)) [
            | inl above ↦
                let gone : times q r ≡ 0 = omega (arith, d q, some) in
                leads-beside n c r not above ∙ absent-link r gone ∙ sym (no-way c above)
            | inr way ↦ leads-below n c r way.0 not way.1 ∙ ap (λ t. t || leads c) root
          ]
        ]

-- Stops.

none-any : (way : List ℕ) → list_any (λ _. false) way ≡ false
none-any [] = refl
none-any (x ∷ way) = none-any way

or-swap : (a b c d : Bool) → ((a || b) || (c || d)) ≡ ((a || c) || (b || d))
or-swap true b c d = refl
or-swap false true true d = refl
or-swap false true false d = refl
or-swap false false c d = refl

any-or : (first other : ℕ → Bool) (way : List ℕ) → list_any (λ x. first x || other x) way ≡ (list_any first way || list_any other way)
any-or first other [] = refl
any-or first other (x ∷ way) =
    ap (λ b. (first x || other x) || b) (any-or first other way) ∙ or-swap (first x) (other x) (list_any first way) (list_any other way)

and-or : (b x y : Bool) → (b && (x || y)) ≡ ((b && x) || (b && y))
and-or true x y = refl
and-or false x y = refl

module _ (f : Forest (Keyed Node)) (d : HasDistinctKeys f) (k : ℕ) (b : Bool) (says : Says k b f) where
  abbrev at-way : Way → Option ℕ → ℕ → Bool
  at-way way link x = is_anew way && option_eq nat_eq link (Some x)

  at-stop : (way : Way) (link : Option ℕ) → is_among (coming_by f way link) k ≡ (b && list_any (at-way way link) (way_to f k))
  at-stop Past link = sym (ap (λ l. b && l) (none-any (way_to f k)) ∙ and_right b false refl)
  at-stop Inside link = sym (ap (λ l. b && l) (none-any (way_to f k)) ∙ and_right b false refl)
  at-stop Anew None = sym (ap (λ l. b && l) (none-any (way_to f k)) ∙ and_right b false refl)
  at-stop Anew (Some q) = in-tree k q b f None [] d says

  pub at-stops : (stops : List Stop) → is_among (coming_at_stops f stops) k ≡ (b && list_any (λ x. list_any (comes_at x) stops) (way_to f k))
  at-stops [] = sym (ap (λ l. b && l) (none-any (way_to f k)) ∙ and_right b false refl)
  at-stops (stop ∷ stops) =
      let here : Bool = list_any (at-way stop.way stop.link) (way_to f k) in
      let later : Bool = list_any (λ x. list_any (comes_at x) stops) (way_to f k) in
      list_any-append (λ other. other == k) (coming_by f stop.way stop.link) (coming_at_stops f stops)
      ∙ ap₂ (λ x y. x || y) (at-stop stop.way stop.link) (at-stops stops)
      ∙ sym (and-or b here later)
      ∙ ap (λ l. b && l) (sym (any-or (at-way stop.way stop.link) (λ x. list_any (comes_at x) stops) (way_to f k)))

-- so it is of each node
pub coming-is : (f : Forest (Keyed Node)) → HasDistinctKeys f → (k : ℕ) → IsLive f k → (stops : List Stop)
    → is_among (coming_at_stops f stops) k ≡ (is_some (name_of f k) && list_any (λ x. list_any (comes_at x) stops) (way_to f k))
coming-is f d k live stops =
    let s = live-spot f k live in
    let named : is_some (name_of f k) ≡ is_element s.0.label = ap (λ (o : Option (Spot Node)). is_some (option_and_then node_name (option_map (λ (s : Spot Node). s.label) o))) s.1 in
    at-stops f d k (is_element s.0.label) (says-there k (is_element s.0.label) f None [] s.0 d s.1 refl) stops
    ∙ ap (λ b. b && list_any (λ x. list_any (comes_at x) stops) (way_to f k)) (sym named)

-- the elements of a stop more
pub coming-more : (f : Forest (Keyed Node)) (stops : List Stop) (place : ℕ) (default : Stop) (keys grown : List ℕ) → place < length stops
    → keys ≡ coming_at_stops f (take place stops) → grown ≡ keys ++ coming_by f (get_or stops place default).way (get_or stops place default).link
    → grown ≡ coming_at_stops f (take (place + 1) stops)
coming-more f stops place default keys grown within had more =
    let stop : Stop = get_or stops place default in
    more
    ∙ ap (λ keys. keys ++ coming_by f stop.way stop.link) had
    ∙ ap (λ some. coming_at_stops f (take place stops) ++ some) (sym (append-nil (coming_by f stop.way stop.link)))
    ∙ sym (flat_map-append (λ (stop : Stop). coming_by f stop.way stop.link) (take place stops) (stop ∷ []))
    ∙ ap (λ some. coming_at_stops f some) (sym (take_more stops place default within))

pub told-elements : (trees : Forest (Keyed Node)) → told_of element_key trees ≡ elements_in trees
told-elements Empty = refl
told-elements (Tree n c r) =
    ap (λ keys. element_key n ++ keys) (flat_map-append element_key (labels c) (labels r) ∙ ap₂ (λ xs ys. xs ++ ys) (told-elements c) (told-elements r))
