-- Which counters of a name are told at a box: those in whose scope it is.
use Rattle.std.proofs.Common.{◌≡◌, ◌+◌, ◌<◌, ◌++◌, ◌∷◌, ◌||◌, ◌&&◌, ◌⊎◌, ℕ, zero, suc, List, [], Bool, true, false, cond, not, Option, Some, None, refl, sym, ap, subst, ◌∙◌, inl, inr, arith, append-nil, append_assoc}
use Rattle.std.proofs.lemmas.Bool.{cases_Bool}
use Rattle.std.proofs.lemmas.List.Elements.{filter-append}
use Rattle.std.specs.Prelude.{filter}
use Rattle.std.specs.List.{AllByRecursion, fold, list_any}
use Rattle.forest.specs.Forest.{Forest, Empty, Tree, labels}
use Rattle.plain_types.specs.declared.box_id.BoxId.{BoxId}
use Rattle.counter_sets.specs.Sets.{is_same_box}
use Rattle.box_eval.proofs.BoxLemmas.{box_eq, box_self}
use Rattle.box_eval.proofs.ListLemmas.{each_append, each_imp}
use Rattle.counter_scopes.specs.Boxes.{DocumentBox}
use Rattle.counter_scopes.specs.Counting.{mentions, resets}
use Rattle.counter_scopes.specs.Scopes.{creators, is_in_scope, stands_before_reset, stands_in, with_creator}
use Rattle.counter_scopes.proofs.ToldLemmas.{HasDistinctBoxes, below_once, beside_once, both_once, creates_here, listed, missing, next, parts_none, root_once, times}

pub none_or_some : (n : ℕ) → (n ≡ 0) ⊎ (0 < n)
none_or_some zero = inl refl
none_or_some (suc n) = inr (omega arith)

pub fold_append : {A B : Type 0} (f : B → A → B) (xs ys : List A) (first : B) → fold f first (xs ++ ys) ≡ fold f (fold f first xs) ys
fold_append f [] ys first = refl
fold_append f (x ∷ xs) ys first = fold_append f xs ys (f first x)

filter_none : {A : Type 0} (test : A → Bool) (xs : List A) → AllByRecursion (λ x. test x ≡ false) xs → filter test xs ≡ []
filter_none test [] h = refl
filter_none test (x ∷ xs) h = rw h.0 (filter_none test xs h.1)

-- Where a box stands.

pub no_stand : (trees : Forest DocumentBox) (b : BoxId) → times b trees ≡ 0 → stands_in b trees ≡ false
no_stand Empty b h = refl
no_stand (Tree root children after) b h = let parts = parts_none root children after b h in rw (parts.0, no_stand children b parts.1, no_stand after b parts.2) refl

pub does_stand : (trees : Forest DocumentBox) (b : BoxId) → 0 < times b trees → stands_in b trees ≡ true
does_stand Empty b h = absurd (omega arith)
does_stand (Tree root children after) b h = elim (cases_Bool (is_same_box root.id b)) [
  | inl e ↦ rw e refl
  | inr e ↦
      let some : 0 < 0 + (times b children + times b after) = subst (λ t. 0 < cond t 1 0 + (times b children + times b after)) e h in
      elim (none_or_some (times b children)) [
        | inl z ↦ rw (e, no_stand children b z) (does_stand after b (omega arith))
        | inr z ↦ rw (e, does_stand children b z) refl
      ]
]

-- the root stands in its tree, and another box stands below it or beside it
pub root_stands : (root : DocumentBox) (children after : Forest DocumentBox) → 0 < times root.id (Tree root children after)
root_stands root children after = rw (box_self root.id) (omega arith)

pub below_stands : (root : DocumentBox) (children after : Forest DocumentBox) (b : BoxId) → 0 < times b children → 0 < times b (Tree root children after)
below_stands root children after b h = omega arith

pub beside_stands : (root : DocumentBox) (children after : Forest DocumentBox) (b : BoxId) → 0 < times b after → 0 < times b (Tree root children after)
beside_stands root children after b h = omega arith

other_than : (root : DocumentBox) (trees : Forest DocumentBox) (b : BoxId) → times root.id trees ≡ 0 → 0 < times b trees → is_same_box root.id b ≡ false
other_than root trees b none some = elim (cases_Bool (is_same_box root.id b)) [
  | inl e ↦ absurd (let zero_too : times b trees ≡ 0 = subst (λ box. times box trees ≡ 0) (box_eq root.id b e) none in omega arith)
  | inr e ↦ e
]

module _ (name : List ℕ) where
  no_cover : (trees : Forest DocumentBox) (b : BoxId) → times b trees ≡ 0 → stands_before_reset name b trees ≡ false
  no_cover Empty b h = refl
  no_cover (Tree root children after) b h =
      let parts = parts_none root children after b h in
      rw (parts.0, no_stand children b parts.1, no_cover after b parts.2) (elim (resets name root) as (λ t. (not t && false) ≡ false) [ true ↦ refl | false ↦ refl ])

  pub no_scope_box : (trees : Forest DocumentBox) (a b : BoxId) → times b trees ≡ 0 → is_in_scope name trees a b ≡ false
  no_scope_box Empty a b h = refl
  no_scope_box (Tree root children after) a b h =
      let parts = parts_none root children after b h in
      rw (parts.0, no_stand children b parts.1, no_cover after b parts.2, no_scope_box children a b parts.1, no_scope_box after a b parts.2) (elim (is_same_box root.id a) as (λ t. cond t false false ≡ false) [ true ↦ refl | false ↦ refl ])

  pub no_scope_creator : (trees : Forest DocumentBox) (a b : BoxId) → times a trees ≡ 0 → is_in_scope name trees a b ≡ false
  no_scope_creator Empty a b h = refl
  no_scope_creator (Tree root children after) a b h = let parts = parts_none root children after a h in rw (parts.0, no_scope_creator children a b parts.1, no_scope_creator after a b parts.2) refl

  or_false : (b : Bool) → (b || false) ≡ b
  or_false true = refl
  or_false false = refl

  -- the scopes of a tree's boxes
  module _ (root : DocumentBox) (children after : Forest DocumentBox) (distinct : HasDistinctBoxes (Tree root children after)) where
    abbrev tree : Forest DocumentBox
    tree = Tree root children after

    root_scope : (b : BoxId) → is_in_scope name tree root.id b ≡ (is_same_box root.id b || (stands_in b children || stands_before_reset name b after))
    root_scope b = rw (box_self root.id) refl

    pub scope_root : is_in_scope name tree root.id root.id ≡ true
    scope_root = root_scope root.id ∙ rw (box_self root.id) refl

    pub scope_root_below : (b : BoxId) → 0 < times b children → is_in_scope name tree root.id b ≡ true
    scope_root_below b h = root_scope b ∙ rw (other_than root children b (root_once root children after distinct).0 h, does_stand children b h) refl

    pub scope_root_beside : (b : BoxId) → 0 < times b after → is_in_scope name tree root.id b ≡ stands_before_reset name b after
    scope_root_beside b h = root_scope b ∙ rw (other_than root after b (root_once root children after distinct).1 h, no_stand children b (let two = both_once root children after b distinct in omega arith)) refl

    other_scope : (a b : BoxId) → is_same_box root.id a ≡ false → is_in_scope name tree a b ≡ (is_in_scope name children a b || is_in_scope name after a b)
    other_scope a b h = rw h refl

    -- a box below or beside is in no scope of the root's own, nor is one below in that of one beside
    pub scope_below_root : (a : BoxId) → 0 < times a children → is_in_scope name tree a root.id ≡ false
    scope_below_root a h = other_scope a root.id (other_than root children a (root_once root children after distinct).0 h) ∙ rw (no_scope_box children a root.id (root_once root children after distinct).0, no_scope_box after a root.id (root_once root children after distinct).1) refl

    pub scope_beside_root : (a : BoxId) → 0 < times a after → is_in_scope name tree a root.id ≡ false
    scope_beside_root a h = other_scope a root.id (other_than root after a (root_once root children after distinct).1 h) ∙ rw (no_scope_box children a root.id (root_once root children after distinct).0, no_scope_box after a root.id (root_once root children after distinct).1) refl

    pub scope_below_beside : (a b : BoxId) → 0 < times a children → 0 < times b after → is_in_scope name tree a b ≡ false
    scope_below_beside a b h i =
        other_scope a b (other_than root children a (root_once root children after distinct).0 h)
        ∙ rw (no_scope_box children a b (let two = both_once root children after b distinct in omega arith), no_scope_creator after a b (let two = both_once root children after a distinct in omega arith)) refl

    pub scope_beside_below : (a b : BoxId) → 0 < times a after → 0 < times b children → is_in_scope name tree a b ≡ false
    scope_beside_below a b h i =
        other_scope a b (other_than root after a (root_once root children after distinct).1 h)
        ∙ rw (no_scope_creator children a b (let two = both_once root children after a distinct in omega arith), no_scope_box after a b (let two = both_once root children after b distinct in omega arith)) refl

    pub scope_below : (a b : BoxId) → 0 < times a children → is_in_scope name tree a b ≡ is_in_scope name children a b
    scope_below a b h =
        other_scope a b (other_than root children a (root_once root children after distinct).0 h)
        ∙ ap (λ t. is_in_scope name children a b || t) (no_scope_creator after a b (let two = both_once root children after a distinct in omega arith)) ∙ or_false (is_in_scope name children a b)

    pub scope_beside : (a b : BoxId) → 0 < times a after → is_in_scope name tree a b ≡ is_in_scope name after a b
    scope_beside a b h =
        other_scope a b (other_than root after a (root_once root children after distinct).1 h)
        ∙ ap (λ t. t || is_in_scope name after a b) (no_scope_creator children a b (let two = both_once root children after a distinct in omega arith))

  -- every box is in the scope of the counter that it creates
  pub scope_self : (trees : Forest DocumentBox) (a : BoxId) → HasDistinctBoxes trees → 0 < times a trees → is_in_scope name trees a a ≡ true
  scope_self Empty a distinct h = absurd (omega arith)
  scope_self (Tree root children after) a distinct h = elim (cases_Bool (is_same_box root.id a)) [
    | inl e ↦ subst (λ box. is_in_scope name (Tree root children after) box box ≡ true) (box_eq root.id a e) (scope_root root children after distinct)
    | inr e ↦
        let some : 0 < 0 + (times a children + times a after) = subst (λ t. 0 < cond t 1 0 + (times a children + times a after)) e h in
        elim (none_or_some (times a children)) [
          | inl z ↦ let there : 0 < times a after = omega arith in scope_beside root children after distinct a a there ∙ scope_self after a (beside_once root children after distinct) there
          | inr z ↦ scope_below root children after distinct a a z ∙ scope_self children a (below_once root children after distinct) z
        ]
  ]

  -- The boxes that create counters, in tree order.

  abbrev pub here : List DocumentBox → Option DocumentBox → DocumentBox → List DocumentBox
  here outer latest root = cond (creates_here name outer latest root) (root ∷ []) []

  abbrev pub made : List DocumentBox → Option DocumentBox → Forest DocumentBox → List DocumentBox
  made outer latest Empty = []
  made outer latest (Tree root children after) = here outer latest root ++ (made (outer ++ listed (next name outer latest root)) None children ++ made outer (next name outer latest root) after)

  abbrev AllIn : Forest DocumentBox → List DocumentBox → Type 0
  AllIn trees xs = AllByRecursion (λ (x : DocumentBox). 0 < times x.id trees) xs

  pub made_stand : (trees : Forest DocumentBox) (outer : List DocumentBox) (latest : Option DocumentBox) → AllIn trees (made outer latest trees)
  made_stand Empty outer latest = tt
  made_stand (Tree root children after) outer latest =
      let In : DocumentBox → Type 0 = λ x. 0 < times x.id (Tree root children after) in
      let own : (b : Bool) → AllByRecursion In (cond b (root ∷ []) []) = λ b. elim b as (λ b. AllByRecursion In (cond b (root ∷ []) [])) [ true ↦ (root_stands root children after, tt) | false ↦ tt ] in
      each_append In (here outer latest root) (made (outer ++ listed (next name outer latest root)) None children ++ made outer (next name outer latest root) after) (own (creates_here name outer latest root))
      (each_append In (made (outer ++ listed (next name outer latest root)) None children) (made outer (next name outer latest root) after)
      (each_imp (λ (x : DocumentBox). 0 < times x.id children) In (λ x h. below_stands root children after x.id h) (made (outer ++ listed (next name outer latest root)) None children) (made_stand children (outer ++ listed (next name outer latest root)) None))
      (each_imp (λ (x : DocumentBox). 0 < times x.id after) In (λ x h. beside_stands root children after x.id h) (made outer (next name outer latest root) after) (made_stand after outer (next name outer latest root))))

  none_left : (b : Bool) → [] ≡ cond b (listed None) []
  none_left true = refl
  none_left false = refl

  -- Trees in a whole forest, where these boxes created counters before them.
  module _ (whole : Forest DocumentBox) where
    abbrev pub around : BoxId → List DocumentBox → List DocumentBox
    around b xs = filter (λ (creator : DocumentBox). is_in_scope name whole creator.id b) xs

    pub record Stand (trees : Forest DocumentBox) (outer : List DocumentBox) (latest : Option DocumentBox) (earlier : List DocumentBox) : Type 0 where
      pub inside : (a b : BoxId) → 0 < times a trees → 0 < times b trees → is_in_scope name whole a b ≡ is_in_scope name trees a b
      pub before : (b : BoxId) → 0 < times b trees → around b earlier ≡ outer ++ cond (stands_before_reset name b trees) (listed latest) []

    none_around : (b : BoxId) (trees : Forest DocumentBox) (xs : List DocumentBox) → ((a : BoxId) → 0 < times a trees → is_in_scope name whole a b ≡ false) → AllIn trees xs → around b xs ≡ []
    none_around b trees xs i h =
        filter_none (λ (creator : DocumentBox). is_in_scope name whole creator.id b) xs
        (each_imp (λ (x : DocumentBox). 0 < times x.id trees) (λ (x : DocumentBox). is_in_scope name whole x.id b ≡ false) (λ x some. i x.id some) xs h)

    around_here : (b : BoxId) (outer : List DocumentBox) (latest : Option DocumentBox) (root : DocumentBox) (t : Bool) → is_in_scope name whole root.id b ≡ t → around b (here outer latest root) ≡ cond (creates_here name outer latest root) (cond t (root ∷ []) []) []
    around_here b outer latest root t e = elim (cases_Bool (creates_here name outer latest root)) [ inl h ↦ rw (h, e) refl | inr h ↦ rw h refl ]

    -- what a box leaves to the boxes after it
    left_over : (outer : List DocumentBox) (latest : Option DocumentBox) (root : DocumentBox) (covered resetting names : Bool)
        → (outer ++ cond (not resetting && covered) (listed latest) []) ++ cond (resetting || missing outer latest names) (cond covered (root ∷ []) []) [] ≡ outer ++ cond covered (listed (cond (resetting || missing outer latest names) (Some root) latest)) []
    left_over outer latest root true true names = ap (λ all. all ++ root ∷ []) (append-nil outer)
    left_over outer latest root false true names = append-nil (outer ++ [])
    left_over [] None root true false true = refl
    left_over [] None root true false false = refl
    left_over [] (Some x) root true false names = refl
    left_over (x ∷ outer) latest root true false names = append-nil (x ∷ (outer ++ listed latest))
    left_over [] None root false false true = refl
    left_over [] None root false false false = refl
    left_over [] (Some x) root false false names = refl
    left_over (x ∷ outer) latest root false false names = append-nil (x ∷ (outer ++ []))

    module _ (root : DocumentBox) (children after : Forest DocumentBox) (outer : List DocumentBox) (latest : Option DocumentBox) (earlier : List DocumentBox) (distinct : HasDistinctBoxes (Tree root children after)) (stand : Stand (Tree root children after) outer latest earlier) where
      abbrev xs : List DocumentBox
      xs = outer ++ listed (next name outer latest root)

      covers_with : (b : BoxId) (t : Bool) → (is_same_box root.id b || (stands_in b children || stands_before_reset name b after)) ≡ t → stands_before_reset name b (Tree root children after) ≡ (not (resets name root) && t)
      covers_with b t e = ap (λ other. not (resets name root) && other) e

      -- at a box of the tree, after its root
      around_root : (b : BoxId) (t : Bool) → 0 < times b (Tree root children after) → (is_same_box root.id b || (stands_in b children || stands_before_reset name b after)) ≡ t → is_in_scope name (Tree root children after) root.id b ≡ t → around b (earlier ++ here outer latest root) ≡ outer ++ cond t (listed (next name outer latest root)) []
      around_root b t some e scope =
          filter-append (λ (creator : DocumentBox). is_in_scope name whole creator.id b) earlier (here outer latest root)
          ∙ ap (λ all. all ++ around b (here outer latest root)) (stand.before b some ∙ ap (λ other. outer ++ cond other (listed latest) []) (covers_with b t e))
          ∙ ap (λ all. (outer ++ cond (not (resets name root) && t) (listed latest) []) ++ all) (around_here b outer latest root t (stand.inside root.id b (root_stands root children after) some ∙ scope))
          ∙ left_over outer latest root t (resets name root) (mentions name root)

      pub at_root : around root.id (earlier ++ here outer latest root) ≡ xs
      at_root = around_root root.id true (root_stands root children after) (rw (box_self root.id) refl) (scope_root root children after distinct)

      pub at_below : (b : BoxId) → 0 < times b children → around b (earlier ++ here outer latest root) ≡ xs
      at_below b h = around_root b true (below_stands root children after b h) (rw (other_than root children b (root_once root children after distinct).0 h, does_stand children b h) refl) (scope_root_below root children after distinct b h)

      pub at_beside : (b : BoxId) → 0 < times b after → around b (earlier ++ here outer latest root) ≡ outer ++ cond (stands_before_reset name b after) (listed (next name outer latest root)) []
      at_beside b h =
          around_root b (stands_before_reset name b after) (beside_stands root children after b h)
          (rw (other_than root after b (root_once root children after distinct).1 h, no_stand children b (let two = both_once root children after b distinct in omega arith)) refl) (scope_root_beside root children after distinct b h)

      pub stand_below : Stand children xs None (earlier ++ here outer latest root)
      stand_below = record {
        inside = λ a b h i. stand.inside a b (below_stands root children after a h) (below_stands root children after b i) ∙ scope_below root children after distinct a b h;
        before = λ b h. at_below b h ∙ sym (append-nil xs) ∙ ap (λ all. xs ++ all) (none_left (stands_before_reset name b children));
      }

      pub stand_beside : Stand after outer (next name outer latest root) ((earlier ++ here outer latest root) ++ made xs None children)
      stand_beside = record {
        inside = λ a b h i. stand.inside a b (beside_stands root children after a h) (beside_stands root children after b i) ∙ scope_beside root children after distinct a b h;
        before = λ b h.
            filter-append (λ (creator : DocumentBox). is_in_scope name whole creator.id b) (earlier ++ here outer latest root) (made xs None children)
            ∙ ap (λ all. around b (earlier ++ here outer latest root) ++ all)
            (none_around b children (made xs None children) (λ a i. stand.inside a b (below_stands root children after a i) (beside_stands root children after b h) ∙ scope_below_beside root children after distinct a b i h) (made_stand children xs None))
            ∙ append-nil (around b (earlier ++ here outer latest root))
            ∙ at_beside b h;
      }

      -- nothing later has them in its scope
      pub later_root : (later : List DocumentBox) → around root.id later ≡ [] → around root.id ((made xs None children ++ made outer (next name outer latest root) after) ++ later) ≡ []
      later_root later h =
          let test = λ (creator : DocumentBox). is_in_scope name whole creator.id root.id in
          filter-append test (made xs None children ++ made outer (next name outer latest root) after) later
          ∙ ap (λ all. around root.id (made xs None children ++ made outer (next name outer latest root) after) ++ all) h
          ∙ append-nil (around root.id (made xs None children ++ made outer (next name outer latest root) after))
          ∙ filter-append test (made xs None children) (made outer (next name outer latest root) after)
          ∙ ap (λ all. all ++ around root.id (made outer (next name outer latest root) after))
          (none_around root.id children (made xs None children) (λ a i. stand.inside a root.id (below_stands root children after a i) (root_stands root children after) ∙ scope_below_root root children after distinct a i) (made_stand children xs None))
          ∙ none_around root.id after (made outer (next name outer latest root) after) (λ a i. stand.inside a root.id (beside_stands root children after a i) (root_stands root children after) ∙ scope_beside_root root children after distinct a i) (made_stand after outer (next name outer latest root))

      pub later_below : (later : List DocumentBox) (b : BoxId) → 0 < times b children → around b later ≡ [] → around b (made outer (next name outer latest root) after ++ later) ≡ []
      later_below later b h e =
          filter-append (λ (creator : DocumentBox). is_in_scope name whole creator.id b) (made outer (next name outer latest root) after) later
          ∙ ap (λ all. around b (made outer (next name outer latest root) after) ++ all) e
          ∙ append-nil (around b (made outer (next name outer latest root) after))
          ∙ none_around b after (made outer (next name outer latest root) after) (λ a i. stand.inside a b (beside_stands root children after a i) (below_stands root children after b h) ∙ scope_beside_below root children after distinct a b i h) (made_stand after outer (next name outer latest root))

      -- whether the root creates a counter

      and_true : (b : Bool) → (b && true) ≡ b
      and_true true = refl
      and_true false = refl

      and_false : (b : Bool) → (b && false) ≡ false
      and_false true = refl
      and_false false = refl

      any_filter : {A : Type 0} (test : A → Bool) (zs : List A) → filter test zs ≡ [] → list_any test zs ≡ false
      any_filter test [] h = refl
      any_filter test (z ∷ zs) h = elim (cases_Bool (test z)) [ inl e ↦ absurd (let bad : z ∷ filter test zs ≡ [] = rw e at h in cc) | inr e ↦ rw e (any_filter test zs (rw e at h)) ]

      any_some : {A : Type 0} (test : A → Bool) (zs : List A) (y : A) (ys : List A) → filter test zs ≡ y ∷ ys → list_any test zs ≡ true
      any_some test [] y ys h = absurd (cc)
      any_some test (z ∷ zs) y ys h = elim (cases_Bool (test z)) [ inl e ↦ rw e refl | inr e ↦ rw e (any_some test zs y ys (rw e at h)) ]

      lone : (outer : List DocumentBox) (latest : Option DocumentBox) (names : Bool) → around root.id earlier ≡ outer ++ listed latest → (names && not (list_any (λ (creator : DocumentBox). is_in_scope name whole creator.id root.id) earlier)) ≡ missing outer latest names
      lone [] None names h = ap (λ t. names && not t) (any_filter (λ (creator : DocumentBox). is_in_scope name whole creator.id root.id) earlier h) ∙ and_true names
      lone [] (Some x) names h = ap (λ t. names && not t) (any_some (λ (creator : DocumentBox). is_in_scope name whole creator.id root.id) earlier x [] h) ∙ and_false names
      lone (x ∷ outer) latest names h = ap (λ t. names && not t) (any_some (λ (creator : DocumentBox). is_in_scope name whole creator.id root.id) earlier x (outer ++ listed latest) h) ∙ and_false names

      pub root_creates : with_creator name whole earlier root ≡ earlier ++ here outer latest root
      root_creates = elim (cases_Bool (resets name root)) [
        | inl e ↦ rw e refl
        | inr e ↦
            let e0 : around root.id earlier ≡ outer ++ listed latest =
            stand.before root.id (root_stands root children after) ∙ ap (λ t. outer ++ cond t (listed latest) []) (covers_with root.id true (rw (box_self root.id) refl) ∙ ap (λ t. not t && true) e) in
            rw e (ap (λ t. cond t (earlier ++ root ∷ []) earlier) (lone outer latest (mentions name root) e0) ∙ either (missing outer latest (mentions name root)))
      ]
        where
          either : (b : Bool) → cond b (earlier ++ root ∷ []) earlier ≡ earlier ++ cond b (root ∷ []) []
          either true = refl
          either false = sym (append-nil earlier)

    -- the creators by the definition are those told
    pub made_are : (trees : Forest DocumentBox) (outer : List DocumentBox) (latest : Option DocumentBox) (earlier : List DocumentBox) → HasDistinctBoxes trees → Stand trees outer latest earlier → fold (with_creator name whole) earlier (labels trees) ≡ earlier ++ made outer latest trees
    made_are Empty outer latest earlier distinct stand = sym (append-nil earlier)
    made_are (Tree root children after) outer latest earlier distinct stand =
        let xs = outer ++ listed (next name outer latest root) in
        let now = earlier ++ here outer latest root in
        let below = made xs None children in
        let rest = made outer (next name outer latest root) after in
        ap (λ all. fold (with_creator name whole) all (labels children ++ labels after)) (root_creates root children after outer latest earlier distinct stand)
        ∙ fold_append (with_creator name whole) (labels children) (labels after) now
        ∙ ap (λ all. fold (with_creator name whole) all (labels after)) (made_are children xs None now (below_once root children after distinct) (stand_below root children after outer latest earlier distinct stand))
        ∙ made_are after outer (next name outer latest root) (now ++ below) (beside_once root children after distinct) (stand_beside root children after outer latest earlier distinct stand)
        ∙ append_assoc now below rest
        ∙ append_assoc earlier (here outer latest root) (below ++ rest)

  pub root_stand : (trees : Forest DocumentBox) → Stand trees trees [] None []
  root_stand trees = record { inside = λ a b h i. refl; before = λ b h. none_left (stands_before_reset name b trees) }

  pub creators_are : (trees : Forest DocumentBox) → HasDistinctBoxes trees → creators name trees ≡ made [] None trees
  creators_are trees distinct = made_are trees trees [] None [] distinct (root_stand trees)
