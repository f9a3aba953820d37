-- Boxes in tree order.
use Rattle.std.proofs.Common.{◌≡◌, ◌<◌, ◌++◌, ◌∷◌, ◌||◌, ◌⊎◌, ℕ, List, [], Bool, true, false, cond, Option, None, refl, ap, subst, ◌∙◌, inl, inr, arith}
use Rattle.std.proofs.lemmas.Bool.{cases_Bool}
use Rattle.std.specs.Prelude.{filter}
use Rattle.std.specs.List.{AllByRecursion}
use Rattle.forest.specs.Forest.{Forest, Empty, Tree, labels}
use Rattle.plain_types.specs.declared.box_id.BoxId.{BoxId}
use Rattle.counter_sets.specs.Sets.{is_same_box}
use Rattle.box_eval.proofs.BoxLemmas.{box_eq, box_self}
use Rattle.box_eval.proofs.ListLemmas.{each_append, each_imp, or_parts}
use Rattle.counter_scopes.specs.Boxes.{DocumentBox}
use Rattle.counter_scopes.specs.Scopes.{is_in_scope, stands_in}
use Rattle.counter_scopes.specs.Values.{boxes_up_to}
use Rattle.counter_scopes.proofs.ToldLemmas.{AreApart, HasDistinctBoxes, below_once, beside_once, both_once, creates_here, in_append, is_in, listed, next, root_once, times}
use Rattle.counter_scopes.proofs.ScopeLemmas.{does_stand, here, made, no_scope_box, no_stand, none_or_some}

-- Items of lists.

abbrev pub IsItem : {A : Type 0} → A → List A → Type 0
IsItem x [] = ⊥
IsItem x (y ∷ ys) = (y ≡ x) ⊎ IsItem x ys

pub each_item : {A : Type 0} (P : A → Type 0) (xs : List A) → AllByRecursion P xs → (x : A) → IsItem x xs → P x
each_item P [] h x i = absurd i
each_item P (y ∷ ys) h x (inl e) = subst P e h.0
each_item P (y ∷ ys) h x (inr i) = each_item P ys h.1 x i

pub each_self : {A : Type 0} (xs : List A) → AllByRecursion (λ x. IsItem x xs) xs
each_self [] = tt
each_self (x ∷ xs) = (inl refl, each_imp (λ y. IsItem y xs) (λ y. IsItem y (x ∷ xs)) (λ y i. inr i) xs (each_self xs))

pub each_filter : {A : Type 0} (P : A → Type 0) (test : A → Bool) (xs : List A) → ((x : A) → IsItem x xs → test x ≡ true → P x) → AllByRecursion P (filter test xs)
each_filter P test [] i = tt
each_filter P test (x ∷ xs) i = elim (cases_Bool (test x)) [
  | inl e ↦ rw e (i x (inl refl) e, each_filter P test xs (λ y h t. i y (inr h) t))
  | inr e ↦ rw e (each_filter P test xs (λ y h t. i y (inr h) t))
]

item_front : {A : Type 0} (x : A) (xs ys : List A) → IsItem x xs → IsItem x (xs ++ ys)
item_front x [] ys i = absurd i
item_front x (y ∷ xs) ys (inl e) = inl e
item_front x (y ∷ xs) ys (inr i) = inr (item_front x xs ys i)

item_back : {A : Type 0} (x : A) (xs ys : List A) → IsItem x ys → IsItem x (xs ++ ys)
item_back x [] ys i = i
item_back x (y ∷ xs) ys i = inr (item_back x xs ys i)

pub item_in : (x : DocumentBox) (xs : List DocumentBox) → IsItem x xs → is_in x.id xs ≡ true
item_in x [] i = absurd i
item_in x (y ∷ ys) (inl e) = subst (λ (z : DocumentBox). (is_same_box y.id z.id || is_in z.id ys) ≡ true) e (rw (box_self y.id) refl)
item_in x (y ∷ ys) (inr i) = elim (cases_Bool (is_same_box y.id x.id)) [ inl e ↦ rw e refl | inr e ↦ rw e (item_in x ys i) ]

pub filter_in : (test : DocumentBox → Bool) (x : DocumentBox) (xs : List DocumentBox) → IsItem x xs → test x ≡ true → is_in x.id (filter test xs) ≡ true
filter_in test x [] i e = absurd i
filter_in test x (y ∷ ys) (inl latest) e =
    let here : test y ≡ true = ap test latest ∙ e in
    rw here (subst (λ (z : DocumentBox). (is_same_box y.id z.id || is_in z.id (filter test ys)) ≡ true) latest (rw (box_self y.id) refl))
filter_in test x (y ∷ ys) (inr i) e = elim (cases_Bool (test y)) [
  | inl t ↦ rw t (elim (cases_Bool (is_same_box y.id x.id)) [ inl latest ↦ rw latest refl | inr latest ↦ rw latest (filter_in test x ys i e) ])
  | inr t ↦ rw t (filter_in test x ys i e)
]

-- Boxes of a forest.

pub in_labels : (trees : Forest DocumentBox) (b : BoxId) → is_in b (labels trees) ≡ stands_in b trees
in_labels Empty b = refl
in_labels (Tree root children after) b = ap (λ t. is_same_box root.id b || t) (in_append b (labels children) (labels after) ∙ ap (λ t. t || is_in b (labels after)) (in_labels children b) ∙ ap (λ t. stands_in b children || t) (in_labels after b))

pub item_stands : (trees : Forest DocumentBox) (x : DocumentBox) → IsItem x (labels trees) → 0 < times x.id trees
item_stands trees x i = elim (none_or_some (times x.id trees)) [
  | inl z ↦ absurd (let no : is_in x.id (labels trees) ≡ false = in_labels trees x.id ∙ no_stand trees x.id z in let yes = item_in x (labels trees) i in cc)
  | inr z ↦ z
]

labels_stand : (trees : Forest DocumentBox) → AllByRecursion (λ (x : DocumentBox). 0 < times x.id trees) (labels trees)
labels_stand Empty = tt
labels_stand (Tree root children after) =
    let In : DocumentBox → Type 0 = λ x. 0 < times x.id (Tree root children after) in (
      rw (box_self root.id) (omega arith),
      each_append In (labels children) (labels after)
          (each_imp (λ (x : DocumentBox). 0 < times x.id children) In (λ x h. omega arith) (labels children) (labels_stand children))
          (each_imp (λ (x : DocumentBox). 0 < times x.id after) In (λ x h. omega arith) (labels after) (labels_stand after)),
    )

apart_append : (xs ys : List DocumentBox) → AreApart xs → AreApart ys → AllByRecursion (λ (x : DocumentBox). is_in x.id ys ≡ false) xs → AreApart (xs ++ ys)
apart_append [] ys a b h = b
apart_append (x ∷ xs) ys a b h = (in_append x.id xs ys ∙ rw (a.0, h.0) refl, apart_append xs ys a.1 b h.1)

pub labels_apart : (trees : Forest DocumentBox) → HasDistinctBoxes trees → AreApart (labels trees)
labels_apart Empty distinct = tt
labels_apart (Tree root children after) distinct =
    let once = root_once root children after distinct in (
      in_append root.id (labels children) (labels after) ∙ rw (in_labels children root.id, in_labels after root.id, no_stand children root.id once.0, no_stand after root.id once.1) refl,
      apart_append (labels children) (labels after) (labels_apart children (below_once root children after distinct)) (labels_apart after (beside_once root children after distinct))
          (each_imp (λ (x : DocumentBox). 0 < times x.id children) (λ (x : DocumentBox). is_in x.id (labels after) ≡ false)
          (λ x h. in_labels after x.id ∙ no_stand after x.id (let two = both_once root children after x.id distinct in omega arith)) (labels children) (labels_stand children)),
    )

-- what is made in trees is among their boxes
pub made_items : (name : List ℕ) (trees : Forest DocumentBox) (outer : List DocumentBox) (latest : Option DocumentBox) → AllByRecursion (λ (x : DocumentBox). IsItem x (labels trees)) (made name outer latest trees)
made_items name Empty outer latest = tt
made_items name (Tree root children after) outer latest =
    let In : DocumentBox → Type 0 = λ x. IsItem x (labels (Tree root children after)) in
    let xs = outer ++ listed (next name outer latest root) in
    let below = made name xs None children in
    let rest = made name outer (next name outer latest root) after in
    let own : (b : Bool) → AllByRecursion In (cond b (root ∷ []) []) = λ b. elim b as (λ b. AllByRecursion In (cond b (root ∷ []) [])) [ true ↦ (inl refl, tt) | false ↦ tt ] in
    each_append In (here name outer latest root) (below ++ rest) (own (creates_here name outer latest root))
    (each_append In below rest
    (each_imp (λ (x : DocumentBox). IsItem x (labels children)) In (λ x h. inr (item_front x (labels children) (labels after) h)) below (made_items name children xs None))
    (each_imp (λ (x : DocumentBox). IsItem x (labels after)) In (λ x h. inr (item_back x (labels children) (labels after) h)) rest (made_items name after outer (next name outer latest root))))

-- Boxes up to one.

pub up_past : (b : BoxId) (xs ys : List DocumentBox) → is_in b xs ≡ false → boxes_up_to b (xs ++ ys) ≡ xs ++ boxes_up_to b ys
up_past b [] ys h = refl
up_past b (x ∷ xs) ys h =
    let parts = or_parts (is_same_box x.id b) (is_in b xs) h in
    ap (λ t. x ∷ cond t [] (boxes_up_to b (xs ++ ys))) parts.0 ∙ ap (λ all. x ∷ all) (up_past b xs ys parts.1)

up_within : (b : BoxId) (xs ys : List DocumentBox) → is_in b xs ≡ true → boxes_up_to b (xs ++ ys) ≡ boxes_up_to b xs
up_within b [] ys h = absurd (cc)
up_within b (x ∷ xs) ys h = elim (cases_Bool (is_same_box x.id b)) [
  | inl e ↦ rw e refl
  | inr e ↦ rw e (ap (λ all. x ∷ all) (up_within b xs ys (rw e at h)))
]

in_front : (a : BoxId) (xs ys : List DocumentBox) → is_in a ys ≡ true → is_in a (xs ++ ys) ≡ true
in_front a [] ys h = h
in_front a (x ∷ xs) ys h = elim (cases_Bool (is_same_box x.id a)) [ inl e ↦ rw e refl | inr e ↦ rw e (in_front a xs ys h) ]

-- a box comes in tree order before those in the scope of its counter
pub scope_up_to : (name : List ℕ) (trees : Forest DocumentBox) (a b : BoxId) → HasDistinctBoxes trees → is_in_scope name trees a b ≡ true → is_in a (boxes_up_to b (labels trees)) ≡ true
scope_up_to name Empty a b distinct h = absurd (cc)
scope_up_to name (Tree root children after) a b distinct h = elim (cases_Bool (is_same_box root.id a)) [
  | inl e ↦ rw e refl
  | inr e ↦
      let inner : (is_in_scope name children a b || is_in_scope name after a b) ≡ true = rw e at h in
      elim (cases_Bool (is_same_box root.id b)) [
        | inl f ↦ absurd (
            let once = root_once root children after distinct in
            let is = box_eq root.id b f in
            let none_below : is_in_scope name children a b ≡ false = subst (λ box. is_in_scope name children a box ≡ false) is (no_scope_box name children a root.id once.0) in
            let none_beside : is_in_scope name after a b ≡ false = subst (λ box. is_in_scope name after a box ≡ false) is (no_scope_box name after a root.id once.1) in
            let bad : (false || false) ≡ true = subst (λ t. (false || t) ≡ true) none_beside (subst (λ t. (t || is_in_scope name after a b) ≡ true) none_below inner) in
            cc)
        | inr f ↦
            rw (e, f) (elim (cases_Bool (is_in_scope name children a b)) [
              | inl i ↦
                  let stands : 0 < times b children = elim (none_or_some (times b children)) [ inl z ↦ absurd (let no = no_scope_box name children a b z in cc) | inr z ↦ z ] in
                  ap (is_in a) (up_within b (labels children) (labels after) (in_labels children b ∙ does_stand children b stands)) ∙ scope_up_to name children a b (below_once root children after distinct) i
              | inr i ↦
                  let beside : is_in_scope name after a b ≡ true = rw i at inner in
                  let stands : 0 < times b after = elim (none_or_some (times b after)) [ inl z ↦ absurd (let no = no_scope_box name after a b z in cc) | inr z ↦ z ] in
                  let none : times b children ≡ 0 = let two = both_once root children after b distinct in omega arith in
                  ap (is_in a) (up_past b (labels children) (labels after) (in_labels children b ∙ no_stand children b none))
                  ∙ in_front a (labels children) (boxes_up_to b (labels after)) (scope_up_to name after a b (beside_once root children after distinct) beside)
            ])
      ]
]
