-- The sets of boxes are told without sets, seen by one name: by the counters of the parent box, and by the one that
-- the sibling boxes before left.
use Rattle.std.proofs.Common.{◌≡◌, ◌+◌, ◌≤◌, ◌++◌, ◌∷◌, ◌||◌, ◌&&◌, ℕ, ℤ, List, [], Bool, true, false, cond, not, Option, Some, None, map, refl, sym, ap, subst, ◌∙◌, inl, inr, arith, append-nil}
use Rattle.std.proofs.lemmas.Bool.{cases_Bool}
use Rattle.std.proofs.lemmas.List.{map-append}
use Rattle.std.proofs.lemmas.List.Elements.{filter-append}
use Rattle.std.specs.Prelude.{filter, find, is_some, unwrap_or}
use Rattle.std.specs.List.{AllByRecursion, last_or, list_any}
use Rattle.std.specs.Option.{option_map_or}
use Rattle.std.specs.Str.{bytes_eq}
use Rattle.forest.specs.Forest.{Forest, Empty, Tree}
use Rattle.plain_types.specs.declared.box_id.BoxId.{BoxId}
use Rattle.plain_types.specs.declared.counter.Counter.{Counter}
use Rattle.plain_types.specs.declared.style.ResetOp.{ResetOp}
use Rattle.counter_sets.specs.Sets.{inherited, is_missing_in, is_named, is_same, is_same_box, valued_in}
use Rattle.counter_sets.proofs.DistinctLemmas.{box_symm}
use Rattle.box_eval.proofs.BoxLemmas.{box_eq, box_self}
use Rattle.box_eval.proofs.ListLemmas.{each_append, each_imp, or_parts}
use Rattle.counter_scopes.specs.Boxes.{DocumentBox}
use Rattle.counter_scopes.specs.Counting.{created, mentions, reset_for, resets}
use Rattle.counter_scopes.proofs.NameLemmas.{at_last, dropped, only}
use Rattle.counter_scopes.proofs.CountLemmas.{box_is, box_set, changed, changed_value, reset_counter, reset_named, with_new, zero_counter}

-- Lists.

pub each_front : {A : Type 0} (P : A → Type 0) (xs ys : List A) → AllByRecursion P (xs ++ ys) → AllByRecursion P xs
each_front P [] ys h = tt
each_front P (x ∷ xs) ys h = (h.0, each_front P xs ys h.1)

pub each_back : {A : Type 0} (P : A → Type 0) (xs ys : List A) → AllByRecursion P (xs ++ ys) → AllByRecursion P ys
each_back P [] ys h = h
each_back P (x ∷ xs) ys h = each_back P xs ys h.1

-- Boxes.

pub box_not : (first second : BoxId) → is_same_box first second ≡ false → is_same_box second first ≡ false
box_not first second h = box_symm second first ∙ h

abbrev pub is_in : BoxId → List DocumentBox → Bool
is_in box [] = false
is_in box (x ∷ xs) = is_same_box x.id box || is_in box xs

abbrev pub AreApart : List DocumentBox → Type 0
AreApart [] = Unit {0}
AreApart (x ∷ xs) = (is_in x.id xs ≡ false) × AreApart xs

pub in_append : (box : BoxId) (xs ys : List DocumentBox) → is_in box (xs ++ ys) ≡ (is_in box xs || is_in box ys)
in_append box [] ys = refl
in_append box (x ∷ xs) ys = elim (cases_Bool (is_same_box x.id box)) [ inl e ↦ rw e refl | inr e ↦ rw e (in_append box xs ys) ]

in_more : (box : BoxId) (y : DocumentBox) (xs : List DocumentBox) → is_in box xs ≡ false → is_same_box y.id box ≡ false → is_in box (xs ++ y ∷ []) ≡ false
in_more box y xs h e = in_append box xs (y ∷ []) ∙ rw (h, e) refl

apart_more : (y : DocumentBox) (xs : List DocumentBox) → AreApart xs → is_in y.id xs ≡ false → AreApart (xs ++ y ∷ [])
apart_more y [] d h = (refl, tt)
apart_more y (x ∷ xs) d h = let o = or_parts (is_same_box x.id y.id) (is_in y.id xs) h in (in_more x.id y xs d.0 (box_not x.id y.id o.0), apart_more y xs d.1 o.1)

each_in : (y : DocumentBox) (ys xs : List DocumentBox) → AllByRecursion (λ x. is_in x.id ys ≡ true) xs → AllByRecursion (λ x. is_in x.id (y ∷ ys) ≡ true) xs
each_in y ys [] h = tt
each_in y ys (x ∷ xs) h = (elim (cases_Bool (is_same_box y.id x.id)) [ inl e ↦ rw e refl | inr e ↦ rw e h.0 ], each_in y ys xs h.1)

pub self_in : (xs : List DocumentBox) → AllByRecursion (λ x. is_in x.id xs ≡ true) xs
self_in [] = tt
self_in (x ∷ xs) = (rw (box_self x.id) refl, each_in x xs xs (self_in xs))

-- How often a box stands in trees.

abbrev pub times : BoxId → Forest DocumentBox → ℕ
times box Empty = 0
times box (Tree root children after) = cond (is_same_box root.id box) 1 0 + (times box children + times box after)

abbrev pub HasDistinctBoxes : Forest DocumentBox → Type 0
HasDistinctBoxes boxes = (box : BoxId) → times box boxes ≤ 1

abbrev pub AreOut : Forest DocumentBox → List DocumentBox → Type 0
AreOut boxes xs = AllByRecursion (λ (x : DocumentBox). times x.id boxes ≡ 0) xs

module _ (root : DocumentBox) (children after : Forest DocumentBox) where
  pub parts_none : (box : BoxId) → times box (Tree root children after) ≡ 0 → (is_same_box root.id box ≡ false) × (times box children ≡ 0) × (times box after ≡ 0)
  parts_none box h = elim (cases_Bool (is_same_box root.id box)) [
    | inl e ↦ absurd (let one : 1 + (times box children + times box after) ≡ 0 = rw e at h in omega arith)
    | inr e ↦ let none : 0 + (times box children + times box after) ≡ 0 = rw e at h in (e, omega arith, omega arith)
  ]

  pub root_once : HasDistinctBoxes (Tree root children after) → (times root.id children ≡ 0) × (times root.id after ≡ 0)
  root_once distinct =
      let one : 1 + (times root.id children + times root.id after) ≤ 1 = subst (λ b. cond b 1 0 + (times root.id children + times root.id after) ≤ 1) (box_self root.id) (distinct root.id) in
      (omega arith, omega arith)

  pub below_once : HasDistinctBoxes (Tree root children after) → HasDistinctBoxes children
  below_once distinct box = let all = distinct box in omega arith

  pub beside_once : HasDistinctBoxes (Tree root children after) → HasDistinctBoxes after
  beside_once distinct box = let all = distinct box in omega arith

  pub both_once : (box : BoxId) → HasDistinctBoxes (Tree root children after) → times box children + times box after ≤ 1
  both_once box distinct = let all = distinct box in omega arith

  pub root_new : (xs : List DocumentBox) → AreOut (Tree root children after) xs → is_in root.id xs ≡ false
  root_new [] h = refl
  root_new (x ∷ xs) h = rw (box_not root.id x.id (parts_none x.id h.0).0) (root_new xs h.1)

  pub out_below : (xs : List DocumentBox) → AreOut (Tree root children after) xs → AreOut children xs
  out_below xs h = each_imp (λ (x : DocumentBox). times x.id (Tree root children after) ≡ 0) (λ (x : DocumentBox). times x.id children ≡ 0) (λ x e. (parts_none x.id e).1) xs h

  pub out_beside : (xs : List DocumentBox) → AreOut (Tree root children after) xs → AreOut after xs
  out_beside xs h = each_imp (λ (x : DocumentBox). times x.id (Tree root children after) ≡ 0) (λ (x : DocumentBox). times x.id after ≡ 0) (λ x e. (parts_none x.id e).2) xs h

abbrev pub listed : Option DocumentBox → List DocumentBox
listed None = []
listed (Some x) = x ∷ []

abbrev pub is_held : Option DocumentBox → List DocumentBox → Bool
is_held None outer = false
is_held (Some x) outer = is_in x.id outer

-- What is known of a counter beside its name and creator.
pub record Worth : Type 0 where
  pub reversed : Bool
  pub value : ℤ

abbrev pub Worths : Type 0
Worths = BoxId → Worth

abbrev pub put : BoxId → Worth → Worths → Worths
put box worth worths other = cond (is_same_box box other) worth (worths other)

abbrev pub edit : Option DocumentBox → (Worth → Worth) → Worths → Worths
edit None f worths = worths
edit (Some x) f worths = put x.id (f (worths x.id)) worths

-- one that no box is missing in
abbrev pub missing : List DocumentBox → Option DocumentBox → Bool → Bool
missing [] None names = names
missing [] (Some x) names = false
missing (x ∷ xs) latest names = false

module _ (name : List ℕ) where
  abbrev pub counter_of : Worths → BoxId → Counter
  counter_of worths box = record { name = name; creator = box; reversed = (worths box).reversed; value = (worths box).value }

  abbrev pub listing : Worths → List DocumentBox → List Counter
  listing worths [] = []
  listing worths (x ∷ xs) = counter_of worths x.id ∷ listing worths xs

  -- whether the box creates a counter, where these are the counters of the parent and of the siblings
  abbrev pub creates_here : List DocumentBox → Option DocumentBox → DocumentBox → Bool
  creates_here outer latest root = resets name root || missing outer latest (mentions name root)

  abbrev pub next : List DocumentBox → Option DocumentBox → DocumentBox → Option DocumentBox
  next outer latest root = cond (creates_here outer latest root) (Some root) latest

  abbrev pub first : DocumentBox → Worth
  first root = record { reversed = (created name root).reversed; value = (created name root).value }

  abbrev pub change : DocumentBox → Worth → Worth
  change root w = record { reversed = w.reversed; value = changed_value name root w.reversed w.value }

  -- the worths after a box: what it creates gets its first one, and then the innermost is changed
  abbrev pub begun : List DocumentBox → Option DocumentBox → DocumentBox → Worths → Worths
  begun outer latest root worths = cond (creates_here outer latest root) (put root.id (first root) worths) worths

  abbrev pub worth : List DocumentBox → Option DocumentBox → DocumentBox → Worths → Worths
  worth outer latest root worths = edit (last_or None (outer ++ listed (next outer latest root))) (change root) (begun outer latest root worths)

  abbrev pub worth_after : List DocumentBox → Option DocumentBox → Worths → Forest DocumentBox → Worths
  worth_after outer latest worths Empty = worths
  worth_after outer latest worths (Tree root children after) = worth_after outer (next outer latest root) (worth_after (outer ++ listed (next outer latest root)) None (worth outer latest root worths) children) after

  -- the boxes in tree order, each with its counters of the name
  abbrev pub told : List DocumentBox → Option DocumentBox → Worths → Forest DocumentBox → List (DocumentBox × List Counter)
  told outer latest worths Empty = []
  told outer latest worths (Tree root children after) =
      (root, listing (worth outer latest root worths) (outer ++ listed (next outer latest root)))
      ∷ (told (outer ++ listed (next outer latest root)) None (worth outer latest root worths) children
      ++ told outer (next outer latest root) (worth_after (outer ++ listed (next outer latest root)) None (worth outer latest root worths) children) after)

  -- Listings.

  pub listing_append : (worths : Worths) (xs ys : List DocumentBox) → listing worths (xs ++ ys) ≡ listing worths xs ++ listing worths ys
  listing_append worths [] ys = refl
  listing_append worths (x ∷ xs) ys = ap (λ all. counter_of worths x.id ∷ all) (listing_append worths xs ys)

  put_other : (box : BoxId) (w : Worth) (worths : Worths) (xs : List DocumentBox) → is_in box xs ≡ false → listing (put box w worths) xs ≡ listing worths xs
  put_other box w worths [] h = refl
  put_other box w worths (x ∷ xs) h = let o = or_parts (is_same_box x.id box) (is_in box xs) h in rw (box_not x.id box o.0, put_other box w worths xs o.1) refl

  put_self : (box : BoxId) (w : Worth) (worths : Worths) → put box w worths box ≡ w
  put_self box w worths = rw (box_self box) refl

  listing_push : (outer : List DocumentBox) (root : DocumentBox) (w : Worth) (worths : Worths) → is_in root.id outer ≡ false → listing worths outer ++ (record { name = name; creator = root.id; reversed = w.reversed; value = w.value }) ∷ [] ≡ listing (put root.id w worths) (outer ++ root ∷ [])
  listing_push outer root w worths h =
      sym (listing_append (put root.id w worths) outer (root ∷ [])
      ∙ ap (λ all. all ++ counter_of (put root.id w worths) root.id ∷ []) (put_other root.id w worths outer h)
      ∙ ap (λ (is : Worth). listing worths outer ++ record { name = name; creator = root.id; reversed = is.reversed; value = is.value } ∷ []) (put_self root.id w worths))

  -- Whether a parent's set has a counter of the name.

  any_only : (c : Counter) → c.name ≡ name → (set : List Counter) → list_any (is_same c) set ≡ list_any (λ (d : Counter). is_same_box c.creator d.creator) (only name set)
  any_only c is [] = refl
  any_only c is (d ∷ set) =
      ap (λ other. (bytes_eq other d.name && is_same_box c.creator d.creator) || list_any (is_same c) set) is
      ∙ elim (cases_Bool (bytes_eq name d.name)) [
        | inl e ↦ rw e (ap (λ b. is_same_box c.creator d.creator || b) (any_only c is set))
        | inr e ↦ rw e (any_only c is set)
      ]

  any_listed : (box : BoxId) (worths : Worths) (xs : List DocumentBox) → list_any (λ (d : Counter). is_same_box box d.creator) (listing worths xs) ≡ is_in box xs
  any_listed box worths [] = refl
  any_listed box worths (x ∷ xs) = ap (λ b. b || list_any (λ (d : Counter). is_same_box box d.creator) (listing worths xs)) (box_symm box x.id) ∙ ap (λ b. is_same_box x.id box || b) (any_listed box worths xs)

  missing_is : (parent : List Counter) (u : Worths) (outer : List DocumentBox) → only name parent ≡ listing u outer → (worths : Worths) (box : BoxId) → is_missing_in parent (counter_of worths box) ≡ not (is_in box outer)
  missing_is parent u outer e worths box = ap not (any_only (counter_of worths box) refl parent ∙ ap (list_any (λ (d : Counter). is_same_box box d.creator)) e ∙ any_listed box u outer)

  -- The value of a counter in a set.

  abbrev pub value_in : List Counter → BoxId → ℤ → ℤ
  value_in [] box otherwise = otherwise
  value_in (d ∷ set) box otherwise = cond (is_same_box box d.creator) d.value (value_in set box otherwise)

  valued_is : (set : List Counter) (c : Counter) → c.name ≡ name → valued_in set c ≡ record c { value = value_in (only name set) c.creator c.value }
  valued_is [] c is = refl
  valued_is (d ∷ set) c is =
      let with_found : Option Counter → Counter = λ found. option_map_or (λ (same : Counter). record c { value = same.value }) found c in
      ap (λ other. with_found (cond (bytes_eq other d.name && is_same_box c.creator d.creator) (Some d) (find (is_same c) set))) is
      ∙ elim (cases_Bool (bytes_eq name d.name)) [
        | inl e ↦ elim (cases_Bool (is_same_box c.creator d.creator)) [ inl t ↦ rw (e, t) refl | inr t ↦ rw (e, t) (valued_is set c is) ]
        | inr e ↦ rw e (valued_is set c is)
      ]

  found_in : (worths : Worths) (xs : List DocumentBox) (box : BoxId) (o : ℤ) → is_in box xs ≡ true → value_in (listing worths xs) box o ≡ (worths box).value
  found_in worths [] box o h = absurd (cc)
  found_in worths (x ∷ xs) box o h = elim (cases_Bool (is_same_box x.id box)) [
    | inl e ↦ rw (box_symm box x.id, e) (ap (λ other. (worths other).value) (box_eq x.id box e))
    | inr e ↦ rw (box_symm box x.id, e) (found_in worths xs box o (rw e at h))
  ]

  abbrev pub Knows : List Counter → Worths → List DocumentBox → Type 0
  Knows set worths xs = AllByRecursion (λ (x : DocumentBox). (o : ℤ) → value_in set x.id o ≡ (worths x.id).value) xs

  knows_itself : (worths : Worths) (xs : List DocumentBox) → Knows (listing worths xs) worths xs
  knows_itself worths xs = each_imp (λ (x : DocumentBox). is_in x.id xs ≡ true) (λ (x : DocumentBox). (o : ℤ) → value_in (listing worths xs) x.id o ≡ (worths x.id).value) (λ x h o. found_in worths xs x.id o h) xs (self_in xs)

  abbrev pub SameFlags : Worths → Worths → List DocumentBox → Type 0
  SameFlags u worths xs = AllByRecursion (λ (x : DocumentBox). (u x.id).reversed ≡ (worths x.id).reversed) xs

  flags_refl : (worths : Worths) (xs : List DocumentBox) → SameFlags worths worths xs
  flags_refl worths [] = tt
  flags_refl worths (x ∷ xs) = (refl, flags_refl worths xs)

  valued_listing : (set : List Counter) (u worths : Worths) (xs : List DocumentBox) → SameFlags u worths xs → Knows (only name set) worths xs → map (valued_in set) (listing u xs) ≡ listing worths xs
  valued_listing set u worths [] f h = refl
  valued_listing set u worths (x ∷ xs) f h =
      let make : Bool → ℤ → Counter = λ reversed value. record { name = name; creator = x.id; reversed = reversed; value = value } in
      let here : valued_in set (counter_of u x.id) ≡ counter_of worths x.id =
      valued_is set (counter_of u x.id) refl ∙ ap (make (u x.id).reversed) (h.0 (u x.id).value) ∙ ap (λ reversed. make reversed (worths x.id).value) f.0 in
      ap (λ c. c ∷ map (valued_in set) (listing u xs)) here ∙ ap (λ all. counter_of worths x.id ∷ all) (valued_listing set u worths xs f.1 h.1)

  -- What is carried from box to box: `outer` and `latest` are the counters of the parent and of the sibling before that the
  -- parent has not, and the preceding set knows the values of all.
  pub record Carries (parent : List Counter) (sibling preceding : Option (List Counter)) (outer : List DocumentBox) (latest : Option DocumentBox) (worths : Worths) : Type 0 where
    pub before : Worths
    pub beside : Worths
    pub parents : only name parent ≡ listing before outer
    pub siblings : filter (is_missing_in parent) (only name (unwrap_or sibling [])) ≡ listing beside (listed latest)
    pub flags : SameFlags before worths outer
    pub flags_beside : SameFlags beside worths (listed latest)
    pub known : Knows (only name (unwrap_or preceding [])) worths (outer ++ listed latest)
    pub once : AreApart outer
    pub apart : is_held latest outer ≡ false

  -- Inheriting.

  named_kept : (set : List Counter) (c : Counter) → is_named name (valued_in set c) ≡ is_named name c
  named_kept set c = by_found (find (is_same c) set)
    where
      by_found : (found : Option Counter) → is_named name (option_map_or (λ (same : Counter). record c { value = same.value }) found c) ≡ is_named name c
      by_found None = refl
      by_found (Some same) = refl

  only_map : (set cs : List Counter) → only name (map (valued_in set) cs) ≡ map (valued_in set) (only name cs)
  only_map set [] = refl
  only_map set (c ∷ cs) =
      ap (λ b. cond b (valued_in set c ∷ only name (map (valued_in set) cs)) (only name (map (valued_in set) cs))) (named_kept set c)
      ∙ elim (cases_Bool (is_named name c)) [ inl e ↦ rw e (ap (λ all. valued_in set c ∷ all) (only_map set cs)) | inr e ↦ rw e (only_map set cs) ]

  filter_swap : (test : Counter → Bool) (cs : List Counter) → only name (filter test cs) ≡ filter test (only name cs)
  filter_swap test [] = refl
  filter_swap test (c ∷ cs) = elim (cases_Bool (test c)) [
    | inl t ↦ elim (cases_Bool (is_named name c)) [ inl e ↦ rw (t, e, t) (ap (λ all. c ∷ all) (filter_swap test cs)) | inr e ↦ rw (t, e) (filter_swap test cs) ]
    | inr t ↦ elim (cases_Bool (is_named name c)) [ inl e ↦ rw (t, e, t) (filter_swap test cs) | inr e ↦ rw (t, e) (filter_swap test cs) ]
  ]

  module _ (parent : List Counter) (sibling preceding : Option (List Counter)) (outer : List DocumentBox) (latest : Option DocumentBox) (worths : Worths) (carries : Carries parent sibling preceding outer latest worths) where
    inherited_is : only name (inherited parent sibling preceding) ≡ listing worths (outer ++ listed latest)
    inherited_is =
        let set = unwrap_or preceding [] in
        let others = filter (is_missing_in parent) (unwrap_or sibling []) in
        let Known : DocumentBox → Type 0 = λ x. (o : ℤ) → value_in (only name set) x.id o ≡ (worths x.id).value in
        only_map set (parent ++ others)
        ∙ ap (map (valued_in set)) (filter-append (is_named name) parent others ∙ ap (λ all. all ++ only name others) carries.parents ∙ ap (λ all. listing carries.before outer ++ all) (filter_swap (is_missing_in parent) (unwrap_or sibling []) ∙ carries.siblings))
        ∙ map-append (valued_in set) (listing carries.before outer) (listing carries.beside (listed latest))
        ∙ ap (λ all. all ++ map (valued_in set) (listing carries.beside (listed latest))) (valued_listing set carries.before worths outer carries.flags (each_front Known outer (listed latest) carries.known))
        ∙ ap (λ all. listing worths outer ++ all) (valued_listing set carries.beside worths (listed latest) carries.flags_beside (each_back Known outer (listed latest) carries.known))
        ∙ sym (listing_append worths outer (listed latest))

  -- Resets.

  dropped_last : (is_replaced : Counter → Bool) (cs : List Counter) (c : Counter) → is_replaced c ≡ true → dropped is_replaced (cs ++ c ∷ []) ≡ cs
  dropped_last is_replaced [] c h = rw h refl
  dropped_last is_replaced (d ∷ []) c h = rw h refl
  dropped_last is_replaced (d ∷ e ∷ cs) c h = ap (λ all. d ∷ all) (dropped_last is_replaced (e ∷ cs) c h)

  dropped_none : (is_replaced : Counter → Bool) (worths : Worths) (xs : List DocumentBox) → AllByRecursion (λ (x : DocumentBox). is_replaced (counter_of worths x.id) ≡ false) xs → dropped is_replaced (listing worths xs) ≡ listing worths xs
  dropped_none is_replaced worths [] h = refl
  dropped_none is_replaced worths (x ∷ []) h = rw h.0 refl
  dropped_none is_replaced worths (x ∷ y ∷ xs) h = ap (λ all. counter_of worths x.id ∷ all) (dropped_none is_replaced worths (y ∷ xs) h.1)

  module _ (parent : List Counter) (u : Worths) (outer : List DocumentBox) (parents : only name parent ≡ listing u outer) where
    parents_kept : (worths : Worths) → AllByRecursion (λ (x : DocumentBox). is_missing_in parent (counter_of worths x.id) ≡ false) outer
    parents_kept worths = each_imp (λ (x : DocumentBox). is_in x.id outer ≡ true) (λ (x : DocumentBox). is_missing_in parent (counter_of worths x.id) ≡ false) (λ x h. missing_is parent u outer parents worths x.id ∙ ap not h) outer (self_in outer)

    reset_drops : (latest : Option DocumentBox) (worths : Worths) → is_held latest outer ≡ false → dropped (is_missing_in parent) (listing worths (outer ++ listed latest)) ≡ listing worths outer
    reset_drops None worths h = ap (λ xs. dropped (is_missing_in parent) (listing worths xs)) (append-nil outer) ∙ dropped_none (is_missing_in parent) worths outer (parents_kept worths)
    reset_drops (Some x) worths h = ap (dropped (is_missing_in parent)) (listing_append worths outer (x ∷ [])) ∙ dropped_last (is_missing_in parent) (listing worths outer) (counter_of worths x.id) (missing_is parent u outer parents worths x.id ∙ ap not h)

  -- Creating.

  named_by : (outer : List DocumentBox) (latest : Option DocumentBox) (root : DocumentBox) (names : Bool) (w : Worth) (worths : Worths) → record { name = name; creator = root.id; reversed = w.reversed; value = w.value } ≡ zero_counter name root → is_in root.id outer ≡ false
      → with_new name root names (listing worths (outer ++ listed latest)) ≡ listing (cond (missing outer latest names) (put root.id w worths) worths) (outer ++ listed (cond (missing outer latest names) (Some root) latest))
  named_by [] None root true w worths e h = ap (λ c. c ∷ []) (sym e) ∙ listing_push [] root w worths refl
  named_by [] None root false w worths e h = refl
  named_by [] (Some x) root true w worths e h = refl
  named_by [] (Some x) root false w worths e h = refl
  named_by (x ∷ outer) None root true w worths e h = refl
  named_by (x ∷ outer) None root false w worths e h = refl
  named_by (x ∷ outer) (Some y) root true w worths e h = refl
  named_by (x ∷ outer) (Some y) root false w worths e h = refl

  new_back : (root : DocumentBox) (names : Bool) (cs : List Counter) (c : Counter) → with_new name root names (cs ++ c ∷ []) ≡ cs ++ c ∷ []
  new_back root true [] c = refl
  new_back root true (d ∷ cs) c = refl
  new_back root false cs c = refl

  -- by its reset, which is there or not
  abbrev created_by : DocumentBox → Option ResetOp → Counter
  created_by root reset = option_map_or (reset_counter name root) reset (zero_counter name root)

  abbrev first_by : DocumentBox → Option ResetOp → Worth
  first_by root reset = record { reversed = (created_by root reset).reversed; value = (created_by root reset).value }

  created_here : (parent : List Counter) (u : Worths) (outer : List DocumentBox) → only name parent ≡ listing u outer → (latest : Option DocumentBox) (root : DocumentBox) (reset : Option ResetOp) (names : Bool) (worths : Worths) → is_in root.id outer ≡ false → is_held latest outer ≡ false
      → with_new name root names (option_map_or (λ op. dropped (is_missing_in parent) (listing worths (outer ++ listed latest)) ++ reset_counter name root op ∷ []) reset (listing worths (outer ++ listed latest)))
      ≡ listing (cond (is_some reset || missing outer latest names) (put root.id (first_by root reset) worths) worths) (outer ++ listed (cond (is_some reset || missing outer latest names) (Some root) latest))
  created_here parent u outer parents latest root None names worths h a = named_by outer latest root names (first_by root None) worths refl h
  created_here parent u outer parents latest root (Some op) names worths h a =
      ap (λ all. with_new name root names (all ++ reset_counter name root op ∷ [])) (reset_drops parent u outer parents latest worths a)
      ∙ new_back root names (listing worths outer) (reset_counter name root op)
      ∙ listing_push outer root (first_by root (Some op)) worths h

  -- Changing the innermost.

  last_apart : (box : BoxId) (otherwise : Option DocumentBox) (xs : List DocumentBox) → ((x : DocumentBox) → otherwise ≡ Some x → is_same_box x.id box ≡ false) → is_in box xs ≡ false → (x : DocumentBox) → last_or otherwise xs ≡ Some x → is_same_box x.id box ≡ false
  last_apart box otherwise [] i h x e = i x e
  last_apart box otherwise (y ∷ ys) i h x e =
      let parts = or_parts (is_same_box y.id box) (is_in box ys) h in
      last_apart box (Some y) ys (λ z same. let is : y ≡ z = cc in subst (λ (other : DocumentBox). is_same_box other.id box ≡ false) is parts.0) parts.1 x e

  edit_other : (o : Option DocumentBox) (f : Worth → Worth) (worths : Worths) (box : BoxId) → ((x : DocumentBox) → o ≡ Some x → is_same_box x.id box ≡ false) → edit o f worths box ≡ worths box
  edit_other None f worths box i = refl
  edit_other (Some x) f worths box i = rw (i x refl) refl

  pub not_last : (xs : List DocumentBox) (box : BoxId) → is_in box xs ≡ false → (x : DocumentBox) → last_or None xs ≡ Some x → is_same_box x.id box ≡ false
  not_last xs box h = last_apart box None xs (λ x e. absurd (cc)) h

  changed_is : (root : DocumentBox) (worths : Worths) (xs : List DocumentBox) → AreApart xs → at_last (changed name root) (listing worths xs) ≡ listing (edit (last_or None xs) (change root) worths) xs
  changed_is root worths [] d = refl
  changed_is root worths (x ∷ []) d = ap (λ (w : Worth). record { name = name; creator = x.id; reversed = w.reversed; value = w.value } ∷ []) (sym (put_self x.id (change root (worths x.id)) worths))
  changed_is root worths (x ∷ y ∷ xs) d =
      let now = edit (last_or None (y ∷ xs)) (change root) worths in
      ap (λ all. counter_of worths x.id ∷ all) (changed_is root worths (y ∷ xs) d.1)
      ∙ ap (λ (w : Worth). record { name = name; creator = x.id; reversed = w.reversed; value = w.value } ∷ listing now (y ∷ xs)) (sym (edit_other (last_or None (y ∷ xs)) (change root) worths x.id (not_last (y ∷ xs) x.id d.0)))

  -- A box.

  apart_next : (outer : List DocumentBox) (latest : Option DocumentBox) → AreApart outer → is_held latest outer ≡ false → AreApart (outer ++ listed latest)
  apart_next outer None d h = rw append-nil d
  apart_next outer (Some x) d h = apart_more x outer d h

  next_held : (outer : List DocumentBox) (latest : Option DocumentBox) (root : DocumentBox) → is_in root.id outer ≡ false → is_held latest outer ≡ false → is_held (next outer latest root) outer ≡ false
  next_held outer latest root h a = elim (cases_Bool (creates_here outer latest root)) [ inl e ↦ rw e h | inr e ↦ rw e a ]

  module _ (parent : List Counter) (sibling preceding : Option (List Counter)) (outer : List DocumentBox) (latest : Option DocumentBox) (worths : Worths) (carries : Carries parent sibling preceding outer latest worths) (root : DocumentBox) (new : is_in root.id outer ≡ false) where
    abbrev pub own_of : List Counter
    own_of = box_set parent root (inherited parent sibling preceding)

    pub own_is : only name own_of ≡ listing (worth outer latest root worths) (outer ++ listed (next outer latest root))
    own_is =
        box_is name root parent (inherited parent sibling preceding)
        ∙ ap (λ all. at_last (changed name root) (with_new name root (mentions name root) (reset_named name root (is_missing_in parent) all))) (inherited_is parent sibling preceding outer latest worths carries)
        ∙ ap (at_last (changed name root)) (created_here parent carries.before outer carries.parents latest root (reset_for name root) (mentions name root) worths new carries.apart)
        ∙ changed_is root (begun outer latest root worths) (outer ++ listed (next outer latest root)) (apart_next outer (next outer latest root) carries.once (next_held outer latest root new carries.apart))

    pub carries_below : Carries own_of None (Some own_of) (outer ++ listed (next outer latest root)) None (worth outer latest root worths)
    carries_below =
        let w = worth outer latest root worths in
        let xs = outer ++ listed (next outer latest root) in
        record {
          before = w;
          beside = w;
          parents = own_is;
          siblings = refl;
          flags = flags_refl w xs;
          flags_beside = tt;
          known = subst (Knows (only name own_of) w) (sym (append-nil xs)) (subst (λ set. Knows set w xs) (sym own_is) (knows_itself w xs));
          once = apart_next outer (next outer latest root) carries.once (next_held outer latest root new carries.apart);
          apart = refl;
        }

    -- what the own set has that the parent's has not
    others_none : (w : Worths) (xs : List DocumentBox) (cs : List Counter) → AllByRecursion (λ (x : DocumentBox). is_missing_in parent (counter_of w x.id) ≡ false) xs → filter (is_missing_in parent) (listing w xs ++ cs) ≡ filter (is_missing_in parent) cs
    others_none w [] cs h = refl
    others_none w (x ∷ xs) cs h = rw h.0 (others_none w xs cs h.1)

    others_listed : (w : Worths) (o : Option DocumentBox) → is_held o outer ≡ false → filter (is_missing_in parent) (listing w (listed o)) ≡ listing w (listed o)
    others_listed w None h = refl
    others_listed w (Some x) h = rw (missing_is parent carries.before outer carries.parents w x.id, h) refl

    others_are : filter (is_missing_in parent) (only name own_of) ≡ listing (worth outer latest root worths) (listed (next outer latest root))
    others_are =
        let w = worth outer latest root worths in
        let rest = listed (next outer latest root) in
        ap (filter (is_missing_in parent)) (own_is ∙ listing_append w outer rest)
        ∙ others_none w outer (listing w rest) (parents_kept parent carries.before outer carries.parents w)
        ∙ others_listed w (next outer latest root) (next_held outer latest root new carries.apart)

    pub carries_beside : (exit : List Counter) (w : Worths) → SameFlags worths w outer → SameFlags (worth outer latest root worths) w (listed (next outer latest root)) → Knows (only name exit) w (outer ++ listed (next outer latest root)) → Carries parent (Some own_of) (Some exit) outer (next outer latest root) w
    carries_beside exit w flags flags_beside known = record {
      before = carries.before;
      beside = worth outer latest root worths;
      parents = carries.parents;
      siblings = others_are;
      flags = flags_both carries.before worths w outer carries.flags flags;
      flags_beside = flags_beside;
      known = known;
      once = carries.once;
      apart = next_held outer latest root new carries.apart;
    }
      where
        flags_both : (u worths w : Worths) (xs : List DocumentBox) → SameFlags u worths xs → SameFlags worths w xs → SameFlags u w xs
        flags_both u worths w [] f trees = tt
        flags_both u worths w (x ∷ xs) f trees = (f.0 ∙ trees.0, flags_both u worths w xs f.1 trees.1)

  -- Flags stay.

  edit_flag : (o : Option DocumentBox) (root : DocumentBox) (worths : Worths) (box : BoxId) → (edit o (change root) worths box).reversed ≡ (worths box).reversed
  edit_flag None root worths box = refl
  edit_flag (Some x) root worths box = elim (cases_Bool (is_same_box x.id box)) [ inl e ↦ rw e (ap (λ other. (worths other).reversed) (box_eq x.id box e)) | inr e ↦ rw e refl ]

  pub begun_other : (outer : List DocumentBox) (latest : Option DocumentBox) (root : DocumentBox) (worths : Worths) (box : BoxId) → is_same_box root.id box ≡ false → begun outer latest root worths box ≡ worths box
  begun_other outer latest root worths box h = elim (cases_Bool (creates_here outer latest root)) [ inl e ↦ rw (e, h) refl | inr e ↦ rw e refl ]

  worth_flag : (outer : List DocumentBox) (latest : Option DocumentBox) (root : DocumentBox) (worths : Worths) (box : BoxId) → is_same_box root.id box ≡ false → (worth outer latest root worths box).reversed ≡ (worths box).reversed
  worth_flag outer latest root worths box h = edit_flag (last_or None (outer ++ listed (next outer latest root))) root (begun outer latest root worths) box ∙ ap (λ (w : Worth). w.reversed) (begun_other outer latest root worths box h)

  after_flag : (trees : Forest DocumentBox) (outer : List DocumentBox) (latest : Option DocumentBox) (worths : Worths) (box : BoxId) → times box trees ≡ 0 → (worth_after outer latest worths trees box).reversed ≡ (worths box).reversed
  after_flag Empty outer latest worths box h = refl
  after_flag (Tree root children after) outer latest worths box h =
      let parts = parts_none root children after box h in
      let w = worth outer latest root worths in
      after_flag after outer (next outer latest root) (worth_after (outer ++ listed (next outer latest root)) None w children) box parts.2
      ∙ after_flag children (outer ++ listed (next outer latest root)) None w box parts.1
      ∙ worth_flag outer latest root worths box parts.0

  -- Forests.

  module _ (root : DocumentBox) (children after : Forest DocumentBox) (outer : List DocumentBox) (latest : Option DocumentBox) (distinct : HasDistinctBoxes (Tree root children after)) (out : AreOut (Tree root children after) (outer ++ listed latest)) where
    abbrev Out : DocumentBox → Type 0
    Out x = times x.id (Tree root children after) ≡ 0

    pub new_here : is_in root.id outer ≡ false
    new_here = root_new root children after outer (each_front Out outer (listed latest) out)

    next_out : (trees : Forest DocumentBox) → times root.id trees ≡ 0 → AreOut trees (outer ++ listed latest) → AreOut trees (outer ++ listed (next outer latest root))
    next_out trees once h = elim (cases_Bool (creates_here outer latest root)) [
      | inl e ↦ rw e (each_append (λ (x : DocumentBox). times x.id trees ≡ 0) outer (root ∷ []) (each_front (λ (x : DocumentBox). times x.id trees ≡ 0) outer (listed latest) h) (once, tt))
      | inr e ↦ rw e h
    ]

    pub next_out_below : AreOut children (outer ++ listed (next outer latest root))
    next_out_below = next_out children (root_once root children after distinct).0 (out_below root children after (outer ++ listed latest) out)

    pub out_children : AreOut children ((outer ++ listed (next outer latest root)) ++ [])
    out_children = rw append-nil next_out_below

    pub out_after : AreOut after (outer ++ listed (next outer latest root))
    out_after = next_out after (root_once root children after distinct).1 (out_beside root children after (outer ++ listed latest) out)

    module _ (worths : Worths) where
      abbrev inner : Worths
      inner = worth_after (outer ++ listed (next outer latest root)) None (worth outer latest root worths) children

      pub flags_parent : SameFlags worths inner outer
      flags_parent =
          each_imp Out (λ (x : DocumentBox). (worths x.id).reversed ≡ (inner x.id).reversed)
          (λ x h. let parts = parts_none root children after x.id h in sym (after_flag children (outer ++ listed (next outer latest root)) None (worth outer latest root worths) x.id parts.1 ∙ worth_flag outer latest root worths x.id parts.0))
          outer (each_front Out outer (listed latest) out)

      pub flags_sibling : SameFlags (worth outer latest root worths) inner (listed (next outer latest root))
      flags_sibling =
          each_imp (λ (x : DocumentBox). times x.id children ≡ 0) (λ (x : DocumentBox). (worth outer latest root worths x.id).reversed ≡ (inner x.id).reversed)
          (λ x h. sym (after_flag children (outer ++ listed (next outer latest root)) None (worth outer latest root worths) x.id h))
          (listed (next outer latest root)) (each_back (λ (x : DocumentBox). times x.id children ≡ 0) outer (listed (next outer latest root)) next_out_below)

-- The sets of boxes in tree order, and the set with which trees are left.

abbrev pub own_set : List Counter → Option (List Counter) → Option (List Counter) → DocumentBox → List Counter
own_set parent sibling preceding root = box_set parent root (inherited parent sibling preceding)

abbrev pub exit_of : List Counter → Option (List Counter) → Option (List Counter) → Forest DocumentBox → Option (List Counter)
exit_of parent sibling preceding Empty = preceding
exit_of parent sibling preceding (Tree root children after) =
    let own = own_set parent sibling preceding root in
    exit_of parent (Some own) (exit_of own None (Some own) children) after

abbrev pub sets : List Counter → Option (List Counter) → Option (List Counter) → Forest DocumentBox → List (DocumentBox × List Counter)
sets parent sibling preceding Empty = []
sets parent sibling preceding (Tree root children after) =
    let own = own_set parent sibling preceding root in
    (root, own) ∷ (sets own None (Some own) children ++ sets parent (Some own) (exit_of own None (Some own) children) after)

-- a box with its counters of a name
abbrev pub by_name : List ℕ → DocumentBox × List Counter → DocumentBox × List Counter
by_name name pair = (pair.0, only name pair.1)

module _ (name : List ℕ) where
  pub exit_some : (parent own : List Counter) (trees : Forest DocumentBox) (sibling : Option (List Counter)) → (exit : List Counter) × (exit_of parent sibling (Some own) trees ≡ Some exit)
  exit_some parent own Empty sibling = (own, refl)
  exit_some parent own (Tree root children after) sibling =
      let set = own_set parent sibling (Some own) root in
      let below = exit_some set set children None in
      let rest = exit_some parent below.0 after (Some set) in
      (rest.0, ap (λ exit. exit_of parent (Some set) exit after) below.1 ∙ rest.1)

  -- the last box of trees knows the values of the parent's counters
  exit_knows : (trees : Forest DocumentBox) (parent : List Counter) (sibling preceding : Option (List Counter)) (outer : List DocumentBox) (latest : Option DocumentBox) (worths : Worths) → Carries name parent sibling preceding outer latest worths → HasDistinctBoxes trees → AreOut trees (outer ++ listed latest)
      → Knows name (only name (unwrap_or (exit_of parent sibling preceding trees) [])) (worth_after name outer latest worths trees) outer
  exit_knows Empty parent sibling preceding outer latest worths carries distinct out = each_front (λ (x : DocumentBox). (o : ℤ) → value_in name (only name (unwrap_or preceding [])) x.id o ≡ (worths x.id).value) outer (listed latest) carries.known
  exit_knows (Tree root children after) parent sibling preceding outer latest worths carries distinct out =
      let new = new_here name root children after outer latest distinct out in
      let xs = outer ++ listed (next name outer latest root) in
      let own = own_of name parent sibling preceding outer latest worths carries root new in
      let w = worth_after name xs None (worth name outer latest root worths) children in
      let below = carries_below name parent sibling preceding outer latest worths carries root new in
      let left = exit_some own own children None in
      let knows : Knows name (only name left.0) w xs =
      subst (λ exit. Knows name (only name (unwrap_or exit [])) w xs) left.1
      (exit_knows children own None (Some own) xs None (worth name outer latest root worths) below (below_once root children after distinct) (out_children name root children after outer latest distinct out)) in
      let onward = carries_beside name parent sibling preceding outer latest worths carries root new left.0 w (flags_parent name root children after outer latest distinct out worths) (flags_sibling name root children after outer latest distinct out worths) knows in
      subst (λ exit. Knows name (only name (unwrap_or (exit_of parent (Some own) exit after) [])) (worth_after name outer (next name outer latest root) w after) outer) (sym left.1)
      (exit_knows after parent (Some own) (Some left.0) outer (next name outer latest root) w onward (beside_once root children after distinct) (out_after name root children after outer latest distinct out))

  -- every set is the one told
  pub told_is : (trees : Forest DocumentBox) (parent : List Counter) (sibling preceding : Option (List Counter)) (outer : List DocumentBox) (latest : Option DocumentBox) (worths : Worths) → Carries name parent sibling preceding outer latest worths → HasDistinctBoxes trees → AreOut trees (outer ++ listed latest)
      → map (by_name name) (sets parent sibling preceding trees) ≡ told name outer latest worths trees
  told_is Empty parent sibling preceding outer latest worths carries distinct out = refl
  told_is (Tree root children after) parent sibling preceding outer latest worths carries distinct out =
      let new = new_here name root children after outer latest distinct out in
      let xs = outer ++ listed (next name outer latest root) in
      let own = own_of name parent sibling preceding outer latest worths carries root new in
      let w = worth_after name xs None (worth name outer latest root worths) children in
      let below = carries_below name parent sibling preceding outer latest worths carries root new in
      let left = exit_some own own children None in
      let inner_out = out_children name root children after outer latest distinct out in
      let knows : Knows name (only name left.0) w xs =
      subst (λ exit. Knows name (only name (unwrap_or exit [])) w xs) left.1 (exit_knows children own None (Some own) xs None (worth name outer latest root worths) below (below_once root children after distinct) inner_out) in
      let onward = carries_beside name parent sibling preceding outer latest worths carries root new left.0 w (flags_parent name root children after outer latest distinct out worths) (flags_sibling name root children after outer latest distinct out worths) knows in
      map-append (by_name name) ((root, own) ∷ sets own None (Some own) children) (sets parent (Some own) (exit_of own None (Some own) children) after)
      ∙ ap (λ exit. map (by_name name) ((root, own) ∷ sets own None (Some own) children) ++ map (by_name name) (sets parent (Some own) exit after)) left.1
      ∙ ap (λ all. map (by_name name) ((root, own) ∷ sets own None (Some own) children) ++ all) (told_is after parent (Some own) (Some left.0) outer (next name outer latest root) w onward (beside_once root children after distinct) (out_after name root children after outer latest distinct out))
      ∙ ap (λ all. ((root, only name own) ∷ all) ++ told name outer (next name outer latest root) w after) (told_is children own None (Some own) xs None (worth name outer latest root worths) below (below_once root children after distinct) inner_out)
      ∙ ap (λ named. (root, named) ∷ (told name xs None (worth name outer latest root worths) children ++ told name outer (next name outer latest root) w after)) (own_is name parent sibling preceding outer latest worths carries root new)

  -- the sets of a whole document
  pub told_root : (trees : Forest DocumentBox) (worths : Worths) → HasDistinctBoxes trees → map (by_name name) (sets [] None None trees) ≡ told name [] None worths trees
  told_root trees worths distinct =
      told_is trees [] None None [] None worths (record { before = worths; beside = worths; parents = refl; siblings = refl; flags = tt; flags_beside = tt; known = tt; once = tt; apart = refl }) distinct tt
