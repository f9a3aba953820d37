-- Entries of counter properties, seen by one name.
use Rattle.std.proofs.Common.{◌≡◌, ◌++◌, ◌∷◌, ◌||◌, ◌&&◌, ℕ, ℤ, pos, negsuc, List, [], Bool, true, false, cond, not, Option, Some, None, map, refl, sym, ap, subst, ◌∙◌, inl, inr}
use Rattle.std.proofs.lemmas.Bool.{cases_Bool}
use Rattle.std.proofs.lemmas.List.Folds.{find-append}
use Rattle.std.specs.Cmp.Lexicographic.{nat_list_eq_equiv}
use Rattle.std.specs.Prelude.{filter, find, is_some}
use Rattle.std.specs.List.{fold, last_or, list_any}
use Rattle.std.specs.Option.{option_map, option_map_or, option_or}
use Rattle.std.specs.Str.{bytes_eq}
use Rattle.css_definitions.specs.CounterStyles.{distinct}
use Rattle.plain_types.specs.declared.counter.Counter.{Counter}
use Rattle.plain_types.specs.declared.style.CounterOp.{CounterOp}
use Rattle.counter_sets.specs.Sets.{innermost}
use Rattle.box_eval.specs.Properties.{has_implicit_step, implicit_op, implicit_step, increments_of, is_for, last_of_each, list_item, merged, names, sum_for}
use Rattle.counter_scopes.proofs.NameLemmas.{name_eq, only, innermost_is}

or_parts : (a b : Bool) → (a || b) ≡ false → (a ≡ false) × (b ≡ false)
or_parts true b h = absurd (cc)
or_parts false b h = (refl, h)

-- At most one entry passes a test.
module _ {A : Type 0} (test : A → Bool) where
  abbrev pub Once : List A → Type 0
  Once [] = Unit {0}
  Once (x ∷ xs) = (test x ≡ true → list_any test xs ≡ false) × Once xs

  pub none_found : (xs : List A) → list_any test xs ≡ false → find test xs ≡ None
  none_found [] h = refl
  none_found (x ∷ xs) h = let parts = or_parts (test x) (list_any test xs) h in rw (parts.0, none_found xs parts.1) refl

  pub filter_none : (keep : A → Bool) (xs : List A) → list_any test xs ≡ false → list_any test (filter keep xs) ≡ false
  filter_none keep [] h = refl
  filter_none keep (x ∷ xs) h =
      let parts = or_parts (test x) (list_any test xs) h in
      elim (cases_Bool (keep x)) [ inl e ↦ rw (e, parts.0) (filter_none keep xs parts.1) | inr e ↦ rw e (filter_none keep xs parts.1) ]

  pub once_filter : (keep : A → Bool) (xs : List A) → Once xs → Once (filter keep xs)
  once_filter keep [] h = tt
  once_filter keep (x ∷ xs) h = elim (cases_Bool (keep x)) [
    | inl e ↦ rw e ((λ t. filter_none keep xs (h.0 t)), once_filter keep xs h.1)
    | inr e ↦ rw e (once_filter keep xs h.1)
  ]

  -- what is left out does not pass
  pub find_filter : (keep : A → Bool) → ((x : A) → test x ≡ true → keep x ≡ true) → (xs : List A) → find test (filter keep xs) ≡ find test xs
  find_filter keep i [] = refl
  find_filter keep i (x ∷ xs) = elim (cases_Bool (keep x)) [
    | inl e ↦ rw e (ap (λ found. cond (test x) (Some x) found) (find_filter keep i xs))
    | inr e ↦ elim (cases_Bool (test x)) [ inl t ↦ absurd (let yes = i x t in cc) | inr t ↦ rw (e, t) (find_filter keep i xs) ]
  ]

  pub once_push : (xs : List A) (x : A) → Once xs → (test x ≡ true → list_any test xs ≡ false) → Once (xs ++ x ∷ [])
  once_push [] x h i = ((λ _. refl), tt)
  once_push (y ∷ xs) x h i =
      let push_none : (ys : List A) → list_any test ys ≡ false → test x ≡ false → list_any test (ys ++ x ∷ []) ≡ false = none_push x in (
        (λ t. elim (cases_Bool (test x)) [
          | inl e ↦ absurd (let parts = or_parts (test y) (list_any test xs) (i e) in cc)
          | inr e ↦ push_none xs (h.0 t) e
        ]),
        once_push xs x h.1 (λ e. (or_parts (test y) (list_any test xs) (i e)).1),
      )
    where
      none_push : (x : A) (ys : List A) → list_any test ys ≡ false → test x ≡ false → list_any test (ys ++ x ∷ []) ≡ false
      none_push x [] h e = rw e refl
      none_push x (y ∷ ys) h e = let parts = or_parts (test y) (list_any test ys) h in rw parts.0 (none_push x ys parts.1 e)

-- Steps for entries, of which one at most is of the name.
module _ {Entry : Type 0} (name_of : Entry → List ℕ) (name : List ℕ) where
  abbrev pub is_of : Entry → Bool
  is_of entry = bytes_eq (name_of entry) name

  last_none : (entries : List Entry) → list_any is_of entries ≡ false → list_any is_of (last_of_each name_of entries) ≡ false
  last_none [] h = refl
  last_none (entry ∷ later) h =
      let parts = or_parts (is_of entry) (list_any is_of later) h in
      elim (cases_Bool (list_any (λ other. bytes_eq (name_of other) (name_of entry)) later)) [
        | inl e ↦ rw e (last_none later parts.1)
        | inr e ↦ rw (e, parts.0) (last_none later parts.1)
      ]

  pub once_last : (entries : List Entry) → Once is_of (last_of_each name_of entries)
  once_last [] = tt
  once_last (entry ∷ later) = elim (cases_Bool (list_any (λ other. bytes_eq (name_of other) (name_of entry)) later)) [
    | inl e ↦ rw e (once_last later)
    | inr e ↦ rw e ((λ t. last_none later (subst (λ other. list_any (λ entry. bytes_eq (name_of entry) other) later ≡ false) (name_eq (name_of entry) name t) e)), once_last later)
  ]

  module _ (step : List Counter → Entry → List Counter) (act : Entry → List Counter → List Counter) (other : (set : List Counter) (entry : Entry) → is_of entry ≡ false → only name (step set entry) ≡ only name set) (same : (set : List Counter) (entry : Entry) → is_of entry ≡ true → only name (step set entry) ≡ act entry (only name set)) where
    fold_none : (entries : List Entry) (set : List Counter) → list_any is_of entries ≡ false → only name (fold step set entries) ≡ only name set
    fold_none [] set h = refl
    fold_none (entry ∷ entries) set h =
        let parts = or_parts (is_of entry) (list_any is_of entries) h in
        fold_none entries (step set entry) parts.1 ∙ other set entry parts.0

    pub fold_once : (entries : List Entry) (set : List Counter) → Once is_of entries → only name (fold step set entries) ≡ option_map_or (λ entry. act entry (only name set)) (find is_of entries) (only name set)
    fold_once [] set h = refl
    fold_once (entry ∷ entries) set h = elim (cases_Bool (is_of entry)) [
      | inl e ↦ rw e (fold_none entries (step set entry) (h.0 e) ∙ same set entry e)
      | inr e ↦ rw e (fold_once entries (step set entry) h.1 ∙ ap (λ all. option_map_or (λ entry. act entry all) (find is_of entries) all) (other set entry e))
    ]

-- The increments of a box.
module _ (name : List ℕ) where
  abbrev pub is_it : List ℕ → Bool
  is_it other = bytes_eq other name

  rest_none : (first : List ℕ) (others : List (List ℕ)) → is_it first ≡ true → list_any is_it (filter (λ other. not (bytes_eq first other)) others) ≡ false
  rest_none first [] e = refl
  rest_none first (other ∷ others) e = elim (cases_Bool (bytes_eq first other)) [
    | inl t ↦ rw t (rest_none first others e)
    | inr t ↦
        let apart : is_it other ≡ false = ap (bytes_eq other) (sym (name_eq first name e)) ∙ nat_list_eq_equiv.symm other first ∙ t in
        rw (t, apart) (rest_none first others e)
  ]

  pub once_distinct : (all : List (List ℕ)) → Once is_it (distinct all)
  once_distinct [] = tt
  once_distinct (first ∷ later) = ((λ e. rest_none first (distinct later) e), once_filter is_it (λ other. not (bytes_eq first other)) (distinct later) (once_distinct later))

  pub find_distinct : (all : List (List ℕ)) → find is_it (distinct all) ≡ cond (list_any is_it all) (Some name) None
  find_distinct [] = refl
  find_distinct (first ∷ later) = elim (cases_Bool (is_it first)) [
    | inl e ↦ rw e (ap Some (name_eq first name e))
    | inr e ↦
        rw e (find_filter is_it (λ other. not (bytes_eq first other))
        (λ other t. ap (λ same. not (bytes_eq first same)) (name_eq other name t) ∙ ap not e) (distinct later)
        ∙ find_distinct later)
  ]

  pub any_names : (ops : List CounterOp) → list_any is_it (names ops) ≡ list_any (is_for name) ops
  any_names [] = refl
  any_names (op ∷ ops) = ap (λ b. bytes_eq op.name name || b) (any_names ops)

  module _ (whole : List ℕ → CounterOp) (named : (other : List ℕ) → (whole other).name ≡ other) where
    any_map : (all : List (List ℕ)) → list_any (is_for name) (map whole all) ≡ list_any is_it all
    any_map [] = refl
    any_map (first ∷ later) = ap (λ other. bytes_eq other name || list_any (is_for name) (map whole later)) (named first) ∙ ap (λ b. is_it first || b) (any_map later)

    once_map : (all : List (List ℕ)) → Once is_it all → Once (is_for name) (map whole all)
    once_map [] h = tt
    once_map (first ∷ later) h = ((λ e. any_map later ∙ h.0 (ap is_it (sym (named first)) ∙ e)), once_map later h.1)

    find_map : (all : List (List ℕ)) → find (is_for name) (map whole all) ≡ option_map whole (find is_it all)
    find_map [] = refl
    find_map (first ∷ later) = elim (cases_Bool (is_it first)) [
      | inl e ↦ let here : is_for name (whole first) ≡ true = ap is_it (named first) ∙ e in rw (here, e) refl
      | inr e ↦ let here : is_for name (whole first) ≡ false = ap is_it (named first) ∙ e in rw (here, e) (find_map later)
    ]

any_find : {A : Type 0} (test : A → Bool) (xs : List A) → list_any test xs ≡ is_some (find test xs)
any_find test [] = refl
any_find test (x ∷ xs) = elim (cases_Bool (test x)) [ inl e ↦ rw e refl | inr e ↦ rw e (any_find test xs) ]

-- whether the innermost of these counters is reversed
abbrev pub is_last_reversed : List Counter → Bool
is_last_reversed named = option_map_or (λ (counter : Counter). counter.reversed) (last_or None named) false

abbrev pub step_where : Bool → ℤ
step_where reversed = cond reversed (negsuc 0) (pos 1)

module _ (name : List ℕ) (is_item : Bool) (increments : List CounterOp) (set : List Counter) where
  abbrev whole : List ℕ → CounterOp
  whole other = record { name = other; value = sum_for other increments }

  abbrev pub op_by : ℤ → CounterOp
  op_by by = record { name = name; value = by }

  -- what the box adds, whose innermost counter of the name is reversed or not
  abbrev pub added : Bool → Option ℤ
  added reversed =
      cond (list_any (is_for name) increments) (Some (sum_for name increments)) (cond (has_implicit_step is_item increments && bytes_eq list_item name) (Some (step_where reversed)) None)

  merged_found : find (is_for name) (merged increments) ≡ cond (list_any (is_for name) increments) (Some (whole name)) None
  merged_found =
      find_map name whole (λ other. refl) (distinct (names increments))
      ∙ ap (option_map whole) (find_distinct name (names increments) ∙ ap (λ b. cond b (Some name) None) (any_names name increments))
      ∙ either (list_any (is_for name) increments)
    where
      either : (b : Bool) → option_map whole (cond b (Some name) None) ≡ cond b (Some (whole name)) None
      either true = refl
      either false = refl

  merged_once : Once (is_for name) (merged increments)
  merged_once = once_map name whole (λ other. refl) (distinct (names increments)) (once_distinct name (names increments))

  merged_none : list_any (is_for name) increments ≡ false → list_any (is_for name) (merged increments) ≡ false
  merged_none h = any_find (is_for name) (merged increments) ∙ ap is_some merged_found ∙ ap (λ b. is_some (cond b (Some (whole name)) None)) h

  pub not_named : has_implicit_step is_item increments ≡ true → bytes_eq list_item name ≡ true → list_any (is_for name) increments ≡ false
  not_named h e = lacking is_item (list_any (is_for name) increments) (subst (λ other. (is_item && not (list_any (is_for other) increments)) ≡ true) (name_eq list_item name e) h)
    where
      lacking : (a b : Bool) → (a && not b) ≡ true → b ≡ false
      lacking true true h = sym h
      lacking true false h = refl
      lacking false b h = absurd (cc)

  pub increments_once : Once (is_for name) (increments_of is_item increments set)
  increments_once = elim (cases_Bool (has_implicit_step is_item increments)) [
    | inl h ↦ rw h (once_push (is_for name) (merged increments) (implicit_op set) merged_once (λ e. merged_none (not_named h e)))
    | inr h ↦ rw h merged_once
  ]

  implicit_is : bytes_eq list_item name ≡ true → implicit_step set ≡ step_where (is_last_reversed (only name set))
  implicit_is e =
      ap (λ other. option_map_or (λ (counter : Counter). step_where counter.reversed) (innermost set other) (pos 1)) (name_eq list_item name e)
      ∙ ap (λ found. option_map_or (λ (counter : Counter). step_where counter.reversed) found (pos 1)) (innermost_is name set)
      ∙ by_found (last_or None (only name set))
    where
      by_found : (found : Option Counter) → option_map_or (λ (counter : Counter). step_where counter.reversed) found (pos 1) ≡ step_where (option_map_or (λ (counter : Counter). counter.reversed) found false)
      by_found None = refl
      by_found (Some counter) = refl

  -- the entry that it adds
  entry_is : (op : CounterOp) (by : ℤ) → bytes_eq op.name name ≡ true → op.value ≡ by → op ≡ op_by by
  entry_is op by e v =
      let make : List ℕ → ℤ → CounterOp = λ other value. record { name = other; value = value } in
      ap (λ other. make other op.value) (name_eq op.name name e) ∙ ap (make name) v

  pub increments_found : find (is_for name) (increments_of is_item increments set) ≡ option_map op_by (added (is_last_reversed (only name set)))
  increments_found = elim (cases_Bool (has_implicit_step is_item increments)) [
    | inl h ↦
        rw h (find-append (is_for name) (merged increments) (implicit_op set ∷ []) ∙ ap (λ found. option_or found (find (is_for name) (implicit_op set ∷ []))) merged_found
        ∙ elim (cases_Bool (list_any (is_for name) increments)) [
          | inl e ↦ rw e refl
          | inr e ↦ rw e (elim (cases_Bool (bytes_eq list_item name)) [ inl t ↦ rw t (ap Some (entry_is (implicit_op set) _ t (implicit_is t))) | inr t ↦ rw t refl ])
        ])
    | inr h ↦ rw h (merged_found ∙ elim (cases_Bool (list_any (is_for name) increments)) [ inl e ↦ rw e refl | inr e ↦ rw e refl ])
  ]
