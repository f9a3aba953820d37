-- What many new counters leave of a set is what is left after one at a time.
use Rattle.std.proofs.Common.{◌≡◌, ◌+◌, ◌<◌, ◌∷◌, ◌++◌, ◌||◌, ◌&&◌, ℕ, suc, List, [], Bool, true, false, cond, not, Option, Some, None, add-one, drop, get_or, is_some, length, remove, refl, sym, ap, ◌∙◌, inl, inr, true≢false, append_assoc}
use Rattle.std.specs.Prelude.{slice_get}
use Rattle.std.specs.Cmp.Lexicographic.{nat_list_eq_equiv}
use Rattle.std.specs.List.{fold, list_any}
use Rattle.std.specs.Option.{option_and_then, option_map_or}
use Rattle.std.specs.Str.{bytes_eq}
use Rattle.std.proofs.lemmas.Bool.{cases_Bool}
use Rattle.std.proofs.lemmas.Slice.Eq.{bytes_eq-Decides}
use Rattle.std.proofs.lemmas.List.{drop_more}
use Rattle.std.proofs.lemmas.List.Folds.{list_any-append}
use Rattle.plain_types.specs.declared.counter.Counter.{Counter}
use Rattle.counter_sets.specs.ByNames.{is_at, value_of}
use Rattle.counter_sets.specs.Indexes.{HaveOwnNames, left_by}
use Rattle.counter_sets.specs.Sets.{innermost_place, instantiated, is_named, last_place, replaced_place}
use Rattle.counter_sets.proofs.LookupLemmas.{any_last, last_at}

-- Names.

named_alike : (one two : List ℕ) (set : List Counter) → bytes_eq one two ≡ true → list_any (is_named one) set ≡ list_any (is_named two) set
named_alike one two set e = ap (λ name. list_any (is_named name) set) ((bytes_eq-Decides one two).0 e)

-- where one name has no counter, a name that has one is another
apart : (one two : List ℕ) (set : List Counter) → list_any (is_named one) set ≡ true → list_any (is_named two) set ≡ false → bytes_eq one two ≡ false
apart one two set h k = elim (cases_Bool (bytes_eq one two)) [
  | inl e ↦ absurd (true≢false (sym h ∙ named_alike one two set e ∙ k))
  | inr e ↦ e
]

no_more : (b : Bool) → (b || false) ≡ b
no_more true = refl
no_more false = refl

last_fails : (a b : Bool) → (a && (b && false)) ≡ false
last_fails true true = refl
last_fails true false = refl
last_fails false b = refl

module _ (is_replaced : Counter → Bool) where
  -- what one new counter leaves

  abbrev left : List Counter → List ℕ → List Counter
  left set name = option_map_or (remove set) (replaced_place is_replaced set name) set

  left_later : (c : Counter) (set : List Counter) (name : List ℕ) (place : ℕ) (b : Bool)
      → option_map_or (remove (c ∷ set)) (cond b (Some (suc place)) None) (c ∷ set) ≡ c ∷ option_map_or (remove set) (cond b (Some place) None) set
  left_later c set name place true = refl
  left_later c set name place false = refl

  left_here : (c : Counter) (set : List Counter) (b : Bool)
      → option_map_or (remove (c ∷ set)) (cond (option_map_or is_replaced (option_and_then (slice_get (c ∷ set)) (cond b (Some 0) None)) false) (cond b (Some 0) None) None) (c ∷ set) ≡ cond (b && is_replaced c) set (c ∷ set)
  left_here c set false = refl
  left_here c set true = elim (cases_Bool (is_replaced c)) [
    | inl e ↦ rw e refl
    | inr e ↦ rw e refl
  ]

  left_by_place : (c : Counter) (set : List Counter) (name : List ℕ) (o : Option ℕ) → last_place (is_named name) set ≡ o → (any : Bool) → list_any (is_named name) set ≡ any
      → left (c ∷ set) name ≡ cond any (c ∷ left set name) (cond (is_named name c && is_replaced c) set (c ∷ set))
  left_by_place c set name (Some place) e true h = rw e (left_later c set name place (option_map_or is_replaced (slice_get set place) false))
  left_by_place c set name (Some place) e false h = absurd (true≢false (sym (ap is_found e) ∙ any_last (is_named name) set ∙ h))
    where
      is_found : Option ℕ → Bool
      is_found None = false
      is_found (Some place) = true
  left_by_place c set name None e true h = absurd (true≢false (sym h ∙ sym (any_last (is_named name) set) ∙ ap is_found e))
    where
      is_found : Option ℕ → Bool
      is_found None = false
      is_found (Some place) = true
  left_by_place c set name None e false h = rw e (left_here c set (is_named name c))

  left_step : (c : Counter) (set : List Counter) (name : List ℕ) → left (c ∷ set) name ≡ cond (list_any (is_named name) set) (c ∷ left set name) (cond (is_named name c && is_replaced c) set (c ∷ set))
  left_step c set name = left_by_place c set name (last_place (is_named name) set) refl (list_any (is_named name) set) refl

  -- another name keeps its counters
  left_named : (other name : List ℕ) (set : List Counter) → bytes_eq other name ≡ false → list_any (is_named other) (left set name) ≡ list_any (is_named other) set
  left_named other name [] h = refl
  left_named other name (c ∷ set) h = ap (list_any (is_named other)) (left_step c set name) ∙ elim (cases_Bool (list_any (is_named name) set)) [
    | inl e ↦ rw e (ap (λ b. is_named other c || b) (left_named other name set h))
    | inr e ↦ rw e (gone (is_named name c) refl (is_replaced c))
  ]
    where
      gone : (named : Bool) → is_named name c ≡ named → (replaced : Bool) → list_any (is_named other) (cond (named && replaced) set (c ∷ set)) ≡ (is_named other c || list_any (is_named other) set)
      gone false e replaced = refl
      gone true e false = refl
      gone true e true =
          let same : is_named other c ≡ false = ap (bytes_eq other) (sym ((bytes_eq-Decides name c.name).0 e)) ∙ h in
          rw same refl

  -- whether a counter goes
  abbrev pub goes : List Counter → Counter → List Counter → Bool
  goes new c set = list_any (is_named c.name) new && (not (list_any (is_named c.name) set) && is_replaced c)

  module _ (n : Counter) (new : List Counter) (unused : list_any (is_named n.name) new ≡ false) where
    -- a counter of a name that no new one has is left
    goes_past : (c : Counter) (set : List Counter) → goes new c (set ++ n ∷ []) ≡ goes new c set
    goes_past c set = elim (cases_Bool (list_any (is_named c.name) new)) [
      | inl e ↦
          let other : bytes_eq c.name n.name ≡ false = apart c.name n.name new e unused in
          let same : list_any (is_named c.name) (set ++ n ∷ []) ≡ list_any (is_named c.name) set =
          list_any-append (is_named c.name) set (n ∷ []) ∙ ap (λ b. list_any (is_named c.name) set || (b || false)) other ∙ no_more (list_any (is_named c.name) set) in
          ap (λ b. list_any (is_named c.name) new && (not b && is_replaced c)) same
      | inr e ↦ rw e refl
    ]

    left_past : (set : List Counter) → left_by is_replaced new (set ++ n ∷ []) ≡ left_by is_replaced new set ++ n ∷ []
    left_past [] = rw unused refl
    left_past (c ∷ set) =
        ap (λ b. cond b (left_by is_replaced new (set ++ n ∷ [])) (c ∷ left_by is_replaced new (set ++ n ∷ []))) (goes_past c set)
        ∙ elim (cases_Bool (goes new c set)) [
          | inl e ↦ rw e (left_past set)
          | inr e ↦ rw e (ap (λ counters. c ∷ counters) (left_past set))
        ]

    -- where the name has no counter, one new counter of it more changes nothing
    goes_alike : (c : Counter) (set : List Counter) → bytes_eq c.name n.name ≡ false → goes new c set ≡ goes (n ∷ new) c set
    goes_alike c set h = ap (λ b. (b || list_any (is_named c.name) new) && (not (list_any (is_named c.name) set) && is_replaced c)) (sym h)

    left_alike : (set : List Counter) → list_any (is_named n.name) set ≡ false → left_by is_replaced new set ≡ left_by is_replaced (n ∷ new) set
    left_alike [] h = refl
    left_alike (c ∷ set) h =
        let rest = left_alike set (or_false_right (is_named n.name c) (list_any (is_named n.name) set) h) in
        let other : bytes_eq c.name n.name ≡ false = nat_list_eq_equiv.symm c.name n.name ∙ or_false_left (is_named n.name c) (list_any (is_named n.name) set) h in
        ap (λ b. cond b (left_by is_replaced new set) (c ∷ left_by is_replaced new set)) (goes_alike c set other)
        ∙ ap (λ counters. cond (goes (n ∷ new) c set) counters (c ∷ counters)) rest
      where
        or_false_left : (a b : Bool) → (a || b) ≡ false → a ≡ false
        or_false_left false b h = refl
        or_false_left true b h = absurd (true≢false h)

        or_false_right : (a b : Bool) → (a || b) ≡ false → b ≡ false
        or_false_right false b h = h
        or_false_right true b h = absurd (true≢false h)

    -- a counter that one new counter keeps, of which there are later ones of the new one's name
    kept_before : (c : Counter) (set : List Counter) → list_any (is_named n.name) set ≡ true → goes new c (left set n.name) ≡ goes (n ∷ new) c set
    kept_before c set later = elim (cases_Bool (bytes_eq c.name n.name)) [
      | inl e ↦
          let none : list_any (is_named c.name) new ≡ false = named_alike c.name n.name new e ∙ unused in
          let some : list_any (is_named c.name) set ≡ true = named_alike c.name n.name set e ∙ later in
          rw (none, some, e) refl
      | inr e ↦
          ap (λ b. list_any (is_named c.name) new && (not b && is_replaced c)) (left_named c.name n.name set e)
          ∙ goes_alike c set e
    ]

    -- the last counter of the new one's name
    last_named : (c : Counter) (set : List Counter) → list_any (is_named n.name) set ≡ false → is_named n.name c ≡ true → (replaced : Bool) → is_replaced c ≡ replaced
        → left_by is_replaced new (cond replaced set (c ∷ set)) ≡ left_by is_replaced (n ∷ new) (c ∷ set)
    last_named c set none named replaced r =
        let same : bytes_eq c.name n.name ≡ true = nat_list_eq_equiv.symm c.name n.name ∙ named in
        let unnamed : list_any (is_named c.name) new ≡ false = named_alike c.name n.name new same ∙ unused in
        let lacking : list_any (is_named c.name) set ≡ false = named_alike c.name n.name set same ∙ none in
        by_replaced replaced r same unnamed lacking
      where
        by_replaced : (replaced : Bool) → is_replaced c ≡ replaced → bytes_eq c.name n.name ≡ true → list_any (is_named c.name) new ≡ false → list_any (is_named c.name) set ≡ false
            → left_by is_replaced new (cond replaced set (c ∷ set)) ≡ left_by is_replaced (n ∷ new) (c ∷ set)
        by_replaced true r same unnamed lacking = rw (same, lacking, r) (left_alike set none)
        by_replaced false r same unnamed lacking = rw (unnamed, same, lacking, r) (ap (λ counters. c ∷ counters) (left_alike set none))

    one_less : (set : List Counter) → left_by is_replaced new (left set n.name) ≡ left_by is_replaced (n ∷ new) set
    one_less [] = refl
    one_less (c ∷ set) = ap (left_by is_replaced new) (left_step c set n.name) ∙ elim (cases_Bool (list_any (is_named n.name) set)) [
      | inl e ↦
          rw e
          (ap (λ b. cond b (left_by is_replaced new (left set n.name)) (c ∷ left_by is_replaced new (left set n.name))) (kept_before c set e)
          ∙ ap (λ counters. cond (goes (n ∷ new) c set) counters (c ∷ counters)) (one_less set))
      | inr e ↦ rw e (elim (cases_Bool (is_named n.name c)) [
        | inl named ↦ rw named (last_named c set e named (is_replaced c) refl)
        | inr other ↦
            rw other
            (ap (λ b. cond b (left_by is_replaced new set) (c ∷ left_by is_replaced new set)) (goes_alike c set (nat_list_eq_equiv.symm c.name n.name ∙ other))
            ∙ ap (λ counters. cond (goes (n ∷ new) c set) counters (c ∷ counters)) (left_alike set e))
      ])
    ]

  pub instantiated_all : (new set : List Counter) → HaveOwnNames new → fold (instantiated is_replaced) set new ≡ left_by is_replaced new set ++ new
  instantiated_all [] set own = sym (all_left set)
    where
      all_left : (set : List Counter) → left_by is_replaced [] set ++ [] ≡ set
      all_left [] = refl
      all_left (c ∷ set) = ap (λ counters. c ∷ counters) (all_left set)
  instantiated_all (n ∷ new) set own =
      instantiated_all new (left set n.name ++ n ∷ []) own.1
      ∙ ap (λ counters. counters ++ new) (left_past n new own.0 (left set n.name) ∙ ap (λ counters. counters ++ n ∷ []) (one_less n new own.0 set))
      ∙ append_assoc (left_by is_replaced (n ∷ new) set) (n ∷ []) new

-- A counter at a place.

module _ (new set : List Counter) (place : ℕ) (counter : Counter) (below : place < length set) (read : counter ≡ get_or set place counter) where
  rest_at : drop place set ≡ counter ∷ drop (place + 1) set
  rest_at = drop_more set place counter below ∙ ap (λ c. c ∷ drop (place + 1) set) (sym read)

  -- whether it goes, by the places of the innermost counters
  pub goes_at : (named places : List (List ℕ × ℕ)) → ((name : List ℕ) → value_of named name ≡ innermost_place new name) → ((name : List ℕ) → value_of places name ≡ innermost_place set name) → (replaced : Bool)
      → (is_some (value_of named counter.name) && (is_at (value_of places counter.name) place && replaced)) ≡ (list_any (is_named counter.name) new && (not (list_any (is_named counter.name) (drop (place + 1) set)) && replaced))
  goes_at named places by_name by_place replaced =
      let own : is_named counter.name counter ≡ true = (bytes_eq-Decides counter.name counter.name).1 refl in
      let named_new : is_some (value_of named counter.name) ≡ list_any (is_named counter.name) new = ap is_some (by_name counter.name) ∙ any_last (is_named counter.name) new in
      let last : is_at (value_of places counter.name) place ≡ not (list_any (is_named counter.name) (drop (place + 1) set)) =
      ap (λ o. is_at o place) (by_place counter.name) ∙ last_at (is_named counter.name) set place counter below read own ∙ ap (λ n. not (list_any (is_named counter.name) (drop n set))) (sym (add-one place)) in
      ap (λ b. b && (is_at (value_of places counter.name) place && replaced)) named_new ∙ ap (λ b. list_any (is_named counter.name) new && (b && replaced)) last

  module _ (is_replaced : Counter → Bool) (left : List Counter) where
    step : left_by is_replaced new (drop place set) ≡ cond (goes is_replaced new counter (drop (place + 1) set)) (left_by is_replaced new (drop (place + 1) set)) (counter ∷ left_by is_replaced new (drop (place + 1) set))
    step = ap (left_by is_replaced new) rest_at

    pub left_out : goes is_replaced new counter (drop (place + 1) set) ≡ true → left ++ left_by is_replaced new (drop place set) ≡ left ++ left_by is_replaced new (drop (place + 1) set)
    left_out e = ap (λ rest. left ++ rest) (step ∙ ap (λ b. cond b (left_by is_replaced new (drop (place + 1) set)) (counter ∷ left_by is_replaced new (drop (place + 1) set))) e)

    pub left_kept : goes is_replaced new counter (drop (place + 1) set) ≡ false → left ++ left_by is_replaced new (drop place set) ≡ (left ++ counter ∷ []) ++ left_by is_replaced new (drop (place + 1) set)
    left_kept e =
        ap (λ rest. left ++ rest) (step ∙ ap (λ b. cond b (left_by is_replaced new (drop (place + 1) set)) (counter ∷ left_by is_replaced new (drop (place + 1) set))) e)
        ∙ sym (append_assoc left (counter ∷ []) (left_by is_replaced new (drop (place + 1) set)))
