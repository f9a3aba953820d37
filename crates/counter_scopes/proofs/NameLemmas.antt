-- Sets seen by one name: what is done to a set is done to its counters of the name.
use Rattle.std.proofs.Common.{◌≡◌, ◌++◌, ◌∷◌, ℕ, zero, suc, ℤ, pos, List, [], Bool, true, false, cond, Option, Some, None, remove, refl, sym, ap, ◌∙◌, inl, inr, append-nil}
use Rattle.std.proofs.lemmas.Bool.{cases_Bool}
use Rattle.std.proofs.lemmas.List.Elements.{filter-append}
use Rattle.std.proofs.lemmas.Slice.Eq.{bytes_eq-Decides}
use Rattle.std.specs.Cmp.Lexicographic.{nat_list_eq_equiv}
use Rattle.std.specs.Prelude.{filter, is_some, slice_get}
use Rattle.std.specs.List.{last_or}
use Rattle.std.specs.Option.{option_and_then, option_map_or}
use Rattle.std.specs.Str.{bytes_eq}
use Rattle.plain_types.specs.declared.box_id.BoxId.{BoxId}
use Rattle.plain_types.specs.declared.counter.Counter.{Counter}
use Rattle.counter_sets.specs.Sets.{change_at, innermost, innermost_place, instantiated, is_named, replaced_place, with_counter, with_innermost, with_value}

pub name_self : (name : List ℕ) → bytes_eq name name ≡ true
name_self name = (bytes_eq-Decides name name).1 refl

pub name_eq : (first second : List ℕ) → bytes_eq first second ≡ true → first ≡ second
name_eq first second h = (bytes_eq-Decides first second).0 h

-- The innermost of the counters of one name.

-- the last one changed
abbrev pub at_last : (Counter → Counter) → List Counter → List Counter
at_last change [] = []
at_last change (c ∷ []) = change c ∷ []
at_last change (c ∷ d ∷ cs) = c ∷ at_last change (d ∷ cs)

-- without the last one, where that is replaced
abbrev pub dropped : (Counter → Bool) → List Counter → List Counter
dropped is_replaced [] = []
dropped is_replaced (c ∷ []) = cond (is_replaced c) [] (c ∷ [])
dropped is_replaced (c ∷ d ∷ cs) = c ∷ dropped is_replaced (d ∷ cs)

-- with one more, where there is none
abbrev pub or_new : Counter → List Counter → List Counter
or_new new [] = new ∷ []
or_new new (c ∷ cs) = c ∷ cs

module _ (name : List ℕ) where
  abbrev pub only : List Counter → List Counter
  only set = filter (is_named name) set

  -- where a name has a place, it has counters, and else none
  abbrev Placed : Option ℕ → List Counter → Type 0
  Placed None named = named ≡ []
  Placed (Some place) named = (first : Counter) × (later : List Counter) × (named ≡ first ∷ later)

  placed_here : (named : Bool) (c : Counter) (place : Option ℕ) (rest : List Counter) → Placed place rest → Placed (option_map_or (λ place. Some (suc place)) place (cond named (Some 0) None)) (cond named (c ∷ rest) rest)
  placed_here true c None rest h = (c, rest, refl)
  placed_here false c None rest h = h
  placed_here true c (Some place) rest h = (c, rest, refl)
  placed_here false c (Some place) rest h = h

  placed : (set : List Counter) → Placed (innermost_place set name) (only set)
  placed [] = refl
  placed (c ∷ set) = placed_here (is_named name c) c (innermost_place set name) (only set) (placed set)

  -- a step that works on the last one of the name
  last_step : (named : Bool) (c : Counter) (place : Option ℕ) (rest : List Counter) → Placed place rest → (f : List Counter → List Counter) → ((d e : Counter) (cs : List Counter) → f (d ∷ e ∷ cs) ≡ d ∷ f (e ∷ cs)) → is_some place ≡ true → f (cond named (c ∷ rest) rest) ≡ cond named (c ∷ f rest) (f rest)
  last_step named c None rest h f deep e = absurd (cc)
  last_step true c (Some place) rest h f deep e = ap (λ all. f (c ∷ all)) h.2 ∙ deep c h.0 h.1 ∙ ap (λ all. c ∷ f all) (sym h.2)
  last_step false c (Some place) rest h f deep e = refl

  -- the innermost one
  found_here : (named : Bool) (c : Counter) (place : Option ℕ) (set rest : List Counter) → Placed place rest → option_and_then (slice_get set) place ≡ last_or None rest
      → option_and_then (slice_get (c ∷ set)) (option_map_or (λ place. Some (suc place)) place (cond named (Some 0) None)) ≡ last_or None (cond named (c ∷ rest) rest)
  found_here true c None set rest h e = sym (ap (λ all. last_or (Some c) all) h)
  found_here false c None set rest h e = sym (ap (λ all. last_or None all) h)
  found_here true c (Some place) set rest h e = e ∙ ap (λ all. last_or None all) h.2 ∙ sym (ap (λ all. last_or (Some c) all) h.2)
  found_here false c (Some place) set rest h e = e

  pub innermost_is : (set : List Counter) → innermost set name ≡ last_or None (only set)
  innermost_is [] = refl
  innermost_is (c ∷ set) = found_here (is_named name c) c (innermost_place set name) set (only set) (placed set) (innermost_is set)

  -- its value changed
  changed_here : (change : ℤ → ℤ) (named : Bool) (c : Counter) → is_named name c ≡ named → (place : Option ℕ) (set : List Counter) → Placed place (only set)
      → only (option_map_or (change_at (with_value change) set) place set) ≡ at_last (with_value change) (only set)
      → only (option_map_or (change_at (with_value change) (c ∷ set)) (option_map_or (λ place. Some (suc place)) place (cond named (Some 0) None)) (c ∷ set)) ≡ at_last (with_value change) (cond named (c ∷ only set) (only set))
  changed_here change true c is None set h e = rw is (ap (λ all. with_value change c ∷ all) h ∙ sym (ap (λ all. at_last (with_value change) (c ∷ all)) h))
  changed_here change false c is None set h e = rw is (h ∙ sym (ap (at_last (with_value change)) h))
  changed_here change true c is (Some place) set h e =
      rw is (ap (λ all. c ∷ all) e ∙ sym (last_step true c (Some place) (only set) h (at_last (with_value change)) (λ d e cs. refl) refl))
  changed_here change false c is (Some place) set h e = rw is e

  pub only_changed : (change : ℤ → ℤ) (set : List Counter) → only (with_innermost change set name) ≡ at_last (with_value change) (only set)
  only_changed change [] = refl
  only_changed change (c ∷ set) = changed_here change (is_named name c) c refl (innermost_place set name) set (placed set) (only_changed change set)

  -- it alone taken away, where it is replaced
  removed_here : (is_replaced : Counter → Bool) (named : Bool) (c : Counter) → is_named name c ≡ named → (place : Option ℕ) (set : List Counter) → Placed place (only set)
      → only (option_map_or (remove set) (cond (option_map_or is_replaced (option_and_then (slice_get set) place) false) place None) set) ≡ dropped is_replaced (only set)
      → (next : Option ℕ) → next ≡ option_map_or (λ place. Some (suc place)) place (cond named (Some 0) None)
      → only (option_map_or (remove (c ∷ set)) (cond (option_map_or is_replaced (option_and_then (slice_get (c ∷ set)) next) false) next None) (c ∷ set)) ≡ dropped is_replaced (cond named (c ∷ only set) (only set))
  removed_here is_replaced true c is None set h e next n =
      rw n (elim (cases_Bool (is_replaced c)) [
        | inl t ↦ rw t (h ∙ sym (ap (λ all. dropped is_replaced (c ∷ all)) h ∙ rw t refl))
        | inr t ↦ rw (t, is) (ap (λ all. c ∷ all) h ∙ sym (ap (λ all. dropped is_replaced (c ∷ all)) h ∙ rw t refl))
      ])
  removed_here is_replaced false c is None set h e next n = rw (n, is) (h ∙ sym (ap (dropped is_replaced) h))
  removed_here is_replaced named c is (Some place) set h e next n =
      let deep = last_step named c (Some place) (only set) h (dropped is_replaced) (λ d e cs. refl) refl in
      rw n (elim (cases_Bool (option_map_or is_replaced (slice_get set place) false)) [
        | inl t ↦
            let inner : only (remove set place) ≡ dropped is_replaced (only set) = rw t at e in
            rw (t, is) (ap (λ all. cond named (c ∷ all) all) inner ∙ sym deep)
        | inr t ↦
            let inner : only set ≡ dropped is_replaced (only set) = rw t at e in
            rw (t, is) (ap (λ all. cond named (c ∷ all) all) inner ∙ sym deep)
      ])

  pub only_removed : (is_replaced : Counter → Bool) (set : List Counter) → only (option_map_or (remove set) (replaced_place is_replaced set name) set) ≡ dropped is_replaced (only set)
  only_removed is_replaced [] = refl
  only_removed is_replaced (c ∷ set) =
      removed_here is_replaced (is_named name c) c refl (innermost_place set name) set (placed set) (only_removed is_replaced set) (innermost_place (c ∷ set) name) refl

  pub only_instantiated : (is_replaced : Counter → Bool) (set : List Counter) (new : Counter) → new.name ≡ name → only (instantiated is_replaced set new) ≡ dropped is_replaced (only set) ++ new ∷ []
  only_instantiated is_replaced set new is =
      ap (λ other. only (option_map_or (remove set) (replaced_place is_replaced set other) set ++ new ∷ [])) is
      ∙ filter-append (is_named name) (option_map_or (remove set) (replaced_place is_replaced set name) set) (new ∷ [])
      ∙ ap (λ all. all ++ only (new ∷ [])) (only_removed is_replaced set)
      ∙ ap (λ all. dropped is_replaced (only set) ++ all) (ap (λ other. cond (bytes_eq name other) (new ∷ []) []) is ∙ ap (λ b. cond b (new ∷ []) []) (name_self name))

  -- one created, where there is none
  none_new : (found : Option Counter) (set : List Counter) (is_replaced : Counter → Bool) (new : Counter) → found ≡ last_or None (only set) → new.name ≡ name → innermost set name ≡ found
      → only (cond (is_some found) set (instantiated is_replaced set new)) ≡ or_new new (only set)
  none_new found set is_replaced new e is f = elim (only set) as (λ all. only set ≡ all → found ≡ last_or None all → only (cond (is_some found) set (instantiated is_replaced set new)) ≡ or_new new all) [
    | [] ↦ λ none last. rw last (only_instantiated is_replaced set new is ∙ ap (λ all. dropped is_replaced all ++ new ∷ []) none)
    | first ∷ later ↦ λ some last. rw (last, some_last later first) some
  ] refl e
    where
      some_last : (later : List Counter) (first : Counter) → is_some (last_or (Some first) later) ≡ true
      some_last [] first = refl
      some_last (second ∷ later) first = some_last later second

  pub only_with_counter : (is_replaced : Counter → Bool) (box : BoxId) (set : List Counter) → only (with_counter is_replaced box set name) ≡ or_new (record { name = name; creator = box; reversed = false; value = pos 0 }) (only set)
  only_with_counter is_replaced box set = none_new (innermost set name) set is_replaced (record { name = name; creator = box; reversed = false; value = pos 0 }) (innermost_is set) refl refl

-- What is done to the counters of another name.
module _ (name other : List ℕ) (differs : bytes_eq other name ≡ false) where
  pub named_other : (c : Counter) → is_named other c ≡ true → is_named name c ≡ false
  named_other c e = ap (bytes_eq name) (sym (name_eq other c.name e)) ∙ nat_list_eq_equiv.symm name other ∙ differs

  kept_here : (named : Bool) (c : Counter) → is_named other c ≡ named → (place : Option ℕ) (set : List Counter) (f : List Counter → ℕ → List Counter)
      → ((place : ℕ) → f (c ∷ set) (suc place) ≡ c ∷ f set place) → (is_named name c ≡ false → only name (f (c ∷ set) zero) ≡ only name set)
      → only name (option_map_or (f set) place set) ≡ only name set
      → only name (option_map_or (f (c ∷ set)) (option_map_or (λ place. Some (suc place)) place (cond named (Some 0) None)) (c ∷ set)) ≡ only name (c ∷ set)
  kept_here true c is None set f deep first e = first (named_other c is) ∙ sym (ap (λ b. cond b (c ∷ only name set) (only name set)) (named_other c is))
  kept_here false c is None set f deep first e = refl
  kept_here named c is (Some place) set f deep first e = ap (only name) (deep place) ∙ ap (λ all. cond (is_named name c) (c ∷ all) all) e

  pub other_changed : (change : ℤ → ℤ) (set : List Counter) → only name (with_innermost change set other) ≡ only name set
  other_changed change [] = refl
  other_changed change (c ∷ set) =
      kept_here (is_named other c) c refl (innermost_place set other) set (change_at (with_value change)) (λ place. refl)
      (λ e. ap (λ b. cond b (with_value change c ∷ only name set) (only name set)) e) (other_changed change set)

  other_removed : (set : List Counter) → only name (option_map_or (remove set) (innermost_place set other) set) ≡ only name set
  other_removed [] = refl
  other_removed (c ∷ set) = kept_here (is_named other c) c refl (innermost_place set other) set remove (λ place. refl) (λ e. refl) (other_removed set)

  pub other_instantiated : (is_replaced : Counter → Bool) (set : List Counter) (new : Counter) → new.name ≡ other → only name (instantiated is_replaced set new) ≡ only name set
  other_instantiated is_replaced set new is =
      let test : List ℕ → Bool = λ named. option_map_or is_replaced (innermost set named) false in
      let left : only name (option_map_or (remove set) (replaced_place is_replaced set other) set) ≡ only name set =
      elim (cases_Bool (test other)) [ inl t ↦ rw t (other_removed set) | inr t ↦ rw t refl ] in
      let gone : only name (new ∷ []) ≡ [] = ap (λ b. cond b (new ∷ []) []) (ap (bytes_eq name) is ∙ nat_list_eq_equiv.symm name other ∙ differs) in
      ap (λ named. only name (option_map_or (remove set) (replaced_place is_replaced set named) set ++ new ∷ [])) is
      ∙ filter-append (is_named name) (option_map_or (remove set) (replaced_place is_replaced set other) set) (new ∷ [])
      ∙ ap (λ all. all ++ only name (new ∷ [])) left ∙ ap (λ all. only name set ++ all) gone ∙ append-nil (only name set)

  pub other_with_counter : (is_replaced : Counter → Bool) (box : BoxId) (set : List Counter) → only name (with_counter is_replaced box set other) ≡ only name set
  other_with_counter is_replaced box set =
      let new : Counter = record { name = other; creator = box; reversed = false; value = pos 0 } in
      elim (cases_Bool (is_some (innermost set other))) [ inl t ↦ rw t refl | inr t ↦ rw t (other_instantiated is_replaced set new refl) ]
