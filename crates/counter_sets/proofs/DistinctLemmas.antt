-- Sets keep their counters distinct.
use Rattle.std.proofs.Common.{◌≡◌, ◌∷◌, ◌++◌, ◌&&◌, ◌||◌, ◌==◌, ℕ, zero, suc, ℤ, List, [], Bool, true, false, cond, not, Option, Some, None, map, remove, refl, sym, subst, ap, ◌∙◌, arith, inl, inr, true≢false}
use Rattle.std.specs.Prelude.{filter, find}
use Rattle.std.specs.Cmp.Lexicographic.{nat_list_eq_equiv}
use Rattle.std.specs.List.{list_any}
use Rattle.std.specs.Option.{option_map_or}
use Rattle.std.proofs.lemmas.Bool.{cases_Bool}
use Rattle.std.proofs.lemmas.Bool.Decides.{nat_tests}
use Rattle.std.proofs.lemmas.List.Folds.{list_any-append}
use Rattle.plain_types.specs.declared.box_id.BoxId.{BoxId}
use Rattle.plain_types.specs.declared.box_kind.BoxKind.{BoxKind}
use Rattle.plain_types.specs.declared.box_kind.BoxKind.TheVariants.{Element, Marker, Before, After}
use Rattle.plain_types.specs.declared.counter.Counter.{Counter}
use Rattle.counter_sets.specs.Sets.{AreDistinct, change_at, innermost_place, instantiated, is_missing_in, is_named, is_same, is_same_box, is_same_kind, last_place, replaced_place, valued_in, with_value}

-- Truth values.

or_left : (a b : Bool) → (a || b) ≡ false → a ≡ false
or_left false b h = refl
or_left true b h = h

or_right : (a b : Bool) → (a || b) ≡ false → b ≡ false
or_right false b h = h
or_right true b h = absurd (true≢false h)

both_false : (a b : Bool) → a ≡ false → b ≡ false → (a || b) ≡ false
both_false a b g h = rw (g, h) refl

pub lacking : (b : Bool) → not b ≡ true → b ≡ false
lacking true h = sym h
lacking false h = refl

-- Which counters are the same.

kind_symm : (a b : BoxKind) → is_same_kind a b ≡ is_same_kind b a
kind_symm Element Element = refl
kind_symm Element Marker = refl
kind_symm Element Before = refl
kind_symm Element After = refl
kind_symm Marker Element = refl
kind_symm Marker Marker = refl
kind_symm Marker Before = refl
kind_symm Marker After = refl
kind_symm Before Element = refl
kind_symm Before Marker = refl
kind_symm Before Before = refl
kind_symm Before After = refl
kind_symm After Element = refl
kind_symm After Marker = refl
kind_symm After Before = refl
kind_symm After After = refl

number_symm : (a b : ℕ) → (a == b) ≡ (b == a)
number_symm a b = grind (arith, nat_tests)

pub box_symm : (a b : BoxId) → is_same_box a b ≡ is_same_box b a
box_symm a b = ap (λ t. t && is_same_kind a.kind b.kind) (number_symm a.key b.key) ∙ ap (λ t. (b.key == a.key) && t) (kind_symm a.kind b.kind)

pub same_symm : (a b : Counter) → is_same a b ≡ is_same b a
same_symm a b =
    ap (λ t. t && is_same_box a.creator b.creator) (nat_list_eq_equiv.symm a.name b.name)
    ∙ ap (λ t. is_named b.name a && t) (box_symm a.creator b.creator)

same_alone : (a b : Counter) → is_same a b ≡ false → list_any (is_same b) (a ∷ []) ≡ false
same_alone a b h = both_false (is_same b a) false (same_symm b a ∙ h) refl

-- One more counter.

pub distinct_push : (set : List Counter) (counter : Counter) → AreDistinct set → is_missing_in set counter ≡ true → AreDistinct (set ++ counter ∷ [])
distinct_push [] counter h m = (refl, tt)
distinct_push (c ∷ set) counter h m =
    let lacks = lacking (list_any (is_same counter) (c ∷ set)) m in
    let apart = or_left (is_same counter c) (list_any (is_same counter) set) lacks in
    let rest = or_right (is_same counter c) (list_any (is_same counter) set) lacks in (
      ap not (list_any-append (is_same c) set (counter ∷ []) ∙ both_false (list_any (is_same c) set) (list_any (is_same c) (counter ∷ [])) (lacking (list_any (is_same c) set) h.0) (same_alone counter c apart)),
      distinct_push set counter h.1 (ap not rest),
    )

-- Counters of two sets.

abbrev pub AreLackedBy : List Counter → List Counter → Type 0
AreLackedBy set [] = Unit {0}
AreLackedBy set (c ∷ counters) = (list_any (is_same c) set ≡ false) × AreLackedBy set counters

pub lacked_rest : (c : Counter) (set counters : List Counter) → AreLackedBy (c ∷ set) counters → AreLackedBy set counters
lacked_rest c set [] h = tt
lacked_rest c set (d ∷ counters) h = (or_right (is_same d c) (list_any (is_same d) set) h.0, lacked_rest c set counters h.1)

pub lacked_first : (c : Counter) (set counters : List Counter) → AreLackedBy (c ∷ set) counters → list_any (is_same c) counters ≡ false
lacked_first c set [] h = refl
lacked_first c set (d ∷ counters) h =
    both_false (is_same c d) (list_any (is_same c) counters) (same_symm c d ∙ or_left (is_same d c) (list_any (is_same d) set) h.0) (lacked_first c set counters h.1)

distinct_append : (set counters : List Counter) → AreDistinct set → AreDistinct counters → AreLackedBy set counters → AreDistinct (set ++ counters)
distinct_append [] counters h k l = k
distinct_append (c ∷ set) counters h k l = (
  ap not (list_any-append (is_same c) set counters ∙ both_false (list_any (is_same c) set) (list_any (is_same c) counters) (lacking (list_any (is_same c) set) h.0) (lacked_first c set counters l)),
  distinct_append set counters h.1 k (lacked_rest c set counters l),
)

filter_lacks : (test : Counter → Bool) (c : Counter) (set : List Counter) → list_any (is_same c) set ≡ false → list_any (is_same c) (filter test set) ≡ false
filter_lacks test c [] h = refl
filter_lacks test c (d ∷ set) h =
    let rest = filter_lacks test c set (or_right (is_same c d) (list_any (is_same c) set) h) in
    elim (cases_Bool (test d)) [
      | inl e ↦ rw e (both_false (is_same c d) (list_any (is_same c) (filter test set)) (or_left (is_same c d) (list_any (is_same c) set) h) rest)
      | inr e ↦ rw e rest
    ]

filter_distinct : (test : Counter → Bool) (set : List Counter) → AreDistinct set → AreDistinct (filter test set)
filter_distinct test [] h = tt
filter_distinct test (c ∷ set) h = elim (cases_Bool (test c)) [
  | inl e ↦ rw e (ap not (filter_lacks test c set (lacking (list_any (is_same c) set) h.0)), filter_distinct test set h.1)
  | inr e ↦ rw e (filter_distinct test set h.1)
]

filter_lacked : (parent set : List Counter) → AreLackedBy parent (filter (is_missing_in parent) set)
filter_lacked parent [] = tt
filter_lacked parent (c ∷ set) = elim (cases_Bool (is_missing_in parent c)) [
  | inl e ↦ rw e (lacking (list_any (is_same c) parent) e, filter_lacked parent set)
  | inr e ↦ rw e (filter_lacked parent set)
]

-- Other values.

abbrev valued_by : Option Counter → Counter → Counter
valued_by found c = option_map_or (λ (same : Counter). record c { value = same.value }) found c

valued_left : (found : Option Counter) (c d : Counter) → is_same (valued_by found c) d ≡ is_same c d
valued_left None c d = refl
valued_left (Some same) c d = refl

valued_right : (found : Option Counter) (c d : Counter) → is_same c (valued_by found d) ≡ is_same c d
valued_right None c d = refl
valued_right (Some same) c d = refl

valued_lacks : (source : List Counter) (c : Counter) (set : List Counter) → list_any (is_same (valued_in source c)) (map (valued_in source) set) ≡ list_any (is_same c) set
valued_lacks source c [] = refl
valued_lacks source c (d ∷ set) =
    ap (λ t. t || list_any (is_same (valued_in source c)) (map (valued_in source) set))
    (valued_left (find (is_same c) source) c (valued_in source d) ∙ valued_right (find (is_same d) source) c d)
    ∙ ap (λ t. is_same c d || t) (valued_lacks source c set)

valued_distinct : (source set : List Counter) → AreDistinct set → AreDistinct (map (valued_in source) set)
valued_distinct source [] h = tt
valued_distinct source (c ∷ set) h = (ap not (valued_lacks source c set) ∙ h.0, valued_distinct source set h.1)

changed_lacks : (change : ℤ → ℤ) (c : Counter) (set : List Counter) (place : ℕ) → list_any (is_same c) (change_at (with_value change) set place) ≡ list_any (is_same c) set
changed_lacks change c [] place = refl
changed_lacks change c (d ∷ set) zero = refl
changed_lacks change c (d ∷ set) (suc place) = ap (λ t. is_same c d || t) (changed_lacks change c set place)

pub changed_distinct : (change : ℤ → ℤ) (set : List Counter) (place : ℕ) → AreDistinct set → AreDistinct (change_at (with_value change) set place)
changed_distinct change [] place h = tt
changed_distinct change (c ∷ set) zero h = (h.0, h.1)
changed_distinct change (c ∷ set) (suc place) h = (ap not (changed_lacks change c set place) ∙ h.0, changed_distinct change set place h.1)

-- Inheriting.

pub valued_from_two_distinct : (values parent others counters : List Counter) → AreDistinct parent → AreDistinct others → counters ≡ map (valued_in values) (parent ++ filter (is_missing_in parent) others) → AreDistinct counters
valued_from_two_distinct values parent others counters h k e =
    subst AreDistinct (sym e)
    (valued_distinct values (parent ++ filter (is_missing_in parent) others)
    (distinct_append parent (filter (is_missing_in parent) others) h (filter_distinct (is_missing_in parent) others k) (filter_lacked parent others)))

-- Instantiating.

removed_lacks : (c : Counter) (set : List Counter) (place : ℕ) → list_any (is_same c) set ≡ false → list_any (is_same c) (remove set place) ≡ false
removed_lacks c [] zero h = refl
removed_lacks c [] (suc place) h = refl
removed_lacks c (d ∷ set) zero h = or_right (is_same c d) (list_any (is_same c) set) h
removed_lacks c (d ∷ set) (suc place) h =
    both_false (is_same c d) (list_any (is_same c) (remove set place)) (or_left (is_same c d) (list_any (is_same c) set) h) (removed_lacks c set place (or_right (is_same c d) (list_any (is_same c) set) h))

removed_distinct : (set : List Counter) (place : ℕ) → AreDistinct set → AreDistinct (remove set place)
removed_distinct [] zero h = tt
removed_distinct [] (suc place) h = tt
removed_distinct (c ∷ set) zero h = h.1
removed_distinct (c ∷ set) (suc place) h = (ap not (removed_lacks c set place (lacking (list_any (is_same c) set) h.0)), removed_distinct set place h.1)

pub left_lacks : (c : Counter) (set : List Counter) (place : Option ℕ) → list_any (is_same c) set ≡ false → list_any (is_same c) (option_map_or (remove set) place set) ≡ false
left_lacks c set None h = h
left_lacks c set (Some place) h = removed_lacks c set place h

left_distinct : (set : List Counter) (place : Option ℕ) → AreDistinct set → AreDistinct (option_map_or (remove set) place set)
left_distinct set None h = h
left_distinct set (Some place) h = removed_distinct set place h

-- a new counter keeps the set distinct where the set has no counter that is the same
pub instantiated_distinct : (is_replaced : Counter → Bool) (set : List Counter) (counter : Counter) → AreDistinct set → is_missing_in set counter ≡ true → AreDistinct (instantiated is_replaced set counter)
instantiated_distinct is_replaced set counter h m =
    let place = replaced_place is_replaced set counter.name in
    distinct_push (option_map_or (remove set) place set) counter (left_distinct set place h)
    (ap not (left_lacks counter set place (lacking (list_any (is_same counter) set) m)))

-- a counter that a set lacks is lacked too after another one is instantiated
pub instantiated_lacks : (is_replaced : Counter → Bool) (set : List Counter) (counter other : Counter) → is_same other counter ≡ false → is_missing_in set other ≡ true → is_missing_in (instantiated is_replaced set counter) other ≡ true
instantiated_lacks is_replaced set counter other apart m =
    let place = replaced_place is_replaced set counter.name in
    let left = option_map_or (remove set) place set in
    ap not (list_any-append (is_same other) left (counter ∷ [])
    ∙ both_false (list_any (is_same other) left) (list_any (is_same other) (counter ∷ [])) (left_lacks other set place (lacking (list_any (is_same other) set) m))
    (both_false (is_same other counter) false apart refl))

-- A name without a counter.

none_before : (o : Option ℕ) (b : Bool) → option_map_or (λ place. Some (suc place)) o (cond b (Some 0) None) ≡ None → o ≡ None
none_before None b h = refl
none_before (Some place) b h = absurd (cc)

none_here : (o : Option ℕ) (b : Bool) → option_map_or (λ place. Some (suc place)) o (cond b (Some 0) None) ≡ None → b ≡ false
none_here o false h = refl
none_here None true h = absurd (cc)
none_here (Some place) true h = absurd (cc)

none_passes : {X : Type 0} (test : X → Bool) (xs : List X) → last_place test xs ≡ None → list_any test xs ≡ false
none_passes test [] h = refl
none_passes test (x ∷ xs) h = both_false (test x) (list_any test xs) (none_here (last_place test xs) (test x) h) (none_passes test xs (none_before (last_place test xs) (test x) h))

both_lack : {X : Type 0} (first second : X → Bool) (xs : List X) → list_any first xs ≡ false → list_any (λ x. first x && second x) xs ≡ false
both_lack first second [] h = refl
both_lack first second (x ∷ xs) h =
    both_false (first x && second x) (list_any (λ y. first y && second y) xs) (ap (λ t. t && second x) (or_left (first x) (list_any first xs) h)) (both_lack first second xs (or_right (first x) (list_any first xs) h))

-- where a name has no counter, a counter of this name is lacked
pub unnamed_missing : (set : List Counter) (counter : Counter) → innermost_place set counter.name ≡ None → is_missing_in set counter ≡ true
unnamed_missing set counter h = ap not (both_lack (is_named counter.name) (λ (d : Counter). is_same_box counter.creator d.creator) set (none_passes (is_named counter.name) set h))
