-- What stands at places of a list.
use Rattle.std.proofs.Common.{◌≡◌, ◌∙◌, ◌&&◌, ◌||◌, ℕ, zero, suc, ◌+◌, ◌-◌, ◌<◌, ◌≤◌, nat_eq, Bool, true, false, cond, List, [], ◌∷◌, ◌++◌, length, filter, get_or, take, Option, Some, None, slice_get, refl, sym, ap, subst, inl, inr, arith, true≢false}
use Rattle.std.specs.List.{filter_map, list_any, cons_option}
use Rattle.std.specs.List.Sorted.{IsStrictlyIncreasing}
use Rattle.std.specs.Option.{option_to_list}
use Rattle.std.proofs.lemmas.Bool.{cases_lt}
use Rattle.std.proofs.lemmas.Bool.Decides.{nat_tests}
use Rattle.std.proofs.lemmas.List.{length-take-le, take_more}
use Rattle.mini_cascade.specs.Machinery.Shelves.{passes_at}
use Rattle.mini_cascade.proofs.Members.{or_false}

and_true : (a : Bool) → (a && true) ≡ a
and_true true = refl
and_true false = refl

and_false : (a : Bool) → (a && false) ≡ false
and_false true = refl
and_false false = refl

-- places that are this or more, and rise
abbrev Rises : ℕ → List ℕ → Type 0
Rises least [] = Unit {0}
Rises least (place ∷ places) = (least ≤ place) × Rises (place + 1) places

rises : (least : ℕ) (place : ℕ) (places : List ℕ) → least ≤ place → IsStrictlyIncreasing (place ∷ places) → Rises least (place ∷ places)
rises least place [] up increasing = (up, tt)
rises least place (next ∷ places) up increasing =
    let above : place < next = increasing 0 (omega arith) in
    let tail : IsStrictlyIncreasing (next ∷ places) = λ k within.
    (let step : get_or (place ∷ next ∷ places) (suc k) 0 < get_or (place ∷ next ∷ places) (suc k + 1) 0 = increasing (suc k) (omega (arith, within)) in
    let behind_it : suc k + 1 ≡ suc (k + 1) = omega arith in
    subst (λ at. get_or (next ∷ places) k 0 < get_or (place ∷ next ∷ places) at 0) behind_it step) in
    (up, rises (place + 1) next places (omega (arith, above)) tail)

all_rise : (places : List ℕ) → IsStrictlyIncreasing places → Rises 0 places
all_rise [] increasing = tt
all_rise (place ∷ places) increasing = rises 0 place places (omega arith) increasing

-- a place below all is none of them
below : (place least : ℕ) (places : List ℕ) → place < least → Rises least places → list_any (nat_eq place) places ≡ false
below place least [] less up = refl
below place least (first ∷ places) less up =
    let apart : nat_eq place first ≡ false = grind (arith, nat_tests, less, up.0) in
    ap (λ b. b || list_any (nat_eq place) places) apart ∙ below place (first + 1) places (omega (arith, less, up.0)) up.1

from_0 : (place : ℕ) → place ≡ place - 0
from_0 place = omega arith

alike : {X : Type 0} (f g : ℕ → Option X) → ((n : ℕ) → f n ≡ g n) → (places : List ℕ) → filter_map f places ≡ filter_map g places
alike f g same [] = refl
alike f g same (place ∷ places) = ap (λ o. cons_option o (filter_map f places)) (same place) ∙ ap (cons_option (g place)) (alike f g same places)

pub cons_part : {X : Type 0} (part : Option X) (rest : List X) → cons_option part rest ≡ option_to_list part ++ rest
cons_part None rest = refl
cons_part (Some x) rest = refl

module _ {X : Type 0} where
  -- behind the first item the others stand at places that are one less
  behind : (least : ℕ) (first : X) (rest : List X) (from : ℕ) (places : List ℕ) → least < from → Rises from places
      → filter_map (λ place. slice_get (first ∷ rest) (place - least)) places ≡ filter_map (λ place. slice_get rest (place - (least + 1))) places
  behind least first rest from [] less up = refl
  behind least first rest from (place ∷ places) less up =
      let one : place - least ≡ suc (place - (least + 1)) = omega (arith, less, up.0) in
      ap (λ at. cons_option (slice_get (first ∷ rest) at) (filter_map (λ place. slice_get (first ∷ rest) (place - least)) places)) one
      ∙ ap (cons_option (slice_get rest (place - (least + 1)))) (behind least first rest (place + 1) places (omega (arith, less, up.0)) up.1)

module _ {X : Type 0} (test : X → Bool) where
  -- the items that pass stand at these places, which begin no earlier than this one
  abbrev Tell : ℕ → List X → List ℕ → Type 0
  Tell least items places = (place : ℕ) → least ≤ place → list_any (nat_eq place) places ≡ passes_at test items (place - least)

  later : (least : ℕ) (first : X) (rest : List X) (places : List ℕ) → Tell least (first ∷ rest) places → Tell (least + 1) rest places
  later least first rest places tell place up =
      tell place (omega (arith, up)) ∙ ap (passes_at test (first ∷ rest)) (let one : place - least ≡ suc (place - (least + 1)) = omega (arith, up) in one)

  here : (least : ℕ) (first : X) (rest : List X) (places : List ℕ) → Tell least (first ∷ rest) places → list_any (nat_eq least) places ≡ test first
  here least first rest places tell = tell least (omega arith) ∙ ap (passes_at test (first ∷ rest)) (let none : least - least ≡ 0 = omega arith in none)

  skipped : (least : ℕ) (first : X) (rest : List X) (places : List ℕ) → Rises (least + 1) places → Tell least (first ∷ rest) places
      → filter_map (λ place. slice_get rest (place - (least + 1))) places ≡ filter test rest → filter_map (λ place. slice_get (first ∷ rest) (place - least)) places ≡ filter test (first ∷ rest)
  skipped least first rest places up tell others =
      let fails : test first ≡ false = sym (here least first rest places tell) ∙ below least (least + 1) places (omega arith) up in
      behind least first rest (least + 1) places (omega arith) up ∙ others ∙ ap (λ b. cond b (first ∷ filter test rest) (filter test rest)) (sym fails)

  picked : (least : ℕ) (items : List X) (places : List ℕ) → Rises least places → Tell least items places
      → filter_map (λ place. slice_get items (place - least)) places ≡ filter test items
  picked least [] [] up tell = refl
  picked least [] (place ∷ places) up tell =
      let itself : nat_eq place place ≡ true = grind (arith, nat_tests) in
      absurd (true≢false (sym (ap (λ b. b || list_any (nat_eq place) places) itself) ∙ tell place up.0))
  picked least (first ∷ rest) [] up tell =
      skipped least first rest [] tt tell (picked (least + 1) rest [] tt (later least first rest [] tell))
  picked least (first ∷ rest) (place ∷ places) up tell = elim (cases_lt least place) [
    | inl less ↦
        let beyond : Rises (least + 1) (place ∷ places) = (omega (arith, less), up.1) in
        skipped least first rest (place ∷ places) beyond tell (picked (least + 1) rest (place ∷ places) beyond (later least first rest (place ∷ places) tell))
    | inr le ↦
        let same : place ≡ least = omega (arith, up.0, le) in
        let beyond : Rises (least + 1) places = subst (λ n. Rises (n + 1) places) same up.1 in
        let itself : nat_eq least place ≡ true = grind (arith, nat_tests, same) in
        let passes : test first ≡ true = sym (here least first rest (place ∷ places) tell) ∙ ap (λ b. b || list_any (nat_eq least) places) itself in
        let tells : Tell (least + 1) rest places = λ one more.
        (let apart : nat_eq one place ≡ false = grind (arith, nat_tests, same, more) in sym (ap (λ b. b || list_any (nat_eq one) places) apart) ∙ later least first rest (place ∷ places) tell one more) in
        let none : place - least ≡ 0 = omega (arith, le) in
        ap (λ at. cons_option (slice_get (first ∷ rest) at) (filter_map (λ one. slice_get (first ∷ rest) (one - least)) places)) none
        ∙ ap (λ xs. first ∷ xs) (behind least first rest (least + 1) places (omega arith) beyond ∙ picked (least + 1) rest places beyond tells)
        ∙ ap (λ b. cond b (first ∷ filter test rest) (filter test rest)) (sym passes)
  ]

  -- at places that rise and are those of the items that pass stand these items
  pub picked_all : (items : List X) (places : List ℕ) → IsStrictlyIncreasing places → ((place : ℕ) → list_any (nat_eq place) places ≡ passes_at test items place)
      → filter_map (slice_get items) places ≡ filter test items
  picked_all items places increasing tell =
      alike (slice_get items) (λ place. slice_get items (place - 0)) (λ place. ap (slice_get items) (from_0 place)) places
      ∙ picked 0 items places (all_rise places increasing) (λ place up. tell place ∙ ap (passes_at test items) (from_0 place))

  -- one item more
  pub passes_more : (items : List X) (item : X) (place : ℕ) → passes_at test (items ++ item ∷ []) place ≡ (passes_at test items place || (test item && nat_eq place (length items)))
  passes_more [] item zero = sym (and_true (test item))
  passes_more [] item (suc place) =
      let apart : nat_eq (suc place) 0 ≡ false = grind (arith, nat_tests) in
      sym (ap (λ b. test item && b) apart ∙ and_false (test item))
  passes_more (x ∷ items) item zero =
      let apart : nat_eq 0 (length (x ∷ items)) ≡ false = grind (arith, nat_tests) in
      sym (ap (λ b. test x || (test item && b)) apart ∙ ap (λ b. test x || b) (and_false (test item)) ∙ or_false (test x))
  passes_more (x ∷ items) item (suc place) =
      let same : nat_eq place (length items) ≡ nat_eq (suc place) (length (x ∷ items)) = grind (arith, nat_tests) in
      passes_more items item place ∙ ap (λ b. passes_at test items place || (test item && b)) same

  -- the first of them, and the one behind these
  pub passes_taken : (items : List X) (item : X) (taken : ℕ) (place : ℕ) → taken < length items → item ≡ get_or items taken item
      → passes_at test (take (taken + 1) items) place ≡ (passes_at test (take taken items) place || (test item && nat_eq place taken))
  passes_taken items item taken place within is =
      ap (λ xs. passes_at test xs place) (take_more items taken item within ∙ ap (λ one. take taken items ++ one ∷ []) (sym is))
      ∙ passes_more (take taken items) item place
      ∙ ap (λ n. passes_at test (take taken items) place || (test item && nat_eq place n)) (length-take-le taken items (omega (arith, within)))
