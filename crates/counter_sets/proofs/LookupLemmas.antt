-- Last places as look-ups keep them.
use Rattle.std.proofs.Common.{◌≡◌, ◌+◌, ◌<◌, ◌∷◌, ◌++◌, ◌||◌, ◌==◌, ℕ, zero, suc, ℤ, List, [], Bool, true, false, cond, not, Option, Some, None, length, take, drop, get_or, is_some, refl, sym, ap, ◌∙◌, arith}
use Rattle.std.specs.Prelude.{IfSome}
use Rattle.std.specs.List.{list_any}
use Rattle.std.specs.Option.{option_map_or}
use Rattle.std.specs.Str.{bytes_eq}
use Rattle.std.proofs.lemmas.Bool.Decides.{nat_tests}
use Rattle.std.proofs.lemmas.List.{length-take-le, take_more}
use Rattle.plain_types.specs.declared.counter.Counter.{Counter}
use Rattle.counter_sets.specs.ByNames.{is_at, value_of}
use Rattle.counter_sets.specs.Indexes.{HasPlaces}
use Rattle.counter_sets.specs.Sets.{change_at, innermost_place, is_named, last_place, with_value}
use Rattle.counter_sets.proofs.SetLemmas.{last_place-push, last_place_within}

-- In a list.

some_more : (o : Option ℕ) (b : Bool) → is_some (option_map_or (λ place. Some (suc place)) o (cond b (Some 0) None)) ≡ (b || is_some o)
some_more None true = refl
some_more None false = refl
some_more (Some place) true = refl
some_more (Some place) false = refl

first_at : (o : Option ℕ) → is_at (option_map_or (λ place. Some (suc place)) o (Some 0)) 0 ≡ not (is_some o)
first_at None = refl
first_at (Some place) = let e : (suc place == 0) ≡ false = grind (arith, nat_tests) in e

later_at : (o : Option ℕ) (b : Bool) (place : ℕ) → is_at (option_map_or (λ place. Some (suc place)) o (cond b (Some 0) None)) (suc place) ≡ is_at o place
later_at None true place = let e : (0 == suc place) ≡ false = grind (arith, nat_tests) in e
later_at None false place = refl
later_at (Some p) b place = let e : (suc p == suc place) ≡ (p == place) = grind (arith, nat_tests) in e

module _ {X : Type 0} (test : X → Bool) where
  -- there is a last place where an item passes
  pub any_last : (xs : List X) → is_some (last_place test xs) ≡ list_any test xs
  any_last [] = refl
  any_last (x ∷ xs) = some_more (last_place test xs) (test x) ∙ ap (λ b. test x || b) (any_last xs)

  -- the place of an item that passes is the last one where no later item does
  pub last_at : (xs : List X) (place : ℕ) (x : X) → place < length xs → x ≡ get_or xs place x → test x ≡ true → is_at (last_place test xs) place ≡ not (list_any test (drop (suc place) xs))
  last_at [] place x below read passes = absurd (omega (arith, below))
  last_at (y ∷ ys) zero x below read passes =
      let here : test y ≡ true = ap test (sym read) ∙ passes in
      rw here (first_at (last_place test ys)) ∙ ap not (any_last ys)
  last_at (y ∷ ys) (suc place) x below read passes = later_at (last_place test ys) (test y) place ∙ last_at ys place x (omega (arith, below)) read passes

  -- one more item
  pub last_place_more : (xs : List X) (i : ℕ) (x : X) → i < length xs → x ≡ get_or xs i x → last_place test (take (i + 1) xs) ≡ cond (test x) (Some i) (last_place test (take i xs))
  last_place_more xs i x below read =
      ap (last_place test) (take_more xs i x below ∙ ap (λ y. take i xs ++ y ∷ []) (sym read))
      ∙ last_place-push test (take i xs) x
      ∙ ap (λ n. cond (test x) (Some n) (last_place test (take i xs))) (length-take-le i xs (omega (arith, below)))

-- In a set.

-- another value moves no counter
changed_place : (name : List ℕ) (change : ℤ → ℤ) (set : List Counter) (place : ℕ) → innermost_place (change_at (with_value change) set place) name ≡ innermost_place set name
changed_place name change [] place = refl
changed_place name change (c ∷ set) zero = refl
changed_place name change (c ∷ set) (suc place) = ap (λ o. option_map_or (λ at. Some (suc at)) o (cond (is_named name c) (Some 0) None)) (changed_place name change set place)

pub changed_places : (places : Option (List (List ℕ × ℕ))) (change : ℤ → ℤ) (set : List Counter) (place : ℕ) → HasPlaces places set → HasPlaces places (change_at (with_value change) set place)
changed_places None change set place has = tt
changed_places (Some kept) change set place has = λ name. has name ∙ sym (changed_place name change set place)

pub pushed_places : (old new : List (List ℕ × ℕ)) (given : List ℕ) (place : ℕ) (set : List Counter) (counter : Counter) → counter.name ≡ given → length set ≡ place
    → ((other : List ℕ) → value_of new other ≡ cond (bytes_eq other given) (Some place) (value_of old other)) → HasPlaces (Some old) set → HasPlaces (Some new) (set ++ counter ∷ [])
pushed_places old new given place set counter named long wrote has = λ name. pushed name
  where
    pushed : (name : List ℕ) → value_of new name ≡ innermost_place (set ++ counter ∷ []) name
    pushed name =
        wrote name
        ∙ ap (cond (bytes_eq name given) (Some place)) (has name)
        ∙ ap (λ n. cond (bytes_eq name n) (Some place) (innermost_place set name)) (sym named)
        ∙ ap (λ n. cond (is_named name counter) (Some n) (innermost_place set name)) (sym long)
        ∙ sym (last_place-push (is_named name) set counter)

pub kept_place : (kept : List (List ℕ × ℕ)) (set : List Counter) (name : List ℕ) → HasPlaces (Some kept) set → value_of kept name ≡ innermost_place set name
kept_place kept set name has = has name

pub within_some : (o : Option ℕ) (set : List Counter) (name : List ℕ) → o ≡ innermost_place set name → IfSome o (λ place. place < length set)
within_some None set name e = tt
within_some (Some place) set name e = last_place_within (is_named name) set place (sym e)
