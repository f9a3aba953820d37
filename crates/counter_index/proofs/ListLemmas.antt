-- Lists: loops that append something for each item, and entries by their keys.
use Rattle.std.proofs.Common.{◌≡◌, ◌==◌, ◌<◌, ◌+◌, ◌++◌, ◌∷◌, ◌≤◌, ℕ, Bool, true, false, All, List, [], Option, Some, None, cond, inl, inr, length, get_or, map, take, refl, sym, ap, subst, ◌∙◌, arith, eq-eqb, eqb-true}
use Rattle.std.specs.Prelude.{flat_map, option_map}
use Rattle.std.specs.Option.{option_or}
use Rattle.std.proofs.lemmas.List.{flat_map_more, map-append, take_more}
use Rattle.std.proofs.lemmas.List.Elements.{All-cons, All-head, All-nil, All-tail, All-weaker}
use Rattle.std.proofs.lemmas.Option.{same_Some}
use Rattle.forest.proofs.SpotLaws.{chosen}
use Rattle.merged_walk.specs.Entries.{Holds, first_at, last_at}

pub flat-turn : {X A : Type 0} (f : X → List A) (had made grown : List A) (items : List X) (place : ℕ) (item : X) → place < length items → item ≡ get_or items place item
    → made ≡ had ++ flat_map f (take place items) → grown ≡ made ++ f item
    → grown ≡ had ++ flat_map f (take (place + 1) items)
flat-turn f had made grown items place item within is before after =
    after
    ∙ ap (λ all. all ++ f item) before
    ∙ flat_map_more f had (take place items) item
    ∙ ap (λ last. had ++ flat_map f (take place items ++ last ∷ [])) is
    ∙ ap (λ some. had ++ flat_map f some) (sym (take_more items place item within))

pub map-turn : {X A : Type 0} (f : X → A) (made grown : List A) (items : List X) (place : ℕ) (item : X) → place < length items → item ≡ get_or items place item
    → made ≡ map f (take place items) → grown ≡ made ++ f item ∷ []
    → grown ≡ map f (take (place + 1) items)
map-turn f made grown items place item within is before after =
    after
    ∙ ap (λ all. all ++ f item ∷ []) before
    ∙ sym (map-append f (take place items) (item ∷ []))
    ∙ ap (λ last. map f (take place items ++ last ∷ [])) is
    ∙ ap (λ some. map f some) (sym (take_more items place item within))

-- what is true of each entry is true of the first with a key
module _ {T : Type 0} (P : ℕ × T → Type 0) where
  pub first-has : (entries : List (ℕ × T)) → All P entries → (key : ℕ) (kept : T) → first_at entries key ≡ Some kept → P (key, kept)
  first-has [] all key kept at = absurd (cc)
  first-has (entry ∷ entries) all key kept at =
      elim (chosen (entry.0 == key) _ _ _ at) [
        | inl here ↦
            subst P (λ i. (eqb-true entry.0 key here.0 i, same_Some _ _ here.1 i)) (All-head P entry entries all)
        | inr later ↦ first-has entries (All-tail P entry entries all) key kept later.1
      ]

-- entries of which something else is kept
module _ {R S : Type 0} (f : R → S) where
  abbrev pub with_other : ℕ × R → ℕ × S
  with_other entry = (entry.0, f entry.1)

  first_step : (here : Bool) (value : R) (first : Option R) → cond here (Some (f value)) (option_map f first) ≡ option_map f (cond here (Some value) first)
  first_step true value first = refl
  first_step false value first = refl

  pub first-mapped : (entries : List (ℕ × R)) (key : ℕ) → first_at (map with_other entries) key ≡ option_map f (first_at entries key)
  first-mapped [] key = refl
  first-mapped (entry ∷ entries) key =
      ap (λ first. cond (entry.0 == key) (Some (f entry.1)) first) (first-mapped entries key)
      ∙ first_step (entry.0 == key) entry.1 (first_at entries key)

  last_step : (last : Option R) (here : Bool) (value : R) → option_or (option_map f last) (cond here (Some (f value)) None) ≡ option_map f (option_or last (cond here (Some value) None))
  last_step (Some kept) here value = refl
  last_step None true value = refl
  last_step None false value = refl

  pub last-mapped : (entries : List (ℕ × R)) (key : ℕ) → last_at (map with_other entries) key ≡ option_map f (last_at entries key)
  last-mapped [] key = refl
  last-mapped (entry ∷ entries) key =
      ap (λ last. option_or last (cond (entry.0 == key) (Some (f entry.1)) None)) (last-mapped entries key)
      ∙ last_step (last_at entries key) (entry.0 == key) entry.1

-- entries whose keys come once
module _ {R : Type 0} where
  abbrev pub times_in : ℕ → List (ℕ × R) → ℕ
  times_in key [] = 0
  times_in key (entry ∷ entries) = cond (entry.0 == key) 1 0 + times_in key entries

  pub times-append : (key : ℕ) (entries others : List (ℕ × R)) → times_in key (entries ++ others) ≡ times_in key entries + times_in key others
  times-append key [] others = omega arith
  times-append key (entry ∷ entries) others = omega (arith, times-append key entries others)

  -- an entry comes under its key, and is the first there
  abbrev IsFirst : List (ℕ × R) → ℕ × R → Type 0
  IsFirst entries one = (0 < times_in one.0 entries) × (first_at entries one.0 ≡ Some one.1)

  first_later : (entry : ℕ × R) (entries : List (ℕ × R)) → ((key : ℕ) → times_in key (entry ∷ entries) ≤ 1) → (one : ℕ × R) → IsFirst entries one → IsFirst (entry ∷ entries) one
  first_later entry entries once one first = by (entry.0 == one.0) refl (once one.0)
    where
      by : (b : Bool) → (entry.0 == one.0) ≡ b → cond {A = ℕ} b 1 0 + times_in one.0 entries ≤ 1 → IsFirst (entry ∷ entries) one
      by true is few = absurd (let some = first.0 in omega (arith, few, some))
      by false is few = let some = first.0 in (omega (arith, some), rw is first.1)

  all_first : (entries : List (ℕ × R)) → ((key : ℕ) → times_in key entries ≤ 1) → All (IsFirst entries) entries
  all_first [] once = All-nil (IsFirst [])
  all_first (entry ∷ entries) once =
      let own : (entry.0 == entry.0) ≡ true = eq-eqb entry.0 entry.0 refl in
      All-cons (IsFirst (entry ∷ entries)) entry entries (rw own (omega arith), rw own refl)
      (All-weaker (IsFirst entries) (IsFirst (entry ∷ entries)) (first_later entry entries once) entries
      (all_first entries (λ key. let few = once key in omega (arith, few))))

  pub once-held : (entries : List (ℕ × R)) → ((key : ℕ) → times_in key entries ≤ 1) → Holds (first_at entries) entries
  once-held entries once =
      All-weaker (IsFirst entries) (λ (one : ℕ × R). first_at entries one.0 ≡ Some one.1) (λ one first. first.1) entries (all_first entries once)
