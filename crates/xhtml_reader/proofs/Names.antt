-- A text is a name where a name is read from it and nothing is left.
use Rattle.std.proofs.Common.{◌≡◌, ℕ, suc, Bool, true, false, ◌&&◌, eqb, List, [], ◌∷◌, length, Some, None, inl, inr, refl, sym, ap, ◌∙◌, arith}
use Rattle.std.specs.List.{list_all}
use Rattle.std.proofs.lemmas.Bool.{cases_Bool}
use Rattle.std.proofs.lemmas.Bool.Decides.{nat_tests}
use Rattle.xml_definitions.specs.Characters.{is_name, is_name_character, is_name_start}
use Rattle.reading.specs.Reading.{span}
use Rattle.xhtml_items.specs.Reading.{name_at}
use Rattle.reading.proofs.Runs.{chosen}
use Rattle.xhtml_items.proofs.StepLaws.{start_goes_on}

abbrev pub is_empty : List ℕ → Bool
is_empty rest = eqb (length rest) 0

not_empty : (c : ℕ) (cs : List ℕ) → is_empty (c ∷ cs) ≡ false
not_empty c cs = positive (length cs)
  where
    positive : (n : ℕ) → eqb (suc n) 0 ≡ false
    positive n = grind (arith, nat_tests)

all_spanned : (test : ℕ → Bool) (cs : List ℕ) → list_all test cs ≡ is_empty (span test cs).1
unfolding span
all_spanned test [] = refl
all_spanned test (c ∷ cs) = elim (cases_Bool (test c)) [
  | inl same ↦ rw same (all_spanned test cs)
  | inr other ↦ rw other (sym (not_empty c cs))
]

pub name_read : (text : List ℕ) (name : List ℕ × List ℕ) → name_at text ≡ Some name → is_empty name.1 ≡ is_name text
unfolding name_at span
name_read [] name e = absurd cc
name_read (c ∷ cs) name e = elim (chosen (is_name_start c) _ _ _ e) [
  | inl w ↦ (
      let on : is_name_character c ≡ true = start_goes_on c w.0 in
      let is : (c ∷ (span is_name_character cs).0, (span is_name_character cs).1) ≡ name = (let h = rw on at w.1 in cc) in
      ap (λ (n : List ℕ × List ℕ). is_empty n.1) (sym is) ∙ sym (all_spanned is_name_character cs) ∙ sym (ap (λ (b : Bool). b && list_all is_name_character cs) w.0))
  | inr w ↦ absurd (let h = w.1 in cc)
]

pub no_name : (text : List ℕ) → name_at text ≡ None → false ≡ is_name text
unfolding name_at
no_name [] e = refl
no_name (c ∷ cs) e = elim (chosen (is_name_start c) _ _ _ e) [
  | inl w ↦ absurd (let h = w.1 in cc)
  | inr w ↦ sym (ap (λ (b : Bool). b && list_all is_name_character cs) w.0)
]
