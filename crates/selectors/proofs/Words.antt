-- A word in one ASCII case or another is no other word.
use Rattle.std.proofs.Common.{◌≡◌, ℕ, true, List, map, Some, None, inl, inr, refl}
use Rattle.std.specs.Prelude.{codes}
use Rattle.std.specs.Char.{to_ascii_lowercase}
use Rattle.std.proofs.lemmas.Slice.Eq.{bytes_eq-Decides}
use Rattle.css_definitions.specs.Words.{is_word}
use Rattle.reading.proofs.Runs.{chosen}
use Rattle.plain_types.specs.declared.selector_parts.PseudoElement.{PseudoElement}
use Rattle.selectors.specs.declared.pseudo_classes.Nesting.{Nesting}
use Rattle.selectors.specs.Simples.{plain_class, nth_class}
use Rattle.selectors.specs.Compounds.{nesting_class}
use Rattle.selectors.specs.Selectors.{legacy_pseudo_element}

abbrev lower : List ℕ → List ℕ
lower text = map to_ascii_lowercase text

-- a test of a name that looks at it in lower case alone
same_word : (name word : List ℕ) → is_word name word ≡ true → lower name ≡ lower word
same_word name word e = (bytes_eq-Decides (lower name) (lower word)).0 e

pub nesting_no_nth : (name : List ℕ) (nesting : Nesting) → nesting_class name ≡ Some nesting → nth_class name ≡ None
nesting_no_nth name nesting e = elim (chosen (is_word name (codes "is")) _ _ _ e) [
  | inl is ↦ (let same = same_word name (codes "is") is.0 in rw same refl)
  | inr fails ↦ elim (chosen (is_word name (codes "where")) _ _ _ fails.1) [
    | inl is ↦ (let same = same_word name (codes "where") is.0 in rw same refl)
    | inr fails ↦ elim (chosen (is_word name (codes "not")) _ _ _ fails.1) [
      | inl is ↦ (let same = same_word name (codes "not") is.0 in rw same refl)
      | inr fails ↦ absurd (let never = fails.1 in cc)
    ]
  ]
]

pub legacy_no_plain : (name : List ℕ) (pseudo : PseudoElement) → legacy_pseudo_element name ≡ Some pseudo → plain_class name ≡ None
unfolding plain_class
legacy_no_plain name pseudo e = elim (chosen (is_word name (codes "before")) _ _ _ e) [
  | inl is ↦ (let same = same_word name (codes "before") is.0 in rw same refl)
  | inr fails ↦ elim (chosen (is_word name (codes "after")) _ _ _ fails.1) [
    | inl is ↦ (let same = same_word name (codes "after") is.0 in rw same refl)
    | inr fails ↦ elim (chosen (is_word name (codes "first-line")) _ _ _ fails.1) [
      | inl is ↦ (let same = same_word name (codes "first-line") is.0 in rw same refl)
      | inr fails ↦ elim (chosen (is_word name (codes "first-letter")) _ _ _ fails.1) [
        | inl is ↦ (let same = same_word name (codes "first-letter") is.0 in rw same refl)
        | inr fails ↦ absurd (let never = fails.1 in cc)
      ]
    ]
  ]
]
