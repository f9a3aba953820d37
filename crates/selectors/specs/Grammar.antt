-- The grammar of lists of selectors as a relation: Selectors 4, "Grammar". Each part says which tokens may be
-- read as it, and which are left behind it. Nothing here says how far a part goes, or which of two readings is
-- taken: that there is one at most is a law.
use Rattle.std.specs.Prelude.{◌≡◌, ℕ, suc, true, List, [], ◌∷◌, Some}
use Rattle.plain_types.specs.declared.selector.Compound.{Compound}
use Rattle.plain_types.specs.declared.selector.Selector.{Selector}
use Rattle.plain_types.specs.declared.selector.Simple.{Simple}
use Rattle.plain_types.specs.declared.selector_parts.Join.{Join}
use Rattle.plain_types.specs.declared.selector_parts.Join.TheVariants as join
use Rattle.plain_types.specs.declared.selector_parts.PseudoElement.{PseudoElement}
use Rattle.plain_types.specs.declared.selector_parts.PseudoElement.TheVariants as pseudo
use Rattle.reading.specs.Punctuation.{comma, right_parenthesis}
use Rattle.css_tokens.specs.declared.token.Token.{Token}
use Rattle.css_tokens.specs.TokenReading.{is_whitespace, function_at, held_at, past_delimiter, past_close, skip_whitespace}
use Rattle.selectors.specs.declared.an_plus_b.AnPlusB.{AnPlusB}
use Rattle.selectors.specs.declared.pseudo_classes.Nesting.{Nesting}
use Rattle.selectors.specs.declared.pseudo_classes.Siblings.{Siblings}
use Rattle.selectors.specs.AnPlusB.{an_plus_b_at}
use Rattle.selectors.specs.Simples.{type_at, id_at, class_at, attribute_at, nth_class, nth}
use Rattle.selectors.specs.Compounds.{colon, plain_class_at, nesting_class, nested, compound}
use Rattle.selectors.specs.Selectors.{combinator_of, pseudo_element_at, Step, step_to, sequence, no_compound, and_no_compound, with_pseudo, most_nested}

mutual
  -- `<subclass-selector>`, where so many levels may be nested in it
  pub data IsSubclass (text : List ℕ) : ℕ → List Token → Simple → List Token → Type 0 where
    an_id : (levels : ℕ) (tokens : List Token) (simple : Simple) (rest : List Token) → id_at tokens ≡ Some (simple, rest) → IsSubclass text levels tokens simple rest
    a_class : (levels : ℕ) (tokens : List Token) (simple : Simple) (rest : List Token) → class_at tokens ≡ Some (simple, rest) → IsSubclass text levels tokens simple rest
    an_attribute : (levels : ℕ) (tokens : List Token) (simple : Simple) (rest : List Token) → attribute_at tokens ≡ Some (simple, rest) → IsSubclass text levels tokens simple rest
    a_plain_class : (levels : ℕ) (tokens after : List Token) (simple : Simple) (rest : List Token) → past_delimiter colon tokens ≡ Some after → plain_class_at after ≡ Some (simple, rest) → IsSubclass text levels tokens simple rest
    an_nth_class : (levels : ℕ) (tokens after : List Token) (name : List ℕ) (inside : List Token) (siblings : Siblings) (value : AnPlusB) (rest : List Token)
        → past_delimiter colon tokens ≡ Some after → function_at after ≡ Some (name, inside) → nth_class name ≡ Some siblings → an_plus_b_at text inside ≡ Some (value, rest) → IsSubclass text levels tokens (nth siblings value) rest
    a_nesting_class : (levels : ℕ) (tokens after : List Token) (name : List ℕ) (inside : List Token) (nesting : Nesting) (choices : List Compound) (rest : List Token)
        → past_delimiter colon tokens ≡ Some after → function_at after ≡ Some (name, inside) → nesting_class name ≡ Some nesting → AreChoices text levels inside choices rest → IsSubclass text (suc levels) tokens (nested nesting choices) rest

  -- `<subclass-selector>*`
  pub data AreSubclasses (text : List ℕ) : ℕ → List Token → List Simple → List Token → Type 0 where
    no_subclass : (levels : ℕ) (tokens : List Token) → AreSubclasses text levels tokens [] tokens
    one_subclass : (levels : ℕ) (tokens : List Token) (simple : Simple) (mid : List Token) (simples : List Simple) (rest : List Token)
        → IsSubclass text levels tokens simple mid → AreSubclasses text levels mid simples rest → AreSubclasses text levels tokens (simple ∷ simples) rest

  -- `<compound-selector>`: `[ <type-selector>? <subclass-selector>* ]!`
  pub data IsCompound (text : List ℕ) : ℕ → List Token → Compound → List Token → Type 0 where
    with_type : (levels : ℕ) (tokens : List Token) (type : Simple) (mid : List Token) (simples : List Simple) (rest : List Token)
        → type_at tokens ≡ Some (type, mid) → AreSubclasses text levels mid simples rest → IsCompound text levels tokens (compound (type ∷ simples)) rest
    without_type : (levels : ℕ) (tokens : List Token) (simple : Simple) (mid : List Token) (simples : List Simple) (rest : List Token)
        → IsSubclass text levels tokens simple mid → AreSubclasses text levels mid simples rest → IsCompound text levels tokens (compound (simple ∷ simples)) rest

  -- `<compound-selector># ')'`
  pub data AreChoices (text : List ℕ) : ℕ → List Token → List Compound → List Token → Type 0 where
    last_choice : (levels : ℕ) (tokens : List Token) (choice : Compound) (after rest : List Token)
        → IsCompound text levels (skip_whitespace tokens) choice after → past_close right_parenthesis (skip_whitespace after) ≡ Some rest → AreChoices text levels tokens (choice ∷ []) rest
    next_choice : (levels : ℕ) (tokens : List Token) (choice : Compound) (after next : List Token) (choices : List Compound) (rest : List Token)
        → IsCompound text levels (skip_whitespace tokens) choice after → past_delimiter comma (skip_whitespace after) ≡ Some next → AreChoices text levels next choices rest → AreChoices text levels tokens (choice ∷ choices) rest

-- `<combinator>`, whitespace around it; whitespace alone is the descendant combinator
pub data IsCombinator : List Token → Join → List Token → Type 0 where
  written : (tokens : List Token) (join : Join) (after : List Token) → held_at combinator_of (skip_whitespace tokens) ≡ Some (join, after) → IsCombinator tokens join (skip_whitespace after)
  descendant : (blank : Token) (after : List Token) → is_whitespace blank.kind ≡ true → IsCombinator (blank ∷ after) join.Descendant (skip_whitespace after)

-- `[ <combinator>? <compound-selector> ]*`
pub data AreSteps (text : List ℕ) : List Token → List Step → List Token → Type 0 where
  no_step : (tokens : List Token) → AreSteps text tokens [] tokens
  one_step : (tokens : List Token) (join : Join) (after : List Token) (compound : Compound) (mid : List Token) (steps : List Step) (rest : List Token)
      → IsCombinator tokens join after → IsCompound text most_nested after compound mid → AreSteps text mid steps rest → AreSteps text tokens (step_to join compound ∷ steps) rest

-- `<complex-selector>`, the last compound selector perhaps with a pseudo-element, or a pseudo-element alone
pub data IsSelector (text : List ℕ) : List Token → Selector → List Token → Type 0 where
  of_elements : (tokens : List Token) (first : Compound) (mid : List Token) (steps : List Step) (rest : List Token)
      → IsCompound text most_nested tokens first mid → AreSteps text mid steps rest → IsSelector text tokens (with_pseudo (sequence first steps) pseudo.Own) rest
  of_pseudo_elements : (tokens : List Token) (first : Compound) (mid : List Token) (steps : List Step) (end : List Token) (pseudo : PseudoElement) (rest : List Token)
      → IsCompound text most_nested tokens first mid → AreSteps text mid steps end → pseudo_element_at end ≡ Some (pseudo, rest) → IsSelector text tokens (with_pseudo (sequence first steps) pseudo) rest
  of_lone_ones : (tokens : List Token) (first : Compound) (mid : List Token) (steps : List Step) (end : List Token) (join : Join) (after : List Token) (pseudo : PseudoElement) (rest : List Token)
      → IsCompound text most_nested tokens first mid → AreSteps text mid steps end → IsCombinator end join after → pseudo_element_at after ≡ Some (pseudo, rest)
      → IsSelector text tokens (with_pseudo (and_no_compound (sequence first steps) join) pseudo) rest
  of_any_ones : (tokens : List Token) (pseudo : PseudoElement) (rest : List Token) → pseudo_element_at tokens ≡ Some (pseudo, rest) → IsSelector text tokens (with_pseudo (sequence no_compound []) pseudo) rest

-- `<selector-list>`, whitespace around each
pub data AreSelectors (text : List ℕ) : List Token → List Selector → Type 0 where
  last_selector : (tokens : List Token) (selector : Selector) (after : List Token) → IsSelector text (skip_whitespace tokens) selector after → skip_whitespace after ≡ [] → AreSelectors text tokens (selector ∷ [])
  next_selector : (tokens : List Token) (selector : Selector) (after next : List Token) (selectors : List Selector)
      → IsSelector text (skip_whitespace tokens) selector after → past_delimiter comma (skip_whitespace after) ≡ Some next → AreSelectors text next selectors → AreSelectors text tokens (selector ∷ selectors)
