-- Complex selectors and lists of them: Selectors 4, "Grammar".
use Rattle.std.specs.Prelude.{◌≡◌, ℕ, if◌then◌else◌, ◌==◌, List, [], ◌∷◌, ◌++◌, map, Option, Some, None, codes}
use Rattle.plain_types.specs.declared.selector.Compound.{Compound}
use Rattle.plain_types.specs.declared.selector.Selector.{Selector}
use Rattle.plain_types.specs.declared.selector_parts.Join.{Join}
use Rattle.plain_types.specs.declared.selector_parts.Join.TheVariants as join
use Rattle.plain_types.specs.declared.selector_parts.PseudoElement.{PseudoElement}
use Rattle.plain_types.specs.declared.selector_parts.PseudoElement.TheVariants as pseudo
use Rattle.reading.specs.Punctuation.{plus_sign, greater_than_sign}
use Rattle.reading.specs.Reading.{◌then◌, ◌otherwise◌, only, run_at}
use Rattle.css_definitions.specs.Words.{is_word}
use Rattle.css_tokens.specs.declared.token.Token.{Token}
use Rattle.css_tokens.specs.declared.token.TokenKind.{TokenKind}
use Rattle.css_tokens.specs.declared.token.TokenKind.TheVariants as kind
use Rattle.css_tokens.specs.TokenReading.{is_whitespace, held_at, ident_at, past_delimiter, skip_whitespace}
use Rattle.selectors.specs.Parts.{comma_list_at}
use Rattle.selectors.specs.declared.selector_list.Sequence.{Sequence}
use Rattle.selectors.specs.Compounds.{colon, compound, compound_at, choices_at}

-- Combinators.

-- `'>' | '+' | '~'`
abbrev pub combinator_of : TokenKind → Option Join
combinator_of (kind.Sign c) =
    if c == greater_than_sign then Some join.Child
    else (if c == plus_sign then Some join.Next
    else (if c == 126 then Some join.Later else None))
combinator_of _ = None

-- whitespace is the descendant combinator
abbrev pub descendant_at : List Token → Option (Join × List Token)
descendant_at [] = None
descendant_at (first ∷ rest) = if is_whitespace first.kind then Some (join.Descendant, skip_whitespace rest) else None

-- `<combinator>`, whitespace around it
abbrev pub combinator_at : List Token → Option (Join × List Token)
combinator_at tokens = (held_at combinator_of (skip_whitespace tokens) then λ join. Some (join.0, skip_whitespace join.1)) otherwise descendant_at tokens

-- Pseudo-elements: CSS Pseudo-Elements 4.

-- those that may have one colon for historical reasons; the last two generate nothing (our own)
abbrev pub legacy_pseudo_element : List ℕ → Option PseudoElement
legacy_pseudo_element name =
    if is_word name (codes "before") then Some pseudo.Before
    else (if is_word name (codes "after") then Some pseudo.After
    else (if is_word name (codes "first-line") then Some pseudo.Never
    else (if is_word name (codes "first-letter") then Some pseudo.Never else None)))

abbrev pub pseudo_element : List ℕ → Option PseudoElement
pseudo_element name = if is_word name (codes "marker") then Some pseudo.Marker else legacy_pseudo_element name

-- after two colons
abbrev pub modern_pseudo_element_at : List Token → Option (PseudoElement × List Token)
modern_pseudo_element_at tokens = ident_at tokens then λ name. pseudo_element name.0 then λ pseudo. Some (pseudo, name.1)

-- after one
abbrev pub legacy_pseudo_element_at : List Token → Option (PseudoElement × List Token)
legacy_pseudo_element_at tokens = ident_at tokens then λ name. legacy_pseudo_element name.0 then λ pseudo. Some (pseudo, name.1)

-- `<pseudo-element-selector>`, and `<legacy-pseudo-element-selector>`
unfoldable pub pseudo_element_at : List Token → Option (PseudoElement × List Token)
pseudo_element_at tokens = past_delimiter colon tokens then λ rest. (past_delimiter colon rest then modern_pseudo_element_at) otherwise legacy_pseudo_element_at rest

-- Complex selectors.

-- a combinator and the compound selector to which it leads
pub record Step : Type 0 where
  pub join : Join
  pub compound : Compound

abbrev pub step_to : Join → Compound → Step
step_to join compound = record { join = join; compound = compound }

-- a compound selector and steps from it
abbrev pub sequence : Compound → List Step → Sequence
sequence first steps = record { compounds = first ∷ map (λ (step : Step). step.compound) steps; joins = map (λ (step : Step). step.join) steps }

-- a compound selector that says nothing of its element: where a pseudo-element stands alone
abbrev pub no_compound : Compound
no_compound = compound []

abbrev pub and_no_compound : Sequence → Join → Sequence
and_no_compound sequence join = record { compounds = sequence.compounds ++ no_compound ∷ []; joins = sequence.joins ++ join ∷ [] }

abbrev pub with_pseudo : Sequence → PseudoElement → Selector
with_pseudo sequence pseudo = record { compounds = sequence.compounds; joins = sequence.joins; pseudo = pseudo }

-- a combinator, and a pseudo-element that stands alone after it
abbrev pub lone_at : List Token → Option ((Join × PseudoElement) × List Token)
lone_at tokens = combinator_at tokens then λ join. pseudo_element_at join.1 then λ pseudo. Some ((join.0, pseudo.0), pseudo.1)

-- after the last compound selector: its pseudo-element, or one that stands alone, or none
unfoldable pub complex_end : Sequence → List Token → Option (Selector × List Token)
complex_end sequence tokens =
    (pseudo_element_at tokens then λ pseudo. Some (with_pseudo sequence pseudo.0, pseudo.1))
    otherwise (lone_at tokens then λ lone. Some (with_pseudo (and_no_compound sequence lone.0.0) lone.0.1, lone.1))
    otherwise Some (with_pseudo sequence pseudo.Own, tokens)

-- how deep `:is()`, `:where()` and `:not()` may be nested
abbrev pub most_nested : ℕ
most_nested = 16

abbrev pub sequence_end : Compound → List Step × List Token → Option (Selector × List Token)
sequence_end first steps = complex_end (sequence first steps.0) steps.1

-- over the text that the tokens are of
module _ (text : List ℕ) where
  abbrev pub outer_compound_at : List Token → Option (Compound × List Token)
  outer_compound_at tokens = compound_at text (choices_at text most_nested) tokens

  -- `<combinator>? <compound-selector>`
  unfoldable pub step_at : List Token → Option (Step × List Token)
  step_at tokens = combinator_at tokens then λ join. outer_compound_at join.1 then λ compound. Some (step_to join.0 compound.0, compound.1)

  -- `<complex-selector>`: `<compound-selector> [ <combinator>? <compound-selector> ]*`, the last one with its
  -- pseudo-element; or a pseudo-element alone
  unfoldable pub selector_at : List Token → Option (Selector × List Token)
  selector_at tokens =
      (pseudo_element_at tokens then λ pseudo. Some (with_pseudo (sequence no_compound []) pseudo.0, pseudo.1))
      otherwise (outer_compound_at tokens then λ first. sequence_end first.0 (run_at step_at first.1))

  -- `<selector-list>`: what these tokens of the text are as a whole. One that is bad makes the list bad.
  unfoldable pub selector_list : List Token → Option (List Selector)
  selector_list tokens = comma_list_at selector_at tokens then λ selectors. only selectors.0 selectors.1

-- these tokens of the text are read as these selectors
abbrev pub Selectors : List ℕ → List Token → List Selector → Type 0
Selectors text tokens selectors = selector_list text tokens ≡ Some selectors
