-- Compound selectors, and the lists of them in `:is()`, `:where()` and `:not()`: Selectors 4, 4 and "Grammar".
-- Our own: these lists are not forgiving, hold no combinators, and are nested at most sixteen deep.
use Rattle.std.specs.Prelude.{ℕ, zero, suc, if◌then◌else◌, List, [], ◌∷◌, ◌++◌, Option, Some, None, codes}
use Rattle.plain_types.specs.declared.selector.Compound.{Compound}
use Rattle.plain_types.specs.declared.selector.Simple.{Simple}
use Rattle.plain_types.specs.declared.selector.Simple.TheVariants as simple
use Rattle.reading.specs.Punctuation.{right_parenthesis}
use Rattle.reading.specs.Reading.{◌then◌, ◌otherwise◌, run_at}
use Rattle.css_definitions.specs.Words.{is_word}
use Rattle.css_tokens.specs.declared.token.Token.{Token}
use Rattle.css_tokens.specs.TokenReading.{ident_at, function_at, past_delimiter, past_close}
use Rattle.selectors.specs.Parts.{comma_list_at}
use Rattle.selectors.specs.AnPlusB.{an_plus_b_at}
use Rattle.selectors.specs.Simples.{type_at, id_at, class_at, attribute_at, plain_class, nth_class, nth}
use Rattle.selectors.specs.declared.pseudo_classes.Nesting.{Nesting}
use Rattle.selectors.specs.declared.pseudo_classes.Nesting.TheVariants as nesting

abbrev pub colon : ℕ
colon = 58

-- a pseudo-class with a list of compound selectors
abbrev pub nesting_class : List ℕ → Option Nesting
nesting_class name =
    if is_word name (codes "is") then Some nesting.Is
    else (if is_word name (codes "where") then Some nesting.Where
    else (if is_word name (codes "not") then Some nesting.Not else None))

abbrev pub nested : Nesting → List Compound → Simple
nested nesting.Is choices = simple.Is choices
nested nesting.Where choices = simple.Weightless choices
nested nesting.Not choices = simple.Not choices

abbrev pub compound : List Simple → Compound
compound simples = record { simples = simples }

-- a type selector, if it stands there
abbrev pub type_part : Option (Simple × List Token) → List Token → List Simple × List Token
type_part None tokens = ([], tokens)
type_part (Some type) tokens = (type.0 ∷ [], type.1)

-- a pseudo-class without arguments
abbrev pub plain_class_at : List Token → Option (Simple × List Token)
plain_class_at tokens = ident_at tokens then λ name. plain_class name.0 then λ class. Some (class, name.1)

-- one simple selector or more
abbrev pub some_compound : List Simple × List Token → Option (Compound × List Token)
some_compound ([], tokens) = None
some_compound (first ∷ more, tokens) = Some (compound (first ∷ more), tokens)

-- over the text, and the reading of a list that is nested in this compound selector, with its end
module _ (text : List ℕ) (choices_at : List Token → Option (List Compound × List Token)) where
  -- a pseudo-class with this name and bracket
  unfoldable pub class_function_at : List ℕ → List Token → Option (Simple × List Token)
  class_function_at name tokens =
      (nth_class name then λ siblings. an_plus_b_at text tokens then λ value. Some (nth siblings value.0, value.1))
      otherwise (nesting_class name then λ nesting. choices_at tokens then λ choices. Some (nested nesting choices.0, choices.1))

  -- `<pseudo-class-selector>`: `':' [ <ident-token> | <function-token> <any-value> ')' ]`
  unfoldable pub pseudo_class_at : List Token → Option (Simple × List Token)
  pseudo_class_at tokens = past_delimiter colon tokens then λ rest.
      plain_class_at rest otherwise (function_at rest then λ name. class_function_at name.0 name.1)

  -- `<subclass-selector>`
  unfoldable pub subclass_at : List Token → Option (Simple × List Token)
  subclass_at tokens = id_at tokens otherwise class_at tokens otherwise attribute_at tokens otherwise pseudo_class_at tokens

  -- the simple selectors that stand there, and those after them
  abbrev pub with_subclasses : List Simple × List Token → List Simple × List Token
  with_subclasses type = (type.0 ++ (run_at subclass_at type.1).0, (run_at subclass_at type.1).1)

  -- `<compound-selector>`: `[ <type-selector>? <subclass-selector>* ]!`
  unfoldable pub compound_at : List Token → Option (Compound × List Token)
  compound_at tokens = some_compound (with_subclasses (type_part (type_at tokens) tokens))

-- a list of compound selectors, and the end of the function in which it stands, where so many levels may be nested
unfoldable pub choices_at : List ℕ → ℕ → List Token → Option (List Compound × List Token)
choices_at text zero tokens = None
choices_at text (suc levels) tokens = comma_list_at (compound_at text (λ rest. choices_at text levels rest)) tokens then λ choices. past_close right_parenthesis choices.1 then λ rest. Some (choices.0, rest)
