-- Lists of selectors. Between the parts of a selector whitespace means something, so unlike values they are
-- read from all tokens.
use Rattle.std.specs.Prelude.{List, ◌∷◌, Option, Some}
use Rattle.reading.specs.Punctuation.{comma}
use Rattle.reading.specs.Reading.{◌then◌, run_at}
use Rattle.css_tokens.specs.TokenReading.{past_delimiter, skip_whitespace}
use Rattle.css_tokens.specs.declared.token.Token.{Token}

-- `#`: one or more with commas between them, whitespace around each
module _ {X : Type 0} (item_at : List Token → Option (X × List Token)) where
  abbrev pub spaced_at : List Token → Option (X × List Token)
  spaced_at tokens = item_at (skip_whitespace tokens) then λ item. Some (item.0, skip_whitespace item.1)

  unfoldable pub after_comma_at : List Token → Option (X × List Token)
  after_comma_at tokens = past_delimiter comma tokens then spaced_at

  abbrev pub with_first : X → List X × List Token → List X × List Token
  with_first first more = (first ∷ more.0, more.1)

  abbrev pub comma_list_at : List Token → Option (List X × List Token)
  comma_list_at tokens = spaced_at tokens then λ first. Some (with_first first.0 (run_at after_comma_at first.1))
