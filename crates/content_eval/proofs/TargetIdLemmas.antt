-- The id in a url, as bytes and as characters.
use Rattle.std.proofs.Common.{◌≡◌, ◌≢◌, ◌∙◌, ℕ, ◌==◌, Bool, true, false, List, [], ◌∷◌, ◌++◌, Option, Some, None, ap, refl, sym, cond, Bor, option_copied, lit<}
use Rattle.std.specs.Prelude.{encode_utf8_all}
use Rattle.std.specs.Option.{option_map, MatchOption}
use Rattle.std.specs.Str.{chars, IsUtf8}
use Rattle.std.proofs.lemmas.Bool.{eqb-true}
use Rattle.std.proofs.lemmas.Str.{chars_past_char, encode_ascii, encodes-chars}
use Rattle.reading.specs.Punctuation.{number_sign}
use Rattle.content_eval.specs.Targets.{target_id}

module _ (url : List ℕ) (utf8 : IsUtf8 url) where
  some_id : (rest : List ℕ) → url ≡ number_sign ∷ rest → Some (chars rest) ≡ target_id (chars url)
  some_id rest e = sym (ap target_id (chars_past_char url rest number_sign utf8 (e ∙ ap (λ front. front ++ rest) (sym (encode_ascii number_sign (lit< tt))))))

  module _ (other : (rest : List ℕ) → url ≢ number_sign ∷ rest) where
    not_first : (first : ℕ) (rest : List ℕ) (test : Bool) → chars url ≡ first ∷ rest → (first == number_sign) ≡ test → None ≡ cond test (Some rest) None
    not_first first rest false e t = refl
    not_first first rest true e t =
        let sign : first ≡ number_sign = eqb-true first number_sign t in
        let bytes : url ≡ number_sign ∷ encode_utf8_all rest =
        sym (encodes-chars url utf8) ∙ ap encode_utf8_all (e ∙ ap (λ c. c ∷ rest) sign) ∙ ap (λ front. front ++ encode_utf8_all rest) (encode_ascii number_sign (lit< tt)) in
        absurd (other (encode_utf8_all rest) bytes)

    no_id : (characters : List ℕ) → chars url ≡ characters → None ≡ target_id characters
    no_id [] e = refl
    no_id (first ∷ rest) e = not_first first rest (first == number_sign) e refl

-- what `strip_prefix` of a `#` says
pub id_of : (url : List ℕ) (r : Option (Bor (List ℕ))) → IsUtf8 url → MatchOption r ((rest : List ℕ) → url ≢ number_sign ∷ rest) (λ x. url ≡ number_sign ∷ x.now) → option_map chars (option_copied r) ≡ target_id (chars url)
id_of url None utf8 h = no_id url utf8 h (chars url) refl
id_of url (Some rest) utf8 h = some_id url utf8 rest.now h
