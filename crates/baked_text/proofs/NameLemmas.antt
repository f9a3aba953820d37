-- Names of ASCII, compared by their bytes.
use Rattle.std.proofs.Common.{◌≡◌, ℕ, true, List, [], ◌∷◌, refl, sym, ap, ◌∙◌}
use Rattle.std.specs.List.{list_all, list_any}
use Rattle.std.specs.Str.{chars, encode_utf8_all, bytes_eq, IsUtf8, IsAscii}
use Rattle.std.proofs.lemmas.Bool.{and_parts}
use Rattle.std.proofs.lemmas.Bool.Decides.{same_from_decides}
use Rattle.std.proofs.lemmas.Slice.Eq.{bytes_eq-Decides}
use Rattle.std.proofs.lemmas.Str.{chars-IsAscii, encodes-IsAscii, encodes-chars}
use Rattle.bake_definitions.specs.Insertions.{captioned_names, names_without_span, parent_names, text_names, void_names}
use Rattle.reading.specs.Characters.{is_ascii}
use Rattle.xhtml_items.proofs.Texts.{IsAscii-from_test}

same_name : (bs name : List ℕ) → IsUtf8 bs → is_ascii name ≡ true → bytes_eq bs name ≡ bytes_eq (chars bs) name
same_name bs name utf8 small = same_from_decides (bytes_eq bs name) (bytes_eq (chars bs) name) (bytes_eq-Decides bs name) (to_characters, to_bytes)
  where
    ascii : IsAscii name
    ascii = IsAscii-from_test name small

    to_characters : bytes_eq (chars bs) name ≡ true → bs ≡ name
    to_characters e = sym (encodes-chars bs utf8) ∙ ap encode_utf8_all ((bytes_eq-Decides (chars bs) name).0 e) ∙ encodes-IsAscii name ascii

    to_bytes : bs ≡ name → bytes_eq (chars bs) name ≡ true
    to_bytes e = (bytes_eq-Decides (chars bs) name).1 (ap chars e ∙ chars-IsAscii name ascii)

among : (names : List (List ℕ)) (bs : List ℕ) → IsUtf8 bs → list_all (λ (name : List ℕ). is_ascii name) names ≡ true
    → list_any (bytes_eq bs) names ≡ list_any (bytes_eq (chars bs)) names
among [] bs utf8 all = refl
among (name ∷ names) bs utf8 all =
    let p = and_parts (is_ascii name) (list_all (λ (n : List ℕ). is_ascii n) names) all in
    rw (same_name bs name utf8 p.0, among names bs utf8 p.1) refl

pub without_span_by_bytes : (bs : List ℕ) → IsUtf8 bs → list_any (bytes_eq bs) names_without_span ≡ list_any (bytes_eq (chars bs)) names_without_span
unfolding names_without_span void_names text_names parent_names captioned_names
without_span_by_bytes bs utf8 = among names_without_span bs utf8 refl
