-- What std says of the bytes of a text, said of its characters.
use Rattle.std.proofs.Common.{◌≡◌, ◌≢◌, ℕ, ◌+◌, ◌<◌, ◌≤◌, true, false, ltb, Bor, List, [], ◌∷◌, ◌++◌, length, drop, Option, Some, None, MatchOption, IfSome, get_or, drop-cons, add-one, map, inl, inr, refl, sym, ap, ◌∙◌, append_assoc, arith}
use Rattle.std.proofs.Math.ListN.{drop_of_length-le}
use Rattle.std.specs.List.{list_all}
use Rattle.std.specs.Str.{chars, encode_utf8_all, bytes_eq, IsUtf8, IsAscii}
use Rattle.std.specs.Str.Pattern.{FindsText, FindsTextPrefix, StripsPrefix, SplitsAroundMatch}
use Rattle.std.proofs.lemmas.Bool.{and_parts, cases_lt}
use Rattle.std.proofs.lemmas.Bool.Decides.{nat_tests}
use Rattle.std.proofs.lemmas.List.{length-append, nil_from_length, drop_at}
use Rattle.std.proofs.lemmas.Str.{chars-append, chars-IsAscii, encodes-IsAscii, encodes-chars, encodes-append, IsUtf8-from_ascii, length-le-encodes}
use Rattle.std.specs.Map.{lookup}
use Rattle.std.proofs.lemmas.Bool.Decides.{same_from_decides}
use Rattle.std.proofs.lemmas.Slice.Eq.{bytes_eq-Decides}
use Rattle.reading.specs.Reading.{past_text, Reads}
use Rattle.xml_definitions.specs.Spelling.{entities, entity}
use Rattle.std.proofs.lemmas.Str.Ascii.{IsAscii-nil, IsAscii-cons}
use Rattle.std.proofs.lemmas.Str.Pattern.{split_text_parts}
use Rattle.reading.specs.Characters.{is_ascii}
use Rattle.xhtml_items.specs.Reading.{split_once}
use Rattle.xhtml_items.specs.Machinery.Items.{past_capital, past_capitals}
use Rattle.xhtml_items.specs.Tokens.{text_view, two_texts, entry}
use Rattle.xhtml_items.proofs.StepLaws.{none_from, past_text_takes, past_text_again, split_again, split_none}

pub IsAscii-from_test : (bytes : List ℕ) → is_ascii bytes ≡ true → IsAscii bytes
IsAscii-from_test [] h = IsAscii-nil
IsAscii-from_test (b ∷ bytes) h =
    let p = and_parts (ltb b 128) (is_ascii bytes) h in
    let small = p.0 in
    IsAscii-cons b bytes (grind (arith, nat_tests)) (IsAscii-from_test bytes p.1)

-- a word of ASCII and characters after it, as bytes
word_bytes : (before word after : List ℕ) → IsAscii word → encode_utf8_all (before ++ (word ++ after)) ≡ encode_utf8_all before ++ (word ++ encode_utf8_all after)
word_bytes before word after ascii =
    encodes-append before (word ++ after) ∙ ap (λ (t : List ℕ). encode_utf8_all before ++ t) (encodes-append word after ∙ ap (λ (t : List ℕ). t ++ encode_utf8_all after) (encodes-IsAscii word ascii))

word_chars : (word rest : List ℕ) → IsAscii word → chars (word ++ rest) ≡ word ++ chars rest
word_chars word rest ascii = chars-append word rest (IsUtf8-from_ascii word ascii) ∙ ap (λ (t : List ℕ). t ++ chars rest) (chars-IsAscii word ascii)

-- `strip_prefix` of a word of ASCII
pub strip_word : (word text : List ℕ) (r : Option (Bor (List ℕ))) → is_ascii word ≡ true → IsUtf8 text
    → MatchOption r (FindsTextPrefix word text None) (λ x. StripsPrefix (FindsTextPrefix word) text x.now) → Reads text_view r (past_text word (chars text))
strip_word word text None small utf8 h = none_from _ (λ w e. lacks w (past_text_takes word (chars text) w e))
  where
    lacks : (w : List ℕ) → chars text ≡ word ++ w → ⊥
    lacks w e = h (encode_utf8_all w) (sym (encodes-chars text utf8) ∙ ap encode_utf8_all e ∙ word_bytes [] word w (IsAscii-from_test word small))
strip_word word text (Some x) small utf8 h =
    let parts : text ≡ word ++ x.now = h.1.1 ∙ ap (λ (t : List ℕ). word ++ t) (sym h.2) in
    ap (past_text word) (ap chars parts ∙ word_chars word x.now (IsAscii-from_test word small)) ∙ past_text_again word (chars x.now)

-- a word that stands in a front, with the word behind it, stands there in the whole text
seam : (text inside stop rest before after : List ℕ) → text ≡ inside ++ (stop ++ rest) → inside ++ stop ≡ before ++ (stop ++ after)
    → drop (length before) text ≡ stop ++ (after ++ rest)
seam text inside stop rest before after parts e =
    let whole : text ≡ before ++ (stop ++ (after ++ rest)) =
    parts ∙ sym (append_assoc inside stop rest) ∙ ap (λ (t : List ℕ). t ++ rest) e ∙ append_assoc before (stop ++ after) rest ∙ ap (λ (t : List ℕ). before ++ t) (append_assoc stop after rest) in
    ap (λ (t : List ℕ). drop (length before) t) whole ∙ drop_at before (stop ++ (after ++ rest)) (length before) refl

-- `split_once` at a word of ASCII
pub split_word : (stop text : List ℕ) (r : Option (Bor (List ℕ) × Bor (List ℕ))) → is_ascii stop ≡ true → stop ≢ [] → IsUtf8 text → IfSome r (λ x. IsUtf8 x.0.now)
    → MatchOption r (FindsText stop text None) (λ x. SplitsAroundMatch (FindsText stop) text x.0.now x.1.now) → Reads two_texts r (split_once stop (chars text))
split_word stop text None small filled utf8 front h = split_none stop (chars text) (λ before after e. lacks before after e)
  where
    lacks : (before after : List ℕ) → chars text ≡ before ++ (stop ++ after) → ⊥
    lacks before after e =
        let bytes : text ≡ encode_utf8_all before ++ (stop ++ encode_utf8_all after) = sym (encodes-chars text utf8) ∙ ap encode_utf8_all e ∙ word_bytes before stop after (IsAscii-from_test stop small) in
        h (length (encode_utf8_all before)) (omega (arith, ap length bytes, length-append (encode_utf8_all before) (stop ++ encode_utf8_all after))) (encode_utf8_all after)
        (ap (λ (t : List ℕ). drop (length (encode_utf8_all before)) t) bytes ∙ drop_at (encode_utf8_all before) (stop ++ encode_utf8_all after) _ refl)
split_word stop text (Some x) small filled utf8 front h =
    let ascii = IsAscii-from_test stop small in
    let parts : text ≡ x.0.now ++ (stop ++ x.1.now) = split_text_parts stop text (Some x) h in
    let shown : chars text ≡ chars x.0.now ++ (stop ++ chars x.1.now) =
    ap chars parts ∙ chars-append x.0.now (stop ++ x.1.now) front ∙ ap (λ (t : List ℕ). chars x.0.now ++ t) (word_chars stop x.1.now ascii) in
    ap (split_once stop) shown ∙ split_again stop (chars x.0.now) (chars x.1.now) (some stop filled) (λ before after e. nothing ascii parts before after e)
  where
    some : (word : List ℕ) → word ≢ [] → 0 < length word
    some [] h = absurd (h refl)
    some (c ∷ cs) h = omega arith

    reaches : (k : ℕ) (w : List ℕ) → drop k text ≡ stop ++ w → length x.0.now ≤ k
    reaches k w e = elim (cases_lt k (length x.0.now)) [ inl lt ↦ absurd (h.2.0 k (let same = h.6 in omega arith) w e) | inr le ↦ le ]

    nothing : IsAscii stop → text ≡ x.0.now ++ (stop ++ x.1.now) → (before after : List ℕ) → chars x.0.now ++ stop ≡ before ++ stop ++ after → after ≡ []
    nothing ascii parts before after e =
        let bytes : x.0.now ++ stop ≡ encode_utf8_all before ++ (stop ++ encode_utf8_all after) =
        ap (λ (t : List ℕ). t ++ stop) (sym (encodes-chars x.0.now front)) ∙ ap (λ (t : List ℕ). encode_utf8_all (chars x.0.now) ++ t) (sym (encodes-IsAscii stop ascii))
        ∙ sym (encodes-append (chars x.0.now) stop) ∙ ap encode_utf8_all (e ∙ append_assoc before stop after) ∙ word_bytes before stop after ascii in
        let later : length x.0.now ≤ length (encode_utf8_all before) = reaches (length (encode_utf8_all before)) (encode_utf8_all after ++ x.1.now) (seam text x.0.now stop x.1.now (encode_utf8_all before) (encode_utf8_all after) parts bytes) in
        nil_from_length after (omega (arith, ap length bytes, length-append x.0.now stop, length-append (encode_utf8_all before) (stop ++ encode_utf8_all after), length-append stop (encode_utf8_all after), length-le-encodes after))

-- A word of capitals, letter by letter.

pub capitals_step : (word : List ℕ) (i : ℕ) (cs rest : List ℕ) → i < length word → past_capital (get_or word i 0) cs ≡ Some rest
    → past_capitals (drop i word) cs ≡ past_capitals (drop (i + 1) word) rest
capitals_step word i cs rest lt e = rw (add-one, drop-cons word i 0, e) refl

pub capitals_none : (word : List ℕ) (i : ℕ) (cs : List ℕ) → i < length word → past_capital (get_or word i 0) cs ≡ None → past_capitals (drop i word) cs ≡ None
capitals_none word i cs lt e = rw (drop-cons word i 0, e) refl

pub capitals_end : (word : List ℕ) (i : ℕ) (cs : List ℕ) → length word ≤ i → past_capitals (drop i word) cs ≡ Some cs
capitals_end word i cs le = rw (drop_of_length-le word le) refl

-- A table by names of ASCII, searched by bytes.

same_name : (bs name : List ℕ) → IsUtf8 bs → is_ascii name ≡ true → bytes_eq bs name ≡ bytes_eq (chars bs) name
same_name bs name utf8 small = same_from_decides (bytes_eq bs name) (bytes_eq (chars bs) name) (bytes_eq-Decides bs name) (to_characters, to_bytes)
  where
    ascii : IsAscii name
    ascii = IsAscii-from_test name small

    to_characters : bytes_eq (chars bs) name ≡ true → bs ≡ name
    to_characters e = sym (encodes-chars bs utf8) ∙ ap encode_utf8_all ((bytes_eq-Decides (chars bs) name).0 e) ∙ encodes-IsAscii name ascii

    to_bytes : bs ≡ name → bytes_eq (chars bs) name ≡ true
    to_bytes e = (bytes_eq-Decides (chars bs) name).1 (ap chars e ∙ chars-IsAscii name ascii)

same_lookup : (table : List (List ℕ × ℕ)) (bs : List ℕ) → IsUtf8 bs → list_all (λ (e : List ℕ × ℕ). is_ascii e.0) table ≡ true
    → lookup (bytes_eq (chars bs)) table ≡ lookup (bytes_eq bs) table
same_lookup [] bs utf8 all = refl
same_lookup (entry ∷ table) bs utf8 all =
    let p = and_parts (is_ascii entry.0) (list_all (λ (e : List ℕ × ℕ). is_ascii e.0) table) all in
    rw (same_name bs entry.0 utf8 p.0, same_lookup table bs utf8 p.1) refl

pub entity_by_bytes : (name : List ℕ) → IsUtf8 name → entity (chars name) ≡ lookup (bytes_eq name) entities
unfolding entities
entity_by_bytes name utf8 = same_lookup entities name utf8 refl

-- A table, entry by entry.

pub look_on : (table : List (Bor (List ℕ) × ℕ)) (name : List ℕ) (i : ℕ) (d : Bor (List ℕ) × ℕ) → i < length table → bytes_eq name (get_or table i d).0.now ≡ false
    → lookup (bytes_eq name) (map entry (drop i table)) ≡ lookup (bytes_eq name) (map entry (drop (i + 1) table))
look_on table name i d lt e = rw (add-one, drop-cons table i d, e) refl

pub look_here : (table : List (Bor (List ℕ) × ℕ)) (name : List ℕ) (i : ℕ) (d : Bor (List ℕ) × ℕ) → i < length table → bytes_eq name (get_or table i d).0.now ≡ true
    → lookup (bytes_eq name) (map entry (drop i table)) ≡ Some (get_or table i d).1
look_here table name i d lt e = rw (drop-cons table i d, e) refl
