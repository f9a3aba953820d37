-- The bytes of the lines of counters.
use Rattle.std.proofs.Common.{◌≡◌, ℕ, ℤ, List, [], ◌∷◌, ◌++◌, codes, refl, sym, ap, ◌∙◌, encode_utf8_all}
use Rattle.std.proofs.lemmas.Str.{encodes-append, encodes-IsAscii}
use Rattle.std.proofs.Math.Utf8.{encode}
use Rattle.std.specs.Fmt.{signed_decimal}
use Rattle.std.specs.Str.{IsAscii}
use Rattle.dump_definitions.specs.Dump.{kind_name, path_text, quoted}
use Rattle.forest.specs.Forest.{Forest}
use Rattle.forest.specs.Keys.{Keyed}
use Rattle.forest.specs.Paths.{path_of}
use Rattle.plain_types.specs.declared.counter.Counter.{Counter}
use Rattle.plain_types.specs.declared.node.Node.{Node}
use Rattle.why_report.specs.Accounts.{counter_line}
use Rattle.plain_types.specs.declared.box_kind.BoxKind.{BoxKind}
use Rattle.plain_types.specs.declared.box_kind.BoxKind.TheVariants.{Element, Marker, Before, After}

-- a kind's name between two spaces
kind_bytes : (kind : BoxKind) (rest : List ℕ) → (32 ∷ (kind_name kind ++ 32 ∷ [])) ++ encode_utf8_all rest ≡ encode_utf8_all (32 ∷ (kind_name kind ++ 32 ∷ rest))
unfolding encode
kind_bytes Element rest = refl
kind_bytes Marker rest = refl
kind_bytes Before rest = refl
kind_bytes After rest = refl

space_bytes : (rest : List ℕ) → 32 ∷ encode_utf8_all rest ≡ encode_utf8_all (32 ∷ rest)
unfolding encode
space_bytes rest = refl

word_bytes : (rest : List ℕ) → codes "counter " ++ encode_utf8_all rest ≡ encode_utf8_all (codes "counter " ++ rest)
unfolding encode
word_bytes rest = refl

pub value_bytes : (value : ℤ) (digits : List ℕ) → digits ≡ signed_decimal value → IsAscii digits → digits ++ 10 ∷ [] ≡ encode_utf8_all (signed_decimal value ++ 10 ∷ [])
unfolding encode
value_bytes value digits is ascii =
    ap (λ bs. bs ++ 10 ∷ []) (sym (encodes-IsAscii digits ascii) ∙ ap encode_utf8_all is) ∙ sym (encodes-append (signed_decimal value) (10 ∷ []))

-- a line in its parts
pub counter_bytes : (document : Forest (Keyed Node)) (counter : Counter)
    → codes "counter " ++ (encode_utf8_all (quoted counter.name) ++ ((32 ∷ []) ++ (encode_utf8_all (path_text (path_of document counter.creator.key))
    ++ ((32 ∷ (kind_name counter.creator.kind ++ 32 ∷ [])) ++ encode_utf8_all (signed_decimal counter.value ++ 10 ∷ [])))))
    ≡ encode_utf8_all (counter_line document counter)
counter_bytes document counter =
    let path = path_text (path_of document counter.creator.key) in
    let last = signed_decimal counter.value ++ 10 ∷ [] in
    let from_kind = 32 ∷ (kind_name counter.creator.kind ++ 32 ∷ last) in
    let shown = encode_utf8_all (quoted counter.name) in
    ap (λ bs. codes "counter " ++ (shown ++ 32 ∷ (encode_utf8_all path ++ bs))) (kind_bytes counter.creator.kind last)
    ∙ ap (λ bs. codes "counter " ++ (shown ++ 32 ∷ bs)) (sym (encodes-append path from_kind))
    ∙ ap (λ bs. codes "counter " ++ (shown ++ bs)) (space_bytes (path ++ from_kind))
    ∙ ap (λ bs. codes "counter " ++ bs) (sym (encodes-append (quoted counter.name) (32 ∷ (path ++ from_kind))))
    ∙ word_bytes (quoted counter.name ++ 32 ∷ (path ++ from_kind))
