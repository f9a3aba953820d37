-- The bytes of the parts of a line.
use Rattle.std.proofs.Common.{◌≡◌, ◌==◌, ℕ, false, append_assoc, List, [], ◌∷◌, ◌++◌, refl, sym, ◌∙◌, ap, encode_utf8_all, lit<, length}
use Rattle.std.proofs.lemmas.Str.{encode_ascii, encodes-append, encodes-IsAscii}
use Rattle.std.proofs.Math.Utf8.{encode}
use Rattle.std.specs.Fmt.{decimal}
use Rattle.std.specs.List.{flat_map}
use Rattle.std.specs.Str.{IsAscii}
use Rattle.dump_definitions.specs.Dump.{kind_name, line_text, path_text, quoted}
use Rattle.plain_types.specs.declared.box_kind.BoxKind.{BoxKind}
use Rattle.plain_types.specs.declared.box_kind.BoxKind.TheVariants.{Element, Marker, Before, After}
use Rattle.dump_text.proofs.EncodedLemmas.{encodes-flat_map}

-- a position after its slash
pub position_bytes : (position : ℕ) (digits : List ℕ) → digits ≡ decimal position → IsAscii digits
    → 47 ∷ digits ≡ encode_utf8_all (47 ∷ decimal position)
position_bytes position digits is ascii =
    ap (λ ds. 47 ∷ ds) (sym (encodes-IsAscii digits ascii) ∙ ap encode_utf8_all is)
    ∙ ap (λ bs. bs ++ encode_utf8_all (decimal position)) (sym (encode_ascii 47 (lit< tt)))

-- the positions of a node that isn't the root
pub path_bytes : (path : List ℕ) → (length path == 0) ≡ false
    → flat_map (λ position. encode_utf8_all (47 ∷ decimal position)) path ≡ encode_utf8_all (path_text path)
path_bytes [] some = absurd (cc some)
path_bytes (first ∷ rest) some = encodes-flat_map (λ position. 47 ∷ decimal position) (first ∷ rest)

-- a kind's name between two spaces
kind_bytes : (kind : BoxKind) → encode_utf8_all (32 ∷ (kind_name kind ++ 32 ∷ [])) ≡ 32 ∷ (kind_name kind ++ 32 ∷ [])
unfolding encode
kind_bytes Element = refl
kind_bytes Marker = refl
kind_bytes Before = refl
kind_bytes After = refl

-- a line in its parts
pub line_bytes : (path : List ℕ) (kind : BoxKind) (text : List ℕ)
    → encode_utf8_all (path_text path) ++ ((32 ∷ (kind_name kind ++ 32 ∷ [])) ++ (encode_utf8_all (quoted text) ++ 10 ∷ []))
    ≡ encode_utf8_all (line_text (record { path = path; kind = kind; text = text }))
line_bytes path kind text =
    ap (λ bs. encode_utf8_all (path_text path) ++ bs)
    (ap (λ bs. bs ++ (encode_utf8_all (quoted text) ++ 10 ∷ [])) (sym (kind_bytes kind))
    ∙ ap (λ bs. encode_utf8_all (32 ∷ (kind_name kind ++ 32 ∷ [])) ++ (encode_utf8_all (quoted text) ++ (bs ++ []))) (sym (encode_ascii 10 (lit< tt)))
    ∙ ap (λ bs. encode_utf8_all (32 ∷ (kind_name kind ++ 32 ∷ [])) ++ bs) (sym (encodes-append (quoted text) (10 ∷ [])))
    ∙ sym (encodes-append (32 ∷ (kind_name kind ++ 32 ∷ [])) (quoted text ++ 10 ∷ []))
    ∙ ap (λ cs. encode_utf8_all (32 ∷ cs)) (append_assoc (kind_name kind) (32 ∷ []) (quoted text ++ 10 ∷ [])))
    ∙ sym (encodes-append (path_text path) (32 ∷ (kind_name kind ++ 32 ∷ (quoted text ++ 10 ∷ []))))
