-- The bytes of an insertion.
use Rattle.std.proofs.Common.{◌≡◌, ◌≢◌, ℕ, Bool, true, false, not, ◌&&◌, cond, List, [], ◌∷◌, ◌++◌, refl, sym, ap, ◌∙◌, append_assoc, append-nil, codes, encode_utf8_all, map}
use Rattle.std.proofs.lemmas.Bool.{and_parts}
use Rattle.std.proofs.lemmas.Grind.{flat_map-append}
use Rattle.std.proofs.lemmas.Str.{encodes-append}
use Rattle.std.proofs.Math.Utf8.{encode}
use Rattle.std.specs.List.{flat_map}
use Rattle.bake_definitions.specs.Insertions.{as_legal, class_of, inserted_name, is_referred, prefix, reference_to}
use Rattle.bake_definitions.specs.Pieces.{Piece, characters_of, piece}
use Rattle.bake_definitions.specs.Woven.{character_piece, end_piece, insertion_text}
use Rattle.baked_text.specs.Machinery.{is_straight, shown}
use Rattle.baked_text.proofs.SpanLemmas.{other}
use Rattle.plain_types.specs.declared.box_kind.BoxKind.{BoxKind}
use Rattle.plain_types.specs.declared.box_kind.BoxKind.TheVariants.{Element, Marker, Before, After}
use Rattle.reading.specs.Reading.{span}
use Rattle.xml_definitions.specs.Items.{plain_character, reference}
use Rattle.xml_definitions.specs.Spelling.{is_legal}

negated : (b : Bool) → not b ≡ true → b ≡ false
negated true e = absurd cc
negated false e = refl

-- a character that is written as it is
pub shown_straight : (c : ℕ) → is_straight c ≡ true → shown c ≡ c ∷ []
shown_straight c h =
    let p = and_parts (is_legal c) (not (is_referred c)) h in
    let legal : as_legal c ≡ c = ap (λ b. cond b c 0xfffd) p.0 in
    let raw : is_referred c ≡ false = negated (is_referred c) p.1 in
    ap (λ d. (character_piece d).characters) legal ∙ ap (λ b. (cond b (piece (reference_to c) (reference c)) (piece (c ∷ []) (plain_character c))).characters) raw

-- a run of such characters
pub shown_run : (cs : List ℕ) → flat_map shown cs ≡ (span is_straight cs).0 ++ flat_map shown (span is_straight cs).1
unfolding span
shown_run [] = refl
shown_run (c ∷ cs) = go (is_straight c) refl (shown_run cs)
  where
    go : (b : Bool) → is_straight c ≡ b → flat_map shown cs ≡ (span is_straight cs).0 ++ flat_map shown (span is_straight cs).1
        → flat_map shown (c ∷ cs) ≡ (span is_straight (c ∷ cs)).0 ++ flat_map shown (span is_straight (c ∷ cs)).1
    go true h later =
        let front : (span is_straight (c ∷ cs)).0 ≡ c ∷ (span is_straight cs).0 = rw h refl in
        let rest : (span is_straight (c ∷ cs)).1 ≡ (span is_straight cs).1 = rw h refl in
        rw (front, rest) (ap (λ t. t ++ flat_map shown cs) (shown_straight c h) ∙ ap (λ t. c ∷ t) later)
    go false h later =
        let front : (span is_straight (c ∷ cs)).0 ≡ [] = rw h refl in
        let rest : (span is_straight (c ∷ cs)).1 ≡ c ∷ cs = rw h refl in
        rw (front, rest) refl

-- what becomes of a character that no document can have
pub shown_replaced : (c : ℕ) → is_legal c ≡ false → encode_utf8_all (shown c) ≡ 239 ∷ 191 ∷ 189 ∷ []
unfolding encode
shown_replaced c h = ap (λ b. encode_utf8_all ((character_piece (cond b c 0xfffd)).characters)) h

shown_characters : (cs : List ℕ) → characters_of (map character_piece (map as_legal cs)) ≡ flat_map shown cs
shown_characters [] = refl
shown_characters (c ∷ cs) = ap (λ t. shown c ++ t) (shown_characters cs)

-- what stands behind the prefix in the start tag of an insertion
abbrev pub start_end : BoxKind → List ℕ
start_end kind = codes "span class=\"" ++ (class_of kind ++ codes "\">")

-- an insertion in its parts
insertion_parts : (name text : List ℕ) (kind : BoxKind)
    → insertion_text name (record { kind = kind; text = text })
    ≡ (codes "<" ++ (prefix name ++ start_end kind)) ++ (flat_map shown text ++ (codes "</" ++ (prefix name ++ codes "span>")))
insertion_parts name text kind =
    ap (λ t. (codes "<" ++ inserted_name name ++ codes " class=\"" ++ class_of kind ++ codes "\">") ++ t)
    (flat_map-append (λ (p : Piece). p.characters) (map character_piece (map as_legal text)) (end_piece (inserted_name name) ∷ []) ∙ ap (λ t. t ++ characters_of (end_piece (inserted_name name) ∷ [])) (shown_characters text))
    ∙ simp (append_assoc, append-nil)

start_bytes : (kind : BoxKind) → encode_utf8_all (start_end kind) ≡ start_end kind
unfolding encode
start_bytes Element = refl
start_bytes Marker = refl
start_bytes Before = refl
start_bytes After = refl

few_bytes : (encode_utf8_all (codes "<") ≡ codes "<") × (encode_utf8_all (codes "</") ≡ codes "</") × (encode_utf8_all (codes "span>") ≡ codes "span>")
unfolding encode
few_bytes = (refl, refl, refl)

-- and their bytes
pub insertion_bytes : (name text front : List ℕ) (kind : BoxKind) → front ≡ encode_utf8_all (prefix name)
    → (codes "<" ++ (front ++ start_end kind)) ++ (encode_utf8_all (flat_map shown text) ++ (codes "</" ++ (front ++ codes "span>")))
    ≡ encode_utf8_all (insertion_text name (record { kind = kind; text = text }))
insertion_bytes name text front kind is =
    ap (λ f. (codes "<" ++ (f ++ start_end kind)) ++ (encode_utf8_all (flat_map shown text) ++ (codes "</" ++ (f ++ codes "span>")))) is
    ∙ sym (
    ap encode_utf8_all (insertion_parts name text kind)
    ∙ encodes-append (codes "<" ++ (prefix name ++ start_end kind)) (flat_map shown text ++ (codes "</" ++ (prefix name ++ codes "span>")))
    ∙ ap (λ t. t ++ encode_utf8_all (flat_map shown text ++ (codes "</" ++ (prefix name ++ codes "span>"))))
    (encodes-append (codes "<") (prefix name ++ start_end kind) ∙ ap (λ t. t ++ encode_utf8_all (prefix name ++ start_end kind)) few_bytes.0
    ∙ ap (λ t. codes "<" ++ t) (encodes-append (prefix name) (start_end kind) ∙ ap (λ t. encode_utf8_all (prefix name) ++ t) (start_bytes kind)))
    ∙ ap (λ t. (codes "<" ++ (encode_utf8_all (prefix name) ++ start_end kind)) ++ t)
    (encodes-append (flat_map shown text) (codes "</" ++ (prefix name ++ codes "span>"))
    ∙ ap (λ t. encode_utf8_all (flat_map shown text) ++ t)
    (encodes-append (codes "</") (prefix name ++ codes "span>") ∙ ap (λ t. t ++ encode_utf8_all (prefix name ++ codes "span>")) few_bytes.1
    ∙ ap (λ t. codes "</" ++ t) (encodes-append (prefix name) (codes "span>") ∙ ap (λ t. encode_utf8_all (prefix name) ++ t) few_bytes.2)))
    )

-- a character that is neither written as it is nor by reference

and_true : (b : Bool) → (b && true) ≡ false → b ≡ false
and_true true h = absurd cc
and_true false h = refl

pub replaced_bytes : (c : ℕ) → c ≢ 38 → c ≢ 60 → c ≢ 62 → c ≢ 13 → is_straight c ≡ false → 239 ∷ 191 ∷ 189 ∷ [] ≡ encode_utf8_all (shown c)
replaced_bytes c a l g r h =
    let raw : is_referred c ≡ false = rw (other c 38 a, other c 60 l, other c 62 g, other c 13 r) refl in
    sym (shown_replaced c (and_true (is_legal c) (ap (λ b. is_legal c && not b) (sym raw) ∙ h)))

-- a run, and what follows it
pub run_parts : (front rest run after all : List ℕ) → front ++ flat_map shown rest ≡ all → span is_straight rest ≡ (run, after) → (front ++ run) ++ flat_map shown after ≡ all
run_parts front rest run after all parts is =
    append_assoc front run (flat_map shown after)
    ∙ ap (λ t. front ++ t) (sym (shown_run rest ∙ ap (λ t. t.0 ++ flat_map shown t.1) is))
    ∙ parts

-- one character more
pub character_parts : (front after all : List ℕ) (c : ℕ) (next : List ℕ) → front ++ flat_map shown after ≡ all → after ≡ c ∷ next → (front ++ shown c) ++ flat_map shown next ≡ all
character_parts front after all c next parts is = append_assoc front (shown c) (flat_map shown next) ∙ ap (λ t. front ++ flat_map shown t) (sym is) ∙ parts

-- none more
pub last_parts : (front after all : List ℕ) → front ++ flat_map shown after ≡ all → after ≡ [] → front ≡ all
last_parts front after all parts is = sym (append-nil front) ∙ ap (λ t. front ++ flat_map shown t) (sym is) ∙ parts
