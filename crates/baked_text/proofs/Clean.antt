-- Insertions as pieces: each is spelled, and has no carriage return.
use Rattle.std.proofs.Common.{◌≡◌, ℕ, Bool, true, false, ◌&&◌, ◌||◌, not, cond, eqb, inl, inr, List, [], ◌∷◌, ◌++◌, map, refl, sym, ap, subst, ◌∙◌, append_assoc, append-nil, codes, arith}
use Rattle.std.proofs.lemmas.Bool.{and_parts}
use Rattle.std.proofs.lemmas.Bool.Decides.{eqb_tells}
use Rattle.std.proofs.lemmas.List.Folds.{list_all-append}
use Rattle.std.specs.List.{flat_map, list_all, list_any}
use Rattle.bake_definitions.specs.Insertions.{Insertion, as_legal, class_of, inserted_attrs, inserted_characters, inserted_name, is_referred, reference_to}
use Rattle.bake_definitions.specs.Pieces.{AreSpelled, Piece, characters_of, piece, read_of}
use Rattle.bake_definitions.specs.Woven.{character_piece, end_piece, insertion_pieces}
use Rattle.baked_text.proofs.Puts.{AllFit, Placed, placed_pieces}
use Rattle.plain_types.specs.declared.box_kind.BoxKind.{BoxKind}
use Rattle.plain_types.specs.declared.box_kind.BoxKind.TheVariants.{Element, Marker, Before, After}
use Rattle.reading.specs.Characters.{is_blank}
use Rattle.reading.specs.Reading.{span}
use Rattle.xhtml_items.proofs.ItemLaws.{end_tag_spelled}
use Rattle.xhtml_reader.specs.Machinery.LineEnds.{begins_with_line_feed}
use Rattle.xhtml_reader.proofs.Prepares.{first_normalized}
use Rattle.xml_definitions.specs.Characters.{is_character, is_name, is_name_character, is_name_start, is_plain}
use Rattle.xml_definitions.specs.Items.{ArePieces, plain_character, reference, start_tag}
use Rattle.xml_definitions.specs.Normalized.{with_line_feeds}
use Rattle.xml_definitions.specs.Spelling.{IsAttribute, IsName, IsTag, IsValuePart, Spells, as_read, decimal_reference, entities, entity_reference, is_legal, written_character}

-- there is no carriage return
abbrev pub unreturned : List ℕ → Bool
unreturned cs = list_all (λ c. not (eqb c 13)) cs

negated : (b : Bool) → not b ≡ true → b ≡ false
negated true e = absurd cc
negated false e = refl

pub reads_same : (xs ys : List ℕ) → unreturned xs ≡ true → with_line_feeds (xs ++ ys) ≡ xs ++ with_line_feeds ys
reads_same [] ys h = refl
reads_same (c ∷ xs) ys h =
    let p = and_parts (not (eqb c 13)) (unreturned xs) h in
    first_normalized c (xs ++ ys)
    ∙ ap (λ b. cond (b && begins_with_line_feed (xs ++ ys)) [] (cond b 10 c ∷ []) ++ with_line_feeds (xs ++ ys)) (negated (eqb c 13) p.0)
    ∙ ap (λ t. c ∷ t) (reads_same xs ys p.1)

all_append : (xs ys : List ℕ) → unreturned xs ≡ true → unreturned ys ≡ true → unreturned (xs ++ ys) ≡ true
all_append xs ys h k = list_all-append (λ c. not (eqb c 13)) xs ys ∙ rw (h, k) refl

-- Pieces.

abbrev pub IsClean : Piece → Type 0
IsClean p = (unreturned p.characters ≡ true) × Spells p.characters p.item

abbrev pub AreClean : List Piece → Type 0
AreClean [] = Unit {0}
AreClean (p ∷ pieces) = IsClean p × AreClean pieces

pub clean_append : (pieces more : List Piece) → AreClean pieces → AreClean more → AreClean (pieces ++ more)
clean_append [] more a b = b
clean_append (p ∷ pieces) more a b = (a.0, clean_append pieces more a.1 b)

clean_is : (p : Piece) → IsClean p → read_of p ≡ p.characters
clean_is p clean = ap with_line_feeds (sym (append-nil p.characters)) ∙ reads_same p.characters [] clean.0 ∙ append-nil p.characters

-- they read as they stand, whatever comes after them
pub clean_reads : (pieces : List Piece) (after : List ℕ) → AreClean pieces → with_line_feeds (characters_of pieces ++ after) ≡ flat_map read_of pieces ++ with_line_feeds after
clean_reads [] after clean = refl
clean_reads (p ∷ pieces) after clean =
    ap with_line_feeds (append_assoc p.characters (characters_of pieces) after)
    ∙ reads_same p.characters (characters_of pieces ++ after) clean.0.0
    ∙ ap (λ t. p.characters ++ t) (clean_reads pieces after clean.1)
    ∙ ap (λ t. t ++ (flat_map read_of pieces ++ with_line_feeds after)) (sym (clean_is p clean.0))
    ∙ sym (append_assoc (read_of p) (flat_map read_of pieces) (with_line_feeds after))

pub clean_spelled : (pieces : List Piece) → AreClean pieces → AreSpelled pieces
clean_spelled [] clean = tt
clean_spelled (p ∷ pieces) clean = (subst (λ t. Spells t p.item) (sym (clean_is p clean.0)) clean.0.1, clean_spelled pieces clean.1)

-- Names.

start_unreturned : (c : ℕ) → is_name_start c ≡ true → not (eqb c 13) ≡ true
start_unreturned c h = elim (eqb_tells c 13) [
  | inl same ↦ (let no : is_name_start 13 ≡ true = rw same.1 at h in absurd cc)
  | inr other ↦ ap not other.0
]

character_unreturned : (c : ℕ) → is_name_character c ≡ true → not (eqb c 13) ≡ true
character_unreturned c h = elim (eqb_tells c 13) [
  | inl same ↦ (let no : is_name_character 13 ≡ true = rw same.1 at h in absurd cc)
  | inr other ↦ ap not other.0
]

characters_unreturned : (cs : List ℕ) → list_all is_name_character cs ≡ true → unreturned cs ≡ true
characters_unreturned [] h = refl
characters_unreturned (c ∷ cs) h =
    let p = and_parts (is_name_character c) (list_all is_name_character cs) h in
    let one = character_unreturned c p.0 in
    let more = characters_unreturned cs p.1 in
    rw (one, more) refl

name_unreturned : (name : List ℕ) → is_name name ≡ true → unreturned name ≡ true
name_unreturned [] h = absurd cc
name_unreturned (c ∷ cs) h =
    let p = and_parts (is_name_start c) (list_all is_name_character cs) h in
    let one = start_unreturned c p.0 in
    let more = characters_unreturned cs p.1 in
    rw (one, more) refl

front_passes : (cs : List ℕ) → list_all is_name_character cs ≡ true → list_all is_name_character (span (λ c. not (eqb c 58)) cs).0 ≡ true
unfolding span
front_passes [] h = refl
front_passes (c ∷ cs) h = go (not (eqb c 58)) refl (and_parts (is_name_character c) (list_all is_name_character cs) h) (λ k. front_passes cs k)
  where
    go : (b : Bool) → not (eqb c 58) ≡ b → (is_name_character c ≡ true) × (list_all is_name_character cs ≡ true)
        → (list_all is_name_character cs ≡ true → list_all is_name_character (span (λ d. not (eqb d 58)) cs).0 ≡ true)
        → list_all is_name_character (span (λ d. not (eqb d 58)) (c ∷ cs)).0 ≡ true
    go true e p more = rw e (let one = p.0 in let all = more p.1 in rw (one, all) refl)
    go false e p more = rw e refl

prefixed_name : (name : List ℕ) → is_name name ≡ true → is_name ((span (λ c. not (eqb c 58)) name).0 ++ codes ":span") ≡ true
unfolding span
prefixed_name [] h = absurd cc
prefixed_name (c ∷ cs) h = go (not (eqb c 58)) refl (and_parts (is_name_start c) (list_all is_name_character cs) h)
  where
    go : (b : Bool) → not (eqb c 58) ≡ b → (is_name_start c ≡ true) × (list_all is_name_character cs ≡ true) → is_name ((span (λ d. not (eqb d 58)) (c ∷ cs)).0 ++ codes ":span") ≡ true
    go true e p =
        let start = p.0 in
        let all : list_all is_name_character ((span (λ d. not (eqb d 58)) cs).0 ++ codes ":span") ≡ true =
        list_all-append is_name_character (span (λ d. not (eqb d 58)) cs).0 (codes ":span") ∙ ap (λ b. b && true) (front_passes cs p.1) in
        rw e (rw (start, all) refl)
    go false e p = rw e refl

-- the name of an inserted element is a name
pub name_inserted : (name : List ℕ) → is_name name ≡ true → is_name (inserted_name name) ≡ true
name_inserted name h = go (list_any (λ c. eqb c 58) name)
  where
    go : (b : Bool) → is_name (cond b ((span (λ c. not (eqb c 58)) name).0 ++ 58 ∷ []) [] ++ codes "span") ≡ true
    go true = ap is_name (append_assoc (span (λ c. not (eqb c 58)) name).0 (58 ∷ []) (codes "span")) ∙ prefixed_name name h
    go false = refl

-- The tags of an insertion.

abbrev is_straight_value : ℕ → Bool
is_straight_value c = (is_plain c && not (eqb c 34)) && not (is_blank c)

value_reads : (cs : List ℕ) → list_all is_straight_value cs ≡ true → ArePieces (IsValuePart 34) cs cs
value_reads [] h = refl
value_reads (c ∷ cs) h =
    let p = and_parts (is_straight_value c) (list_all is_straight_value cs) h in
    let q = and_parts (is_plain c && not (eqb c 34)) (not (is_blank c)) p.0 in
    let same : as_read c ≡ c = ap (λ b. cond b 32 c) (negated (is_blank c) q.1) in
    (c ∷ [], cs, subst (λ d. IsValuePart 34 (c ∷ []) d) same (written_character c q.0), value_reads cs p.1, refl)

class_reads : (kind : BoxKind) → list_all is_straight_value (class_of kind) ≡ true
class_reads Element = refl
class_reads Marker = refl
class_reads Before = refl
class_reads After = refl

class_unreturned : (kind : BoxKind) → unreturned (class_of kind) ≡ true
class_unreturned Element = refl
class_unreturned Marker = refl
class_unreturned Before = refl
class_unreturned After = refl

abbrev class_written : BoxKind → List ℕ
class_written kind = codes " class=\"" ++ (class_of kind ++ codes "\"")

class_attribute : (kind : BoxKind) → IsAttribute (class_written kind) (record { name = codes "class"; value = class_of kind })
class_attribute kind = record {
  before = 32 ∷ [];
  after_name = [];
  after_sign = [];
  quote = 34;
  value = class_of kind;
  parted = refl;
  named = refl;
  blanks = (refl, refl);
  quoted = refl;
  reads = value_reads (class_of kind) (class_reads kind);
  parts = refl;
}

abbrev start_characters : List ℕ → BoxKind → List ℕ
start_characters name kind = codes "<" ++ inserted_name name ++ codes " class=\"" ++ class_of kind ++ codes "\">"

start_parts : (front class : List ℕ) → (((codes "<" ++ front) ++ codes " class=\"") ++ class) ++ codes "\">" ≡ (((codes "<" ++ front) ++ (codes " class=\"" ++ (class ++ codes "\""))) ++ []) ++ codes ">"
start_parts front class = simp (append_assoc, append-nil)

start_spelled : (name : List ℕ) (kind : BoxKind) → is_name name ≡ true → IsTag (codes ">") (start_characters name kind) (inserted_name name) (inserted_attrs kind)
start_spelled name kind h = record {
  written = class_written kind;
  blanks = [];
  named = name_inserted name h;
  attributes = (class_written kind, [], class_attribute kind, refl, sym (append-nil (class_written kind)));
  distinct = λ i j d before within. absurd (omega arith);
  blank = refl;
  parts = start_parts (inserted_name name) (class_of kind);
}

start_clean : (name : List ℕ) (kind : BoxKind) → is_name name ≡ true → IsClean (piece (start_characters name kind) (start_tag (inserted_name name) (inserted_attrs kind)))
start_clean name kind h = (
  all_append (codes "<" ++ inserted_name name ++ codes " class=\"" ++ class_of kind) (codes "\">")
      (all_append (codes "<" ++ inserted_name name ++ codes " class=\"") (class_of kind)
      (all_append (codes "<" ++ inserted_name name) (codes " class=\"") (all_append (codes "<") (inserted_name name) refl (name_unreturned (inserted_name name) (name_inserted name h))) refl)
      (class_unreturned kind))
      refl,
  start_spelled name kind h,
)

pub end_clean : (name : List ℕ) → is_name name ≡ true → IsClean (end_piece name)
end_clean name h = (all_append (codes "</" ++ name) (codes ">") (all_append (codes "</") name refl (name_unreturned name h)) refl, end_tag_spelled name h)

-- The characters of an insertion.

ampersand_clean : IsClean (character_piece 38)
unfolding entities
ampersand_clean = (refl, entity_reference (codes "amp") 38 refl)

less_than_clean : IsClean (character_piece 60)
unfolding entities
less_than_clean = (refl, entity_reference (codes "lt") 60 refl)

greater_than_clean : IsClean (character_piece 62)
unfolding entities
greater_than_clean = (refl, entity_reference (codes "gt") 62 refl)

return_clean : IsClean (character_piece 13)
return_clean = (refl, decimal_reference (codes "13") refl refl)

plain_clean : (c : ℕ) → eqb c 38 ≡ false → eqb c 60 ≡ false → eqb c 62 ≡ false → eqb c 13 ≡ false → is_legal c ≡ true → IsClean (character_piece c)
plain_clean c a l g r legal =
    let raw : is_referred c ≡ false = rw (a, l, g, r) refl in
    let character : is_character c ≡ true = ap (λ b. b || is_character c) (sym r) ∙ legal in
    let plain : is_plain c ≡ true = rw (character, l, a) refl in
    subst (λ b. IsClean (cond b (piece (reference_to c) (reference c)) (piece (c ∷ []) (plain_character c)))) (sym raw) (rw r refl, (plain, refl))

pub character_clean : (c : ℕ) → is_legal c ≡ true → IsClean (character_piece c)
character_clean c legal = elim (eqb_tells c 38) [
  | inl e ↦ subst (λ d. IsClean (character_piece d)) (sym e.1) ampersand_clean
  | inr a ↦ elim (eqb_tells c 60) [
    | inl e ↦ subst (λ d. IsClean (character_piece d)) (sym e.1) less_than_clean
    | inr l ↦ elim (eqb_tells c 62) [
      | inl e ↦ subst (λ d. IsClean (character_piece d)) (sym e.1) greater_than_clean
      | inr g ↦ elim (eqb_tells c 13) [
        | inl e ↦ subst (λ d. IsClean (character_piece d)) (sym e.1) return_clean
        | inr r ↦ plain_clean c a.0 l.0 g.0 r.0 legal
      ]
    ]
  ]
]

legal_is : (c : ℕ) → is_legal (as_legal c) ≡ true
legal_is c = go (is_legal c) refl
  where
    go : (b : Bool) → is_legal c ≡ b → is_legal (cond b c 0xfffd) ≡ true
    go true h = h
    go false h = refl

characters_clean : (cs : List ℕ) → AreClean (map character_piece (map as_legal cs))
characters_clean [] = tt
characters_clean (c ∷ cs) = (character_clean (as_legal c) (legal_is c), characters_clean cs)

insertion_clean : (name : List ℕ) (i : Insertion) → is_name name ≡ true → AreClean (insertion_pieces name i)
insertion_clean name i h =
    (start_clean name i.kind h, clean_append (map character_piece (inserted_characters i)) (end_piece (inserted_name name) ∷ []) (characters_clean i.text) (end_clean (inserted_name name) (name_inserted name h), tt))

pub placed_clean : (placed : List Placed) → AllFit IsName placed → AreClean (flat_map placed_pieces placed)
placed_clean [] fit = tt
placed_clean (p ∷ placed) fit = clean_append (placed_pieces p) (flat_map placed_pieces placed) (insertion_clean p.0 p.1 fit.0) (placed_clean placed fit.1)
