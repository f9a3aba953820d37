-- A baked text is the text with insertions.
use Rattle.std.proofs.Common.{◌≡◌, ℕ, ◌-◌, eqb, Bool, true, false, cond, List, [], ◌∷◌, ◌++◌, length, take, drop, refl, sym, ap, subst, ◌∙◌, append_assoc, append-nil, codes, arith}
use Rattle.std.proofs.lemmas.Grind.{flat_map-append}
use Rattle.std.proofs.lemmas.List.{length-append, take_at}
use Rattle.std.specs.List.{flat_map}
use Rattle.bake_definitions.specs.Grown.{AreNamed, IsGrown, at_end, kept, placed_text, put_in, tag_opened}
use Rattle.bake_definitions.specs.Pieces.{AreSpelled, Piece, characters_of, mark_of, read_of}
use Rattle.bake_definitions.specs.Woven.{at_next, at_piece, end_piece, opened, tags_in, woven}
use Rattle.baked_text.proofs.EndLaws.{ended}
use Rattle.baked_text.proofs.Puts.{AllFit, AllPlaced, ArePlaced, Placed, both_placed, next_placed, placed_drop, placed_pieces}
use Rattle.plain_types.specs.declared.attr.Attr.{Attr}
use Rattle.xml_definitions.specs.Items.{Item, doctype, comment, instruction, start_tag, empty_tag, end_tag, reference, section, plain_character}
use Rattle.xml_definitions.specs.Normalized.{with_line_feeds}
use Rattle.reading.specs.Reading.{without_mark}
use Rattle.xml_definitions.specs.Spelling.{IsName, IsTag, Spells}

-- An empty-element tag ends in `/>`, as it stands.
pub slashed : (characters name : List ℕ) (attrs : List Attr) → IsTag (codes "/>") (with_line_feeds characters) name attrs → (front : List ℕ) × (characters ≡ front ++ codes "/>")
slashed characters name attrs tag = let e = ended characters (codes "<" ++ name ++ tag.written ++ tag.blanks) tag.parts in (e.before, e.parts)

pub before_slash : (front : List ℕ) → take (length (front ++ codes "/>") - 2) (front ++ codes "/>") ≡ front
before_slash front = take_at front (codes "/>") _ (omega (arith, length-append front (codes "/>")))

-- Growing, part by part.

pub grown_front : (front : List ℕ) {old new : List ℕ} → IsGrown old new → IsGrown (front ++ old) (front ++ new)
grown_front [] g = g
grown_front (c ∷ front) g = kept c (grown_front front g)

pieces_text : (placed : List Placed) → characters_of (flat_map placed_pieces placed) ≡ flat_map placed_text placed
pieces_text [] = refl
pieces_text (p ∷ placed) = flat_map-append (λ (q : Piece). q.characters) (placed_pieces p) (flat_map placed_pieces placed) ∙ ap (λ t. placed_text p ++ t) (pieces_text placed)

are_named : (placed : List Placed) → AllFit IsName placed → AreNamed placed
are_named [] fit = tt
are_named (p ∷ placed) fit = (fit.0, are_named placed fit.1)

grown_placed : (placed : List Placed) → AllFit IsName placed → {old new : List ℕ} → IsGrown old new → IsGrown old (flat_map placed_text placed ++ new)
grown_placed [] fit g = g
grown_placed (p ∷ placed) fit {old} {new} g =
    subst (λ t. IsGrown old t) (sym (append_assoc (placed_text p) (flat_map placed_text placed) new)) (put_in p fit.0 (grown_placed placed fit.1 g))

grown_pieces : (pieces : List Piece) → ArePlaced IsName pieces → {old new : List ℕ} → IsGrown old new → IsGrown old (characters_of pieces ++ new)
grown_pieces pieces a {old} {new} g = subst (λ t. IsGrown old (t ++ new)) (sym (ap characters_of a.pieces_are ∙ pieces_text a.placed)) (grown_placed a.placed a.fit g)

grown_one : (p : Piece) {old new : List ℕ} → IsGrown old new → IsGrown (p.characters ++ old) (characters_of (p ∷ []) ++ new)
grown_one p {old} {new} g = subst (λ t. IsGrown (p.characters ++ old) (t ++ new)) (sym (append-nil p.characters)) (grown_front p.characters g)

grown_start : (p : Piece) (pieces : List Piece) → ArePlaced IsName pieces → {old new : List ℕ} → IsGrown old new → IsGrown (p.characters ++ old) (characters_of (p ∷ pieces) ++ new)
grown_start p pieces a {old} {new} g =
    subst (λ t. IsGrown (p.characters ++ old) t) (sym (append_assoc p.characters (characters_of pieces) new)) (grown_front p.characters (grown_pieces pieces a g))

grown_end : (p : Piece) (pieces : List Piece) → ArePlaced IsName pieces → {old new : List ℕ} → IsGrown old new → IsGrown (p.characters ++ old) (characters_of (pieces ++ p ∷ []) ++ new)
grown_end p pieces a {old} {new} g =
    subst (λ t. IsGrown (p.characters ++ old) t)
    (sym (ap (λ t. t ++ new) (flat_map-append (λ (q : Piece). q.characters) pieces (p ∷ [])) ∙ append_assoc (characters_of pieces) (characters_of (p ∷ [])) new))
    (grown_pieces pieces a (grown_one p g))

-- the text of a tag that is opened
opened_is : (name : List ℕ) (attrs : List Attr) (p : Piece) (first : Placed) (others : List Placed) (front : List ℕ) → p.characters ≡ front ++ codes "/>"
    → characters_of (opened name attrs p (flat_map placed_pieces (first ∷ others)))
    ≡ front ++ (codes ">" ++ (flat_map placed_text (first ∷ others) ++ (codes "</" ++ name ++ codes ">")))
opened_is name attrs p first others front is =
    let start : take (length p.characters - 2) p.characters ≡ front = ap (λ t. take (length t - 2) t) is ∙ before_slash front in
    ap (λ t. (t ++ codes ">") ++ characters_of (flat_map placed_pieces (first ∷ others) ++ end_piece name ∷ [])) start
    ∙ ap (λ t. (front ++ codes ">") ++ t)
    (flat_map-append (λ (q : Piece). q.characters) (flat_map placed_pieces (first ∷ others)) (end_piece name ∷ [])
    ∙ ap (λ t. t ++ ((codes "</" ++ name ++ codes ">") ++ [])) (pieces_text (first ∷ others))
    ∙ ap (λ t. flat_map placed_text (first ∷ others) ++ t) (append-nil (codes "</" ++ name ++ codes ">")))
    ∙ append_assoc front (codes ">") (flat_map placed_text (first ∷ others) ++ (codes "</" ++ name ++ codes ">"))

grown_opened : (name : List ℕ) → IsName name → (attrs : List Attr) (p : Piece) (placed : List Placed) → AllFit IsName placed → (pieces : List Piece) (front : List ℕ) → pieces ≡ flat_map placed_pieces placed
    → p.characters ≡ front ++ codes "/>" → {old new : List ℕ} → IsGrown old new → IsGrown (p.characters ++ old) (characters_of (opened name attrs p pieces) ++ new)
grown_opened name named attrs p [] fit pieces front are is {old} {new} g = subst (λ t. IsGrown (p.characters ++ old) (characters_of (opened name attrs p t) ++ new)) (sym are) (grown_one p g)
grown_opened name named attrs p (first ∷ others) fit pieces front are is {old} {new} g =
    let text = flat_map placed_text (first ∷ others) in
    let regrouped : front ++ (codes ">" ++ (text ++ (codes "</" ++ name ++ codes ">" ++ new))) ≡ characters_of (opened name attrs p pieces) ++ new =
    sym (
    ap (λ t. characters_of (opened name attrs p t) ++ new) are
    ∙ ap (λ t. t ++ new) (opened_is name attrs p first others front is)
    ∙ append_assoc front (codes ">" ++ (text ++ (codes "</" ++ name ++ codes ">"))) new
    ∙ ap (λ t. front ++ (codes ">" ++ t)) (append_assoc text (codes "</" ++ name ++ codes ">") new)
    ) in
    subst (λ t. IsGrown (p.characters ++ old) t) regrouped
    (subst (λ t. IsGrown t (front ++ (codes ">" ++ (text ++ (codes "</" ++ name ++ codes ">" ++ new))))) (sym (ap (λ t. t ++ old) is ∙ append_assoc front (codes "/>") old))
    (grown_front front (tag_opened name named first others (are_named (first ∷ others) fit) g)))

grown_item : (item : Item) (p : Piece) (puts : List (List Piece)) → AllPlaced IsName puts → Spells (read_of p) item → {old new : List ℕ} → IsGrown old new
    → IsGrown (p.characters ++ old) (characters_of (at_piece item p puts) ++ new)
grown_item doctype p puts a s g = grown_one p g
grown_item comment p puts a s g = grown_one p g
grown_item instruction p puts a s g = grown_one p g
grown_item (start_tag name attrs) p puts a s g = grown_start p (at_next puts) (next_placed IsName puts a) g
grown_item (empty_tag name attrs) p puts a s g =
    let both = both_placed IsName (next_placed IsName puts a) (next_placed IsName (drop 1 puts) (placed_drop IsName 1 puts a)) in
    let slash = slashed p.characters name attrs s in
    grown_opened name s.named attrs p both.placed both.fit (at_next puts ++ at_next (drop 1 puts)) slash.0 both.pieces_are slash.1 g
grown_item (end_tag name) p puts a s g = grown_end p (at_next puts) (next_placed IsName puts a) g
grown_item (reference c) p puts a s g = grown_one p g
grown_item (section inside) p puts a s g = grown_one p g
grown_item (plain_character c) p puts a s g = grown_one p g

pub woven_grows : (pieces : List Piece) (puts : List (List Piece)) → AllPlaced IsName puts → AreSpelled pieces → IsGrown (characters_of pieces) (characters_of (woven pieces puts))
woven_grows [] puts a s = at_end
woven_grows (p ∷ pieces) puts a s =
    subst (λ t. IsGrown (p.characters ++ characters_of pieces) t)
    (sym (flat_map-append (λ (q : Piece). q.characters) (at_piece p.item p puts) (woven pieces (drop (tags_in p.item) puts))))
    (grown_item p.item p puts a s.0 (woven_grows pieces (drop (tags_in p.item) puts) (placed_drop IsName (tags_in p.item) puts a) s.1))

-- a text is its mark and the rest
pub mark_parts : (text : List ℕ) → text ≡ mark_of text ++ without_mark text
mark_parts [] = refl
mark_parts (first ∷ rest) = go (eqb first 0xfeff)
  where
    go : (b : Bool) → first ∷ rest ≡ cond b (first ∷ []) [] ++ cond b rest (first ∷ rest)
    go true = refl
    go false = refl
