-- Woven pieces are spelled, and read one by one.
use Rattle.std.proofs.Common.{◌≡◌, ◌⊎◌, inl, inr, ℕ, ◌<◌, ◌-◌, true, false, List, [], ◌∷◌, ◌++◌, Option, Some, None, length, take, drop, refl, sym, ap, subst, ◌∙◌, append_assoc, append-nil, codes, arith}
use Rattle.std.proofs.lemmas.Grind.{flat_map-append}
use Rattle.std.specs.List.{flat_map}
use Rattle.bake_definitions.specs.Pieces.{AreSpelled, Piece, characters_of, piece, read_of}
use Rattle.bake_definitions.specs.Woven.{at_next, at_piece, end_piece, opened, tags_in, woven}
use Rattle.baked_text.proofs.Apart.{Joins, joins_other, joins_plain, parts_read}
use Rattle.baked_text.proofs.Clean.{AreClean, clean_append, clean_reads, clean_spelled, end_clean, placed_clean}
use Rattle.baked_text.proofs.EndLaws.{ended}
use Rattle.baked_text.proofs.Growing.{before_slash}
use Rattle.baked_text.proofs.Puts.{AllPlaced, Placed, both_placed, next_placed, placed_drop, placed_pieces}
use Rattle.plain_types.specs.declared.attr.Attr.{Attr}
use Rattle.xhtml_items.proofs.ItemLaws.{item_filled}
use Rattle.xhtml_reader.specs.Machinery.LineEnds.{begins_with_line_feed}
use Rattle.xml_definitions.specs.Items.{Item, doctype, comment, instruction, start_tag, empty_tag, end_tag, reference, section, plain_character}
use Rattle.xml_definitions.specs.Normalized.{with_line_feeds}
use Rattle.xml_definitions.specs.Spelling.{IsName, IsTag, Spells}

-- The first character of a text.

abbrev pub head_of : List ℕ → Option ℕ
head_of [] = None
head_of (c ∷ cs) = Some c

head_front : (front rest more : List ℕ) → 0 < length front → head_of (front ++ rest) ≡ head_of (front ++ more)
head_front [] rest more some = absurd (omega arith)
head_front (c ∷ front) rest more some = refl

read_filled : (characters : List ℕ) → 0 < length (with_line_feeds characters) → 0 < length characters
read_filled [] some = some
read_filled (c ∷ cs) some = omega arith

-- An empty-element tag that is opened.

pub record OpenedTag (name : List ℕ) (attrs : List Attr) (p : Piece) : Type 0 where
  pub front : List ℕ
  pub parts : p.characters ≡ front ++ codes "/>"
  pub start_is : take (length p.characters - 2) p.characters ≡ front
  pub filled : 0 < length front
  pub spelled : IsTag (codes ">") (with_line_feeds (front ++ codes ">")) name attrs

pub opened_tag : (name : List ℕ) (attrs : List Attr) (p : Piece) → IsTag (codes "/>") (read_of p) name attrs → OpenedTag name attrs p
opened_tag name attrs p tag =
    let e = ended p.characters (codes "<" ++ name ++ tag.written ++ tag.blanks) tag.parts in
    record {
      front = e.before;
      parts = e.parts;
      start_is = ap (λ t. take (length t - 2) t) e.parts ∙ before_slash e.before;
      filled = read_filled e.before (omega (arith, ap length e.reads));
      spelled = record {
        written = tag.written;
        blanks = tag.blanks;
        named = tag.named;
        attributes = tag.attributes;
        distinct = tag.distinct;
        blank = tag.blank;
        parts = joins_plain e.before (codes ">") refl ∙ ap (λ t. t ++ codes ">") e.reads;
      };
    }

-- Where a piece begins.

first_head : (p : Piece) (more rest pieces : List Piece) → 0 < length p.characters → head_of (characters_of ((p ∷ more) ++ rest)) ≡ head_of (characters_of (p ∷ pieces))
first_head p more rest pieces some = head_front p.characters (characters_of (more ++ rest)) (characters_of pieces) some

-- the head of a text with insertions is that of the text, or of an insertion
abbrev HeadIs : List Piece → List Piece → Type 0
HeadIs out pieces = (head_of (characters_of out) ≡ head_of (characters_of pieces)) ⊎ (head_of (characters_of out) ≡ Some 60)

end_head : (p : Piece) (placed : List Placed) (put rest pieces : List Piece) → put ≡ flat_map placed_pieces placed → 0 < length p.characters → HeadIs ((put ++ p ∷ []) ++ rest) (p ∷ pieces)
end_head p [] put rest pieces is some = inl (ap (λ t. head_of (characters_of ((t ++ p ∷ []) ++ rest))) is ∙ first_head p [] rest pieces some)
end_head p (q ∷ placed) put rest pieces is some = inr (ap (λ t. head_of (characters_of ((t ++ p ∷ []) ++ rest))) is)

opened_head : (name : List ℕ) (attrs : List Attr) (p : Piece) (placed : List Placed) (put rest pieces : List Piece) → OpenedTag name attrs p → put ≡ flat_map placed_pieces placed → 0 < length p.characters
    → head_of (characters_of (opened name attrs p put ++ rest)) ≡ head_of (characters_of (p ∷ pieces))
opened_head name attrs p [] put rest pieces tag is some = ap (λ t. head_of (characters_of (opened name attrs p t ++ rest))) is ∙ first_head p [] rest pieces some
opened_head name attrs p (q ∷ placed) put rest pieces tag is some =
    let more = (flat_map placed_pieces (q ∷ placed) ++ end_piece name ∷ []) ++ rest in
    ap (λ t. head_of (characters_of (opened name attrs p t ++ rest))) is
    ∙ ap (λ t. head_of ((t ++ codes ">") ++ characters_of more)) tag.start_is
    ∙ ap head_of (append_assoc tag.front (codes ">") (characters_of more))
    ∙ head_front tag.front (codes ">" ++ characters_of more) (codes "/>" ++ characters_of pieces) tag.filled
    ∙ ap head_of (sym (append_assoc tag.front (codes "/>") (characters_of pieces)))
    ∙ ap (λ t. head_of (t ++ characters_of pieces)) (sym tag.parts)

item_head : (item : Item) (p : Piece) (puts : List (List Piece)) (rest pieces : List Piece) → AllPlaced IsName puts → Spells (read_of p) item → 0 < length p.characters → HeadIs (at_piece item p puts ++ rest) (p ∷ pieces)
item_head doctype p puts rest pieces a s some = inl (first_head p [] rest pieces some)
item_head comment p puts rest pieces a s some = inl (first_head p [] rest pieces some)
item_head instruction p puts rest pieces a s some = inl (first_head p [] rest pieces some)
item_head (start_tag name attrs) p puts rest pieces a s some = inl (first_head p (at_next puts) rest pieces some)
item_head (empty_tag name attrs) p puts rest pieces a s some =
    let both = both_placed IsName (next_placed IsName puts a) (next_placed IsName (drop 1 puts) (placed_drop IsName 1 puts a)) in
    inl (opened_head name attrs p both.placed (at_next puts ++ at_next (drop 1 puts)) rest pieces (opened_tag name attrs p s) both.pieces_are some)
item_head (end_tag name) p puts rest pieces a s some = let next = next_placed IsName puts a in end_head p next.placed (at_next puts) rest pieces next.pieces_are some
item_head (reference c) p puts rest pieces a s some = inl (first_head p [] rest pieces some)
item_head (section inside) p puts rest pieces a s some = inl (first_head p [] rest pieces some)
item_head (plain_character c) p puts rest pieces a s some = inl (first_head p [] rest pieces some)

pub woven_head : (pieces : List Piece) (puts : List (List Piece)) → AllPlaced IsName puts → AreSpelled pieces
    → (head_of (characters_of (woven pieces puts)) ≡ head_of (characters_of pieces)) ⊎ (head_of (characters_of (woven pieces puts)) ≡ Some 60)
woven_head [] puts a s = inl refl
woven_head (p ∷ pieces) puts a s =
    item_head p.item p puts (woven pieces (drop (tags_in p.item) puts)) pieces a s.0 (read_filled p.characters (item_filled p.item (read_of p) s.0))

line_feed_head : (xs : List ℕ) → begins_with_line_feed xs ≡ true → (ys : List ℕ) → (head_of xs ≡ head_of ys) ⊎ (head_of xs ≡ Some 60) → begins_with_line_feed ys ≡ true
line_feed_head [] h ys same = absurd cc
line_feed_head (x ∷ xs) h [] (inl same) = absurd cc
line_feed_head (x ∷ xs) h (y ∷ ys) (inl same) = let one : x ≡ y = cc in ap (λ c. begins_with_line_feed (c ∷ [])) (sym one) ∙ h
line_feed_head (x ∷ xs) h ys (inr other) = let one : x ≡ 60 = cc in absurd (let no : false ≡ true = sym (ap (λ c. begins_with_line_feed (c ∷ [])) one) ∙ h in cc)

-- Reading.

abbrev read_all : List Piece → List ℕ
read_all pieces = flat_map read_of pieces

-- what a piece with its insertions reads as, before this
abbrev ReadsBefore : List Piece → List ℕ → Type 0
ReadsBefore pieces after = with_line_feeds (characters_of pieces ++ after) ≡ read_all pieces ++ with_line_feeds after

placed_head : (placed : List Placed) (after : List ℕ) → begins_with_line_feed (characters_of (flat_map placed_pieces placed) ++ after) ≡ true → begins_with_line_feed after ≡ true
placed_head [] after h = h
placed_head (q ∷ placed) after h = absurd cc

reads_start : (p : Piece) (pieces : List Piece) (placed : List Placed) (after : List ℕ) → pieces ≡ flat_map placed_pieces placed → AreClean pieces → Joins p.characters after → ReadsBefore (p ∷ pieces) after
reads_start p pieces placed after are clean joins =
    let begins : begins_with_line_feed (characters_of pieces ++ after) ≡ true → begins_with_line_feed after ≡ true =
    λ h. placed_head placed after (ap (λ t. begins_with_line_feed (characters_of t ++ after)) (sym are) ∙ h) in
    ap with_line_feeds (append_assoc p.characters (characters_of pieces) after)
    ∙ joins_other p.characters after (characters_of pieces ++ after) joins begins
    ∙ ap (λ t. read_of p ++ t) (clean_reads pieces after clean)
    ∙ sym (append_assoc (read_of p) (read_all pieces) (with_line_feeds after))

reads_one : (p : Piece) (after : List ℕ) → Joins p.characters after → ReadsBefore (p ∷ []) after
reads_one p after joins = reads_start p [] [] after refl tt joins

reads_end : (p : Piece) (pieces : List Piece) (after : List ℕ) → AreClean pieces → Joins p.characters after → ReadsBefore (pieces ++ p ∷ []) after
reads_end p pieces after clean joins =
    ap (λ t. with_line_feeds (t ++ after)) (flat_map-append (λ (q : Piece). q.characters) pieces (p ∷ []))
    ∙ ap with_line_feeds (append_assoc (characters_of pieces) (characters_of (p ∷ [])) after)
    ∙ clean_reads pieces (characters_of (p ∷ []) ++ after) clean
    ∙ ap (λ t. read_all pieces ++ t) (reads_one p after joins)
    ∙ sym (append_assoc (read_all pieces) (read_all (p ∷ [])) (with_line_feeds after))
    ∙ ap (λ t. t ++ with_line_feeds after) (sym (flat_map-append read_of pieces (p ∷ [])))

reads_opened : (name : List ℕ) (attrs : List Attr) (p : Piece) (placed : List Placed) (pieces : List Piece) (after : List ℕ) → OpenedTag name attrs p → pieces ≡ flat_map placed_pieces placed → AreClean pieces
    → Joins p.characters after → ReadsBefore (opened name attrs p pieces) after
reads_opened name attrs p [] pieces after tag are clean joins = subst (λ t. ReadsBefore (opened name attrs p t) after) (sym are) (reads_one p after joins)
reads_opened name attrs p (q ∷ placed) pieces after tag are clean joins =
    let all = flat_map placed_pieces (q ∷ placed) in
    let start = piece (take (length p.characters - 2) p.characters ++ codes ">") (start_tag name attrs) in
    let more = all ++ end_piece name ∷ [] in
    let clean_all : AreClean all = subst (λ t. AreClean t) are clean in
    let clean_more = clean_append all (end_piece name ∷ []) clean_all (end_clean name tag.spelled.named, tt) in
    let whole : ReadsBefore (start ∷ more) after =
    ap with_line_feeds (append_assoc start.characters (characters_of more) after)
    ∙ joins_plain start.characters (characters_of more ++ after) refl
    ∙ ap (λ t. read_of start ++ t) (clean_reads more after clean_more)
    ∙ sym (append_assoc (read_of start) (read_all more) (with_line_feeds after)) in
    subst (λ t. ReadsBefore (opened name attrs p t) after) (sym are) whole

reads_item : (item : Item) (p : Piece) (puts : List (List Piece)) (after : List ℕ) → AllPlaced IsName puts → Spells (read_of p) item → Joins p.characters after → ReadsBefore (at_piece item p puts) after
reads_item doctype p puts after a s joins = reads_one p after joins
reads_item comment p puts after a s joins = reads_one p after joins
reads_item instruction p puts after a s joins = reads_one p after joins
reads_item (start_tag name attrs) p puts after a s joins =
    let next = next_placed IsName puts a in
    reads_start p (at_next puts) next.placed after next.pieces_are (subst (λ t. AreClean t) (sym next.pieces_are) (placed_clean next.placed next.fit)) joins
reads_item (empty_tag name attrs) p puts after a s joins =
    let both = both_placed IsName (next_placed IsName puts a) (next_placed IsName (drop 1 puts) (placed_drop IsName 1 puts a)) in
    reads_opened name attrs p both.placed (at_next puts ++ at_next (drop 1 puts)) after (opened_tag name attrs p s) both.pieces_are
    (subst (λ t. AreClean t) (sym both.pieces_are) (placed_clean both.placed both.fit)) joins
reads_item (end_tag name) p puts after a s joins =
    let next = next_placed IsName puts a in
    reads_end p (at_next puts) after (subst (λ t. AreClean t) (sym next.pieces_are) (placed_clean next.placed next.fit)) joins
reads_item (reference c) p puts after a s joins = reads_one p after joins
reads_item (section inside) p puts after a s joins = reads_one p after joins
reads_item (plain_character c) p puts after a s joins = reads_one p after joins

pub woven_reads : (pieces : List Piece) (puts : List (List Piece)) → AllPlaced IsName puts → AreSpelled pieces → with_line_feeds (characters_of pieces) ≡ flat_map read_of pieces
    → with_line_feeds (characters_of (woven pieces puts)) ≡ flat_map read_of (woven pieces puts)
woven_reads [] puts a s apart = refl
woven_reads (p ∷ pieces) puts a s apart =
    let parts = parts_read (p ∷ []) pieces apart in
    let others = drop (tags_in p.item) puts in
    let placed = placed_drop IsName (tags_in p.item) puts a in
    let more = woven_reads pieces others placed s.1 parts.second in
    let before : Joins p.characters (characters_of pieces) = subst (λ t. Joins t (characters_of pieces)) (append-nil p.characters) parts.joins in
    let joins = joins_other p.characters (characters_of pieces) (characters_of (woven pieces others)) before (λ h. line_feed_head (characters_of (woven pieces others)) h (characters_of pieces) (woven_head pieces others placed s.1)) in
    ap with_line_feeds (flat_map-append (λ (q : Piece). q.characters) (at_piece p.item p puts) (woven pieces others))
    ∙ reads_item p.item p puts (characters_of (woven pieces others)) a s.0 joins
    ∙ ap (λ t. flat_map read_of (at_piece p.item p puts) ++ t) more
    ∙ sym (flat_map-append read_of (at_piece p.item p puts) (woven pieces others))

-- Spelling.

spelled_append : (pieces more : List Piece) → AreSpelled pieces → AreSpelled more → AreSpelled (pieces ++ more)
spelled_append [] more a b = b
spelled_append (p ∷ pieces) more a b = (a.0, spelled_append pieces more a.1 b)

spelled_opened : (name : List ℕ) (attrs : List Attr) (p : Piece) (placed : List Placed) (pieces : List Piece) → OpenedTag name attrs p → Spells (read_of p) p.item → pieces ≡ flat_map placed_pieces placed → AreSpelled pieces
    → AreSpelled (opened name attrs p pieces)
spelled_opened name attrs p [] pieces tag s are spelled = subst (λ t. AreSpelled (opened name attrs p t)) (sym are) (s, tt)
spelled_opened name attrs p (q ∷ placed) pieces tag s are spelled =
    let all = flat_map placed_pieces (q ∷ placed) in
    let end = clean_spelled (end_piece name ∷ []) (end_clean name tag.spelled.named, tt) in
    let whole : AreSpelled (opened name attrs p all) =
    (subst (λ t. IsTag (codes ">") (with_line_feeds (t ++ codes ">")) name attrs) (sym tag.start_is) tag.spelled, spelled_append all (end_piece name ∷ []) (subst (λ t. AreSpelled t) are spelled) end) in
    subst (λ t. AreSpelled (opened name attrs p t)) (sym are) whole

spelled_item : (item : Item) (p : Piece) (puts : List (List Piece)) → AllPlaced IsName puts → p.item ≡ item → Spells (read_of p) item → AreSpelled (at_piece item p puts)
spelled_item doctype p puts a is s = (subst (λ i. Spells (read_of p) i) (sym is) s, tt)
spelled_item comment p puts a is s = (subst (λ i. Spells (read_of p) i) (sym is) s, tt)
spelled_item instruction p puts a is s = (subst (λ i. Spells (read_of p) i) (sym is) s, tt)
spelled_item (start_tag name attrs) p puts a is s =
    let next = next_placed IsName puts a in
    (subst (λ i. Spells (read_of p) i) (sym is) s, clean_spelled (at_next puts) (subst (λ t. AreClean t) (sym next.pieces_are) (placed_clean next.placed next.fit)))
spelled_item (empty_tag name attrs) p puts a is s =
    let both = both_placed IsName (next_placed IsName puts a) (next_placed IsName (drop 1 puts) (placed_drop IsName 1 puts a)) in
    spelled_opened name attrs p both.placed (at_next puts ++ at_next (drop 1 puts)) (opened_tag name attrs p s) (subst (λ i. Spells (read_of p) i) (sym is) s) both.pieces_are
    (clean_spelled (at_next puts ++ at_next (drop 1 puts)) (subst (λ t. AreClean t) (sym both.pieces_are) (placed_clean both.placed both.fit)))
spelled_item (end_tag name) p puts a is s =
    let next = next_placed IsName puts a in
    spelled_append (at_next puts) (p ∷ []) (clean_spelled (at_next puts) (subst (λ t. AreClean t) (sym next.pieces_are) (placed_clean next.placed next.fit))) (subst (λ i. Spells (read_of p) i) (sym is) s, tt)
spelled_item (reference c) p puts a is s = (subst (λ i. Spells (read_of p) i) (sym is) s, tt)
spelled_item (section inside) p puts a is s = (subst (λ i. Spells (read_of p) i) (sym is) s, tt)
spelled_item (plain_character c) p puts a is s = (subst (λ i. Spells (read_of p) i) (sym is) s, tt)

pub woven_spelled : (pieces : List Piece) (puts : List (List Piece)) → AllPlaced IsName puts → AreSpelled pieces → AreSpelled (woven pieces puts)
woven_spelled [] puts a s = tt
woven_spelled (p ∷ pieces) puts a s =
    spelled_append (at_piece p.item p puts) (woven pieces (drop (tags_in p.item) puts)) (spelled_item p.item p puts a refl s.0)
    (woven_spelled pieces (drop (tags_in p.item) puts) (placed_drop IsName (tags_in p.item) puts a) s.1)
