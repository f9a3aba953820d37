-- An item with what is put in at its tags, as it is written.
use Rattle.std.proofs.Common.{◌≡◌, ℕ, ◌<◌, ◌≤◌, ◌+◌, ◌-◌, Bool, true, false, ◌&&◌, ◌||◌, not, cond, ltb, ◌⊎◌, inl, inr, List, [], ◌∷◌, ◌++◌, Option, length, get_or, take, drop, map, refl, sym, ap, subst, ◌∙◌, append_assoc, append-nil, codes, encode_utf8_all, arith}
use borrow.Author.Tests.{ltb-false}
use Rattle.std.proofs.lemmas.Grind.{flat_map-append}
use Rattle.std.proofs.lemmas.List.{append_cancel_right, take_all, take-append-drop, take_more}
use Rattle.std.proofs.lemmas.Str.{encodes-append, encodes-chars}
use Rattle.std.proofs.Math.Utf8.{encode}
use Rattle.std.specs.Borrow.{Bor}
use Rattle.std.specs.List.{flat_map}
use Rattle.std.specs.Str.{IsUtf8, chars}
use Rattle.bake_definitions.specs.Insertions.{Insertion, takes_span}
use Rattle.bake_definitions.specs.Pieces.{Piece, characters_of, read_of}
use Rattle.bake_definitions.specs.Tags.{Tag, next_tag}
use Rattle.bake_definitions.specs.Woven.{at_next, at_piece, end_piece, insertion_pieces, insertion_text, opened, tags_in, woven}
use Rattle.baked_text.proofs.Growing.{before_slash, slashed}
use Rattle.baked_text.proofs.OutLemmas.{stops_first, stops_then, went_then}
use Rattle.baked_text.proofs.TagLaws.{put_at_next, put_past}
use Rattle.baked_text.specs.Machinery.{IsPiece, closing, has_some, opening, pieces_at, tag_text, text_at, woven_text}
use Rattle.plain_types.specs.declared.attr.Attr.{Attr}
use Rattle.ports.proofs.GrownLemmas.{front_same}
use Rattle.ports.specs.Grown.{grown, GrowsByFront}
use Rattle.xhtml_items.specs.Tokens.{item_of}
use Rattle.xhtml_items.specs.declared.token.Token.{Token}
use Rattle.xhtml_items.specs.declared.token.Token.TheVariants.{Doctype, Comment, Instruction, StartTag, EmptyTag, EndTag, Reference, Section, Character}
use Rattle.xml_definitions.specs.Items.{Item, doctype, comment, instruction, start_tag, empty_tag, end_tag, reference, section, plain_character}
use Rattle.xml_definitions.specs.Spelling.{Spells}

-- Whether something is put in at a tag.

pub record Somewhat (pieces : List Piece) : Type 0 where
  pub first : Piece
  pub others : List Piece
  pub pieces_are : pieces ≡ first ∷ others

some_in : (name : List ℕ) (insertions : List Insertion) → ltb 0 (length insertions) ≡ true → Somewhat (flat_map (insertion_pieces name) insertions)
some_in name [] some = absurd cc
some_in name (i ∷ insertions) some = record { first = _; others = _; pieces_are = refl }

none_in : (name : List ℕ) (insertions : List Insertion) → ltb 0 (length insertions) ≡ false → flat_map (insertion_pieces name) insertions ≡ []
none_in name [] none = refl
none_in name (i ∷ insertions) none = let le : length (i ∷ insertions) ≤ 0 = ltb-false 0 (length (i ∷ insertions)) none in absurd (omega arith)

-- something, or nothing, and the test tells it
abbrev Told : Bool → List Piece → Type 0
Told test pieces = ((test ≡ true) × Somewhat pieces) ⊎ ((test ≡ false) × (pieces ≡ []))

told : (tag : Tag) → Told (has_some tag) (pieces_at tag)
told tag = go (takes_span tag.name) (ltb 0 (length tag.insertions)) refl
  where
    go : (takes some : Bool) → ltb 0 (length tag.insertions) ≡ some → Told (takes && some) (cond takes (flat_map (insertion_pieces tag.name) tag.insertions) [])
    go true true e = inl (refl, some_in tag.name tag.insertions e)
    go true false e = inr (refl, none_in tag.name tag.insertions e)
    go false some e = inr (refl, refl)

-- The text of a tag.

-- of its first insertions
abbrev pub text_up_to : Tag → ℕ → List ℕ
text_up_to tag count = characters_of (flat_map (insertion_pieces tag.name) (take count tag.insertions))

pub text_one_more : (tag : Tag) (count : ℕ) (insertion : Insertion) → count < length tag.insertions → insertion ≡ get_or tag.insertions count insertion
    → text_up_to tag (count + 1) ≡ text_up_to tag count ++ insertion_text tag.name insertion
text_one_more tag count insertion within is =
    ap (λ t. characters_of (flat_map (insertion_pieces tag.name) t)) (take_more tag.insertions count insertion within ∙ ap (λ i. take count tag.insertions ++ i ∷ []) (sym is))
    ∙ ap characters_of (flat_map-append (insertion_pieces tag.name) (take count tag.insertions) (insertion ∷ []) ∙ ap (λ t. flat_map (insertion_pieces tag.name) (take count tag.insertions) ++ t) (append-nil (insertion_pieces tag.name insertion)))
    ∙ flat_map-append (λ (q : Piece). q.characters) (flat_map (insertion_pieces tag.name) (take count tag.insertions)) (insertion_pieces tag.name insertion)

pub text_split : (tag : Tag) (count : ℕ) → takes_span tag.name ≡ true → text_up_to tag count ++ characters_of (flat_map (insertion_pieces tag.name) (drop count tag.insertions)) ≡ text_at tag
text_split tag count takes =
    sym (flat_map-append (λ (q : Piece). q.characters) (flat_map (insertion_pieces tag.name) (take count tag.insertions)) (flat_map (insertion_pieces tag.name) (drop count tag.insertions)))
    ∙ ap characters_of (sym (flat_map-append (insertion_pieces tag.name) (take count tag.insertions) (drop count tag.insertions)))
    ∙ ap (λ t. characters_of (flat_map (insertion_pieces tag.name) t)) (take-append-drop count tag.insertions)
    ∙ ap (λ b. characters_of (cond b (flat_map (insertion_pieces tag.name) tag.insertions) [])) (sym takes)

-- where one of them fails
pub text_stops : (tag : Tag) (count : ℕ) (insertion : Insertion) (name : List ℕ) → takes_span tag.name ≡ true → count < length tag.insertions → insertion ≡ get_or tag.insertions count insertion → name ≡ tag.name
    → (before middle now : Option (List ℕ)) → middle ≡ grown before (encode_utf8_all (text_up_to tag count)) → GrowsByFront middle now (encode_utf8_all (insertion_text name insertion))
    → GrowsByFront before now (encode_utf8_all (text_at tag))
text_stops tag count insertion name takes within is named before middle now so_far grows =
    let more = text_one_more tag count insertion within is in
    let all = ap (λ t. t ++ characters_of (flat_map (insertion_pieces tag.name) (drop (count + 1) tag.insertions))) (sym more) ∙ text_split tag (count + 1) takes in
    front_same (ap encode_utf8_all all)
    (stops_first before now (text_up_to tag count ++ insertion_text tag.name insertion) (characters_of (flat_map (insertion_pieces tag.name) (drop (count + 1) tag.insertions)))
    (stops_then before middle now (text_up_to tag count) (insertion_text tag.name insertion) so_far (front_same (ap (λ n. encode_utf8_all (insertion_text n insertion)) named) grows)))

-- and where it is put
pub text_goes : (tag : Tag) (count : ℕ) (insertion : Insertion) (name : List ℕ) → count < length tag.insertions → insertion ≡ get_or tag.insertions count insertion → name ≡ tag.name
    → (before middle now : Option (List ℕ)) → middle ≡ grown before (encode_utf8_all (text_up_to tag count)) → now ≡ grown middle (encode_utf8_all (insertion_text name insertion))
    → now ≡ grown before (encode_utf8_all (text_up_to tag (count + 1)))
text_goes tag count insertion name within is named before middle now so_far grew =
    went_then before middle now (text_up_to tag count) (insertion_text tag.name insertion) so_far (grew ∙ ap (λ n. grown middle (encode_utf8_all (insertion_text n insertion))) named)
    ∙ ap (λ t. grown before (encode_utf8_all t)) (sym (text_one_more tag count insertion within is))

pub text_none : (tag : Tag) → takes_span tag.name ≡ false → text_at tag ≡ []
text_none tag takes = ap (λ b. characters_of (cond b (flat_map (insertion_pieces tag.name) tag.insertions) [])) takes

slash_bytes : (encode_utf8_all (codes "</") ≡ codes "</") × (encode_utf8_all (codes ">") ≡ codes ">") × (encode_utf8_all (codes "/>") ≡ codes "/>")
unfolding encode
slash_bytes = (refl, refl, refl)

-- the bytes of an end tag
pub end_bytes : (name : List ℕ) → IsUtf8 name → codes "</" ++ (name ++ codes ">") ≡ encode_utf8_all (codes "</" ++ chars name ++ codes ">")
end_bytes name utf8 =
    ap (λ t. t ++ (name ++ codes ">")) (sym slash_bytes.0)
    ∙ ap (λ t. encode_utf8_all (codes "</") ++ (t ++ codes ">")) (sym (encodes-chars name utf8))
    ∙ ap (λ t. encode_utf8_all (codes "</") ++ (encode_utf8_all (chars name) ++ t)) (sym slash_bytes.1)
    ∙ ap (λ t. encode_utf8_all (codes "</") ++ t) (sym (encodes-append (chars name) (codes ">")))
    ∙ sym (encodes-append (codes "</") (chars name ++ codes ">"))

-- the end of a start tag, where it is put
pub opening_bytes : (is_ended : Bool) (tag : Tag) → opening is_ended tag ≡ encode_utf8_all (opening is_ended tag)
opening_bytes is_ended tag = go (has_some tag && not is_ended)
  where
    go : (b : Bool) → cond b (codes ">") [] ≡ encode_utf8_all (cond b (codes ">") [])
    go true = sym slash_bytes.1
    go false = refl

-- what is put at a tag, where its parts are told
pub put_same : (ended other : Bool) (tags others : List Tag) → ended ≡ other → tags ≡ others
    → opening ended (next_tag tags) ++ text_at (next_tag tags) ≡ opening other (next_tag others) ++ text_at (next_tag others)
put_same ended other tags others same alike =
    ap (λ b. opening b (next_tag tags) ++ text_at (next_tag tags)) same ∙ ap (λ t. opening other (next_tag t) ++ text_at (next_tag t)) alike

pub slash_whole : (tag front : List ℕ) → IsUtf8 tag → chars tag ≡ front ++ codes "/>" → tag ≡ encode_utf8_all front ++ codes "/>"
slash_whole tag front utf8 parts =
    sym (encodes-chars tag utf8) ∙ ap encode_utf8_all parts ∙ encodes-append front (codes "/>") ∙ ap (λ t. encode_utf8_all front ++ t) slash_bytes.2

-- what stands before a `/>`
pub slash_front : (tag bytes front : List ℕ) → IsUtf8 tag → tag ≡ bytes ++ codes "/>" → chars tag ≡ front ++ codes "/>" → bytes ≡ encode_utf8_all front
slash_front tag bytes front utf8 is parts =
    append_cancel_right bytes (encode_utf8_all front) (codes "/>") (sym is ∙ slash_whole tag front utf8 parts)

-- An empty-element tag.

opened_some : (name : List ℕ) (attrs : List Attr) (p : Piece) (front : List ℕ) (pieces : List Piece) → p.characters ≡ front ++ codes "/>" → Somewhat pieces
    → characters_of (opened name attrs p pieces) ≡ front ++ (codes ">" ++ (characters_of pieces ++ (codes "</" ++ name ++ codes ">")))
opened_some name attrs p front pieces is some =
    let start : take (length p.characters - 2) p.characters ≡ front = ap (λ t. take (length t - 2) t) is ∙ before_slash front in
    ap (λ t. characters_of (opened name attrs p t)) some.pieces_are
    ∙ ap (λ t. (t ++ codes ">") ++ characters_of ((some.first ∷ some.others) ++ end_piece name ∷ [])) start
    ∙ ap (λ t. (front ++ codes ">") ++ characters_of (t ++ end_piece name ∷ [])) (sym some.pieces_are)
    ∙ ap (λ t. (front ++ codes ">") ++ t)
    (flat_map-append (λ (q : Piece). q.characters) pieces (end_piece name ∷ []) ∙ ap (λ t. characters_of pieces ++ t) (append-nil (codes "</" ++ name ++ codes ">")))
    ∙ append_assoc front (codes ">") (characters_of pieces ++ (codes "</" ++ name ++ codes ">"))

some_left : (pieces more : List Piece) → Somewhat pieces → Somewhat (pieces ++ more)
some_left pieces more some = record { first = some.first; others = some.others ++ more; pieces_are = ap (λ t. t ++ more) some.pieces_are }

-- the same by the two tags, whose tests are told
abbrev by_tests : List ℕ → List ℕ → List Piece → List Piece → Bool → Bool → List ℕ
by_tests name front first last some_first some_last =
    front ++ ((cond (some_first && true) (codes ">") [] ++ characters_of first)
    ++ ((cond (some_last && not some_first) (codes ">") [] ++ characters_of last) ++ closing (some_first || some_last) name))

opened_tests : (name : List ℕ) (attrs : List Attr) (p : Piece) (front : List ℕ) (first last : List Piece) (some_first some_last : Bool) → p.characters ≡ front ++ codes "/>"
    → Told some_first first → Told some_last last → characters_of (opened name attrs p (first ++ last)) ≡ by_tests name front first last some_first some_last
opened_tests name attrs p front first last some_first some_last is (inl f) l =
    opened_some name attrs p front (first ++ last) is (some_left first last f.1)
    ∙ ap (λ t. front ++ (codes ">" ++ t)) (ap (λ t. t ++ (codes "</" ++ name ++ codes ">")) (flat_map-append (λ (q : Piece). q.characters) first last) ∙ append_assoc (characters_of first) (characters_of last) (codes "</" ++ name ++ codes ">"))
    ∙ tests some_last
    ∙ ap (λ b. by_tests name front first last b some_last) (sym f.0)
  where
    tests : (b : Bool) → front ++ (codes ">" ++ (characters_of first ++ (characters_of last ++ (codes "</" ++ name ++ codes ">")))) ≡ by_tests name front first last true b
    tests true = refl
    tests false = refl
opened_tests name attrs p front first last some_first some_last is (inr f) (inl l) =
    ap (λ t. characters_of (opened name attrs p (t ++ last))) f.1
    ∙ opened_some name attrs p front last is l.1
    ∙ ap (λ t. front ++ (characters_of t ++ (codes ">" ++ (characters_of last ++ (codes "</" ++ name ++ codes ">"))))) (sym f.1)
    ∙ ap (λ b. by_tests name front first last false b) (sym l.0)
    ∙ ap (λ b. by_tests name front first last b some_last) (sym f.0)
opened_tests name attrs p front first last some_first some_last is (inr f) (inr l) =
    ap (λ t. characters_of (opened name attrs p (t ++ last))) f.1
    ∙ ap (λ t. characters_of (opened name attrs p t)) l.1
    ∙ append-nil p.characters
    ∙ is
    ∙ ap (λ t. front ++ (characters_of t ++ codes "/>")) (sym f.1)
    ∙ ap (λ t. front ++ (characters_of first ++ (characters_of t ++ codes "/>"))) (sym l.1)
    ∙ ap (λ b. by_tests name front first last false b) (sym l.0)
    ∙ ap (λ b. by_tests name front first last b some_last) (sym f.0)

opened_text : (name : List ℕ) (attrs : List Attr) (p : Piece) (front : List ℕ) (first last : Tag) → p.characters ≡ front ++ codes "/>"
    → characters_of (opened name attrs p (pieces_at first ++ pieces_at last)) ≡ tag_text name front first last
opened_text name attrs p front first last is = opened_tests name attrs p front (pieces_at first) (pieces_at last) (has_some first) (has_some last) is (told first) (told last)

-- Each kind of item.

-- what is written for this piece
abbrev pub item_text : Piece → List Tag → List ℕ
item_text p tags = characters_of (at_piece p.item p (map pieces_at tags))

pub end_text : (name : List ℕ) (characters : List ℕ) (p : Piece) (tags : List Tag) → IsPiece (end_tag name) characters p → text_at (next_tag tags) ++ characters ≡ item_text p tags
end_text name characters p tags is =
    ap (λ t. text_at (next_tag tags) ++ t) (sym is.characters_are ∙ sym (append-nil p.characters))
    ∙ ap (λ t. characters_of t ++ characters_of (p ∷ [])) (sym (put_at_next tags))
    ∙ sym (flat_map-append (λ (q : Piece). q.characters) (at_next (map pieces_at tags)) (p ∷ []))
    ∙ ap (λ i. characters_of (at_piece i p (map pieces_at tags))) is.item_is

-- an empty-element tag ends in `/>`
pub record EmptyText (name characters : List ℕ) (p : Piece) (tags : List Tag) : Type 0 where
  pub front : List ℕ
  pub parts : characters ≡ front ++ codes "/>"
  pub text_is : tag_text name front (next_tag tags) (next_tag (drop 1 tags)) ≡ item_text p tags

pub empty_text : (name : List ℕ) (attrs : List Attr) (characters : List ℕ) (p : Piece) (tags : List Tag) → IsPiece (empty_tag name attrs) characters p → EmptyText name characters p tags
empty_text name attrs characters p tags is =
    let slash = slashed p.characters name attrs (subst (λ i. Spells (read_of p) i) (sym is.item_is) is.spelled) in
    record {
      front = slash.0;
      parts = sym is.characters_are ∙ slash.1;
      text_is =
          sym (opened_text name attrs p slash.0 (next_tag tags) (next_tag (drop 1 tags)) slash.1)
          ∙ ap (λ t. characters_of (opened name attrs p (t ++ pieces_at (next_tag (drop 1 tags))))) (sym (put_at_next tags))
          ∙ ap (λ t. characters_of (opened name attrs p (at_next (map pieces_at tags) ++ t))) (sym (put_at_next (drop 1 tags)) ∙ ap at_next (sym (put_past 1 tags)))
          ∙ ap (λ i. characters_of (at_piece i p (map pieces_at tags))) is.item_is;
    }

-- any other item
abbrev pub is_no_tag : Item → Bool
is_no_tag doctype = true
is_no_tag comment = true
is_no_tag instruction = true
is_no_tag (start_tag name attrs) = false
is_no_tag (empty_tag name attrs) = false
is_no_tag (end_tag name) = false
is_no_tag (reference c) = true
is_no_tag (section inside) = true
is_no_tag (plain_character c) = true

pub other_text : (item : Item) (characters : List ℕ) (p : Piece) (tags : List Tag) → is_no_tag item ≡ true → IsPiece item characters p → characters ≡ item_text p tags
other_text item characters p tags other is =
    sym is.characters_are ∙ sym (append-nil p.characters) ∙ alone item other ∙ ap (λ i. characters_of (at_piece i p (map pieces_at tags))) is.item_is
  where
    alone : (i : Item) → is_no_tag i ≡ true → characters_of (p ∷ []) ≡ characters_of (at_piece i p (map pieces_at tags))
    alone doctype h = refl
    alone comment h = refl
    alone instruction h = refl
    alone (start_tag name attrs) h = absurd cc
    alone (empty_tag name attrs) h = absurd cc
    alone (end_tag name) h = absurd cc
    alone (reference c) h = refl
    alone (section inside) h = refl
    alone (plain_character c) h = refl

pub no_tags_in : (item : Item) → is_no_tag item ≡ true → tags_in item ≡ 0
no_tags_in doctype h = refl
no_tags_in comment h = refl
no_tags_in instruction h = refl
no_tags_in (start_tag name attrs) h = absurd cc
no_tags_in (empty_tag name attrs) h = absurd cc
no_tags_in (end_tag name) h = absurd cc
no_tags_in (reference c) h = refl
no_tags_in (section inside) h = refl
no_tags_in (plain_character c) h = refl

-- A piece, and then the others.
pub woven_first : (p : Piece) (pieces : List Piece) (tags : List Tag) → woven_text (p ∷ pieces) tags ≡ item_text p tags ++ woven_text pieces (drop (tags_in p.item) tags)
woven_first p pieces tags =
    flat_map-append (λ (q : Piece). q.characters) (at_piece p.item p (map pieces_at tags)) (woven pieces (drop (tags_in p.item) (map pieces_at tags)))
    ∙ ap (λ t. item_text p tags ++ characters_of (woven pieces t)) (put_past (tags_in p.item) tags)

-- A token that is put.

abbrev pub Puts : List ℕ → List ℕ → List Tag → Option (List ℕ) → Option (List ℕ) → Type 0
Puts name characters tags before now = (front : List ℕ) → characters ≡ front ++ codes "/>" → now ≡ grown before (encode_utf8_all (tag_text name front (next_tag tags) (next_tag (drop 1 tags))))

pub empty_goes : (name : List ℕ) (attrs : List Attr) (characters : List ℕ) (item : Item) (tags : List Tag) (before now : Option (List ℕ)) → item ≡ empty_tag name attrs → Puts name characters tags before now
    → (p : Piece) → IsPiece item characters p → now ≡ grown before (encode_utf8_all (item_text p tags))
empty_goes name attrs characters item tags before now item_is puts p is =
    let e = empty_text name attrs characters p tags (subst (λ i. IsPiece i characters p) item_is is) in
    puts e.front e.parts ∙ ap (λ t. grown before (encode_utf8_all t)) e.text_is

abbrev pub Stops : List ℕ → List ℕ → List Tag → Option (List ℕ) → Option (List ℕ) → Type 0
Stops name characters tags before now = (front : List ℕ) → characters ≡ front ++ codes "/>" → GrowsByFront before now (encode_utf8_all (tag_text name front (next_tag tags) (next_tag (drop 1 tags))))

pub empty_stops : (name : List ℕ) (attrs : List Attr) (characters : List ℕ) (item : Item) (tags : List Tag) (before now : Option (List ℕ)) → item ≡ empty_tag name attrs → Stops name characters tags before now
    → (p : Piece) → IsPiece item characters p → GrowsByFront before now (encode_utf8_all (item_text p tags))
empty_stops name attrs characters item tags before now item_is stops p is =
    let e = empty_text name attrs characters p tags (subst (λ i. IsPiece i characters p) item_is is) in
    front_same (ap encode_utf8_all e.text_is) (stops e.front e.parts)

pub other_goes : (item : Item) (characters : List ℕ) (tags : List Tag) (before now : Option (List ℕ)) → is_no_tag item ≡ true → now ≡ grown before (encode_utf8_all characters)
    → (p : Piece) → IsPiece item characters p → now ≡ grown before (encode_utf8_all (item_text p tags))
other_goes item characters tags before now other grew p is = grew ∙ ap (λ t. grown before (encode_utf8_all t)) (other_text item characters p tags other is)

pub other_stops : (item : Item) (characters : List ℕ) (tags : List Tag) (before now : Option (List ℕ)) → is_no_tag item ≡ true → GrowsByFront before now (encode_utf8_all characters)
    → (p : Piece) → IsPiece item characters p → GrowsByFront before now (encode_utf8_all (item_text p tags))
other_stops item characters tags before now other grows p is = front_same (ap encode_utf8_all (other_text item characters p tags other is)) grows

-- a token that is none of a tag
pub other_token : (token : Token) → ((name : Bor (List ℕ)) (attrs : List Attr) → token ≡ StartTag name attrs → ⊥) → ((name : Bor (List ℕ)) (attrs : List Attr) → token ≡ EmptyTag name attrs → ⊥)
    → ((name : Bor (List ℕ)) → token ≡ EndTag name → ⊥) → is_no_tag (item_of token) ≡ true
other_token Doctype s e n = refl
other_token Comment s e n = refl
other_token Instruction s e n = refl
other_token (StartTag name attrs) s e n = absurd (s name attrs refl)
other_token (EmptyTag name attrs) s e n = absurd (e name attrs refl)
other_token (EndTag name) s e n = absurd (n name refl)
other_token (Reference character) s e n = refl
other_token (Section characters) s e n = refl
other_token (Character character) s e n = refl
