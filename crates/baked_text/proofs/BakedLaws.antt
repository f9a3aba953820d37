-- What is true of baked texts.
use Rattle.std.proofs.Common.{◌≡◌, ◌<◌, ℕ, zero, suc, Bool, true, false, cond, eqb, ◌⊎◌, inl, inr, List, [], ◌∷◌, ◌++◌, Option, Some, drop, length, refl, sym, ap, subst, ◌∙◌, append-nil, arith}
use Rattle.std.proofs.lemmas.Bool.{and_parts, eqb-true}
use Rattle.std.proofs.lemmas.List.{append_cancel_right, map-append}
use Rattle.std.proofs.lemmas.List.Folds.{list_all-append}
use Rattle.std.specs.List.{flat_map, list_all}
use Rattle.bake_definitions.specs.Baked.{Annotated, baked, filled, is_bare, without_insertions}
use Rattle.bake_definitions.specs.Grown.{IsGrown}
use Rattle.bake_definitions.specs.Insertions.{Insertion}
use Rattle.bake_definitions.specs.Pieces.{AreSpelled, IsMadeOf, Piece, characters_of, items_of, mark_of, read_of}
use Rattle.bake_definitions.specs.Woven.{IsBaked, at_next, at_node, at_piece, at_tags, insertion_pieces, opened, tags_in, woven}
use Rattle.baked_text.proofs.Apart.{Joins}
use Rattle.baked_text.proofs.Content.{is_empty}
use Rattle.baked_text.proofs.Growing.{grown_front, mark_parts, woven_grows}
use Rattle.baked_text.proofs.PieceLaws.{parted, spelled_parts}
use Rattle.baked_text.proofs.Puts.{AllPlaced, placed_append}
use Rattle.baked_text.proofs.SplitLaws.{Passed, passed_all, passed_more, passed_none}
use Rattle.baked_text.proofs.Weaving.{Weaves, item_parts, one_piece, weaves_append}
use Rattle.baked_text.proofs.WovenContent.{WovenElement, woven_element}
use Rattle.baked_text.proofs.WovenLaws.{head_of, woven_head, woven_reads, woven_spelled}
use Rattle.forest.specs.Forest.{Forest, Empty, Tree, labels}
use Rattle.plain_types.specs.declared.attr.Attr.{Attr}
use Rattle.plain_types.specs.declared.node.Node.{Node}
use Rattle.plain_types.specs.declared.node.Node.TheVariants.{Element, Text}
use Rattle.xhtml_items.proofs.ItemLaws.{item_filled, same_first}
use Rattle.xhtml_reader.proofs.Places.{only_items}
use Rattle.xml_definitions.specs.Documents.{AreMisc, IsDocument, IsProlog, document, is_misc, with_doctype, without_doctype}
use Rattle.xml_definitions.specs.Items.{ArePieces, Item, doctype, comment, instruction, start_tag, empty_tag, end_tag, reference, section, plain_character}
use Rattle.xml_definitions.specs.Normalized.{normalized, with_line_feeds}
use Rattle.reading.specs.Reading.{without_mark}
use Rattle.xml_definitions.specs.Spelling.{IsName, Spells}
use Rattle.xml_definitions.specs.Texts.{IsDocumentText}

-- What stands before and after the root.

weaves_misc : (p : Piece) (item : Item) → p.item ≡ item → is_misc item ≡ true → Weaves (p ∷ []) [] (p ∷ [])
weaves_misc p doctype is misc after others = absurd cc
weaves_misc p comment is misc after others = ap (λ i. at_piece i p others ++ woven after (drop (tags_in i) others)) is
weaves_misc p instruction is misc after others = ap (λ i. at_piece i p others ++ woven after (drop (tags_in i) others)) is
weaves_misc p (start_tag name attrs) is misc after others = absurd cc
weaves_misc p (empty_tag name attrs) is misc after others = absurd cc
weaves_misc p (end_tag name) is misc after others = absurd cc
weaves_misc p (reference c) is misc after others = absurd cc
weaves_misc p (section inside) is misc after others = absurd cc
weaves_misc p (plain_character c) is misc after others = ap (λ i. at_piece i p others ++ woven after (drop (tags_in i) others)) is

weaves_doctype : (p : Piece) → p.item ≡ doctype → Weaves (p ∷ []) [] (p ∷ [])
weaves_doctype p is after others = ap (λ i. at_piece i p others ++ woven after (drop (tags_in i) others)) is

weaves_nothing : Weaves [] [] []
weaves_nothing after others = refl

weaves_all_misc : (pieces : List Piece) (items : List Item) → items_of pieces ≡ items → list_all is_misc items ≡ true → Weaves pieces [] pieces
weaves_all_misc [] items is misc = weaves_nothing
weaves_all_misc (p ∷ pieces) [] is misc = absurd cc
weaves_all_misc (p ∷ pieces) (item ∷ items) is misc =
    let one : p.item ≡ item = cc in
    let more : items_of pieces ≡ items = cc in
    let test = and_parts (is_misc item) (list_all is_misc items) misc in
    weaves_append (p ∷ []) pieces [] [] (p ∷ []) pieces (weaves_misc p item one test.0) (weaves_all_misc pieces items more test.1)

weaves_prolog : {items : List Item} → IsProlog items → (pieces : List Piece) → items_of pieces ≡ items → Weaves pieces [] pieces
weaves_prolog (without_doctype misc are) pieces is = weaves_all_misc pieces misc is are
weaves_prolog (with_doctype first second a b) pieces is =
    let outer = item_parts pieces first (doctype ∷ second) is in
    let inner = item_parts outer.after (doctype ∷ []) second outer.after_is in
    let one = one_piece inner.before doctype inner.before_is in
    let pieces_are : pieces ≡ outer.before ++ ((one.one ∷ []) ++ inner.after) = outer.pieces_are ∙ ap (λ t. outer.before ++ t) (inner.pieces_are ∙ ap (λ t. t ++ inner.after) one.pieces_are) in
    subst (λ t. Weaves t [] t) (sym pieces_are)
    (weaves_append outer.before ((one.one ∷ []) ++ inner.after) [] [] outer.before ((one.one ∷ []) ++ inner.after)
    (weaves_all_misc outer.before first outer.before_is a)
    (weaves_append (one.one ∷ []) inner.after [] [] (one.one ∷ []) inner.after (weaves_doctype one.one one.item_is) (weaves_all_misc inner.after second inner.after_is b)))

-- A document.

record WovenDocument (pieces : List Piece) (tree : Forest Annotated) : Type 0 where
  is : IsDocument (items_of (woven pieces (at_tags tree))) (baked tree)
  placed : AllPlaced IsName (at_tags tree)

woven_root : (before root after : List Piece) (a : Annotated) (inside : Forest Annotated) (name : List ℕ) (attrs : List Attr) → a.node ≡ Element name attrs
    → IsProlog (items_of before) → AreMisc (items_of after) → Weaves before [] before → Weaves after [] after → WovenElement root a.node a.first a.last inside name attrs
    → WovenDocument ((before ++ root) ++ after) (Tree a inside Empty)
woven_root before root after a inside name attrs node_is prolog misc first last element =
    let puts = at_node a.node a.first a.last (at_tags inside) in
    let weaves : Weaves ((before ++ root) ++ after) (([] ++ puts) ++ []) ((before ++ element.out) ++ after) =
    weaves_append (before ++ root) after ([] ++ puts) [] (before ++ element.out) after (weaves_append before root [] puts before element.out first element.weaves) last in
    let out_is : woven ((before ++ root) ++ after) (puts ++ []) ≡ (before ++ element.out) ++ after =
    ap (λ t. woven t (puts ++ [])) (sym (append-nil ((before ++ root) ++ after))) ∙ ap (λ t. woven (((before ++ root) ++ after) ++ []) t) (sym (append-nil (puts ++ [])))
    ∙ weaves [] [] ∙ append-nil ((before ++ element.out) ++ after) in
    let items_are : items_of ((before ++ element.out) ++ after) ≡ items_of before ++ items_of element.out ++ items_of after =
    map-append (λ (p : Piece). p.item) (before ++ element.out) after ∙ ap (λ t. t ++ items_of after) (map-append (λ (p : Piece). p.item) before element.out) in
    record {
      is =
          subst (λ t. IsDocument t (Tree a.node (filled a.node a.first a.last (baked inside)) Empty)) (sym (ap items_of out_is ∙ items_are))
          (subst (λ n. IsDocument (items_of before ++ items_of element.out ++ items_of after) (Tree n (filled a.node a.first a.last (baked inside)) Empty)) (sym node_is)
          (document (items_of after) prolog element.is misc));
      placed = placed_append IsName puts [] element.placed tt;
    }

woven_document : {items : List Item} {tree : Forest Node} → IsDocument items tree → (pieces : List Piece) → items_of pieces ≡ items → AreSpelled pieces
    → (annotated : Forest Annotated) → without_insertions annotated ≡ tree → WovenDocument pieces annotated
woven_document (document after prolog element misc) pieces e s Empty w = absurd cc
woven_document (document {before} {root} after {name} {attrs} {children} prolog element misc) pieces e s (Tree a inside rest) w =
    let node_is : a.node ≡ Element name attrs = cc in
    let inside_is : without_insertions inside ≡ children = cc in
    let rest_is : without_insertions rest ≡ Empty = cc in
    let outer = item_parts pieces (before ++ root) after e in
    let inner = item_parts outer.before before root outer.before_is in
    let spelled = spelled_parts outer.before outer.after (subst (λ t. AreSpelled t) outer.pieces_are s) in
    let front = spelled_parts inner.before inner.after (subst (λ t. AreSpelled t) inner.pieces_are spelled.0) in
    let next = woven_element element inner.after inner.after_is front.1 a.node a.first a.last inside node_is inside_is in
    let pieces_are : pieces ≡ (inner.before ++ inner.after) ++ outer.after = outer.pieces_are ∙ ap (λ t. t ++ outer.after) inner.pieces_are in
    subst (λ t. WovenDocument t (Tree a inside rest)) (sym pieces_are)
    (subst (λ t. WovenDocument ((inner.before ++ inner.after) ++ outer.after) (Tree a inside t)) (sym (is_empty rest rest_is))
    (woven_root inner.before inner.after outer.after a inside name attrs node_is
    (subst (λ t. IsProlog t) (sym inner.before_is) prolog) (subst (λ t. AreMisc t) (sym outer.after_is) misc)
    (weaves_prolog prolog inner.before inner.before_is) (weaves_all_misc outer.after after outer.after_is misc) next))

-- What it reads as.

pub are_pieces : (pieces : List Piece) → AreSpelled pieces → ArePieces Spells (flat_map read_of pieces) (items_of pieces)
are_pieces [] s = refl
are_pieces (p ∷ pieces) s = (read_of p, flat_map read_of pieces, s.0, are_pieces pieces s.1, refl)

unmarked : (xs : List ℕ) → ((c : ℕ) → head_of xs ≡ Some c → eqb c 0xfeff ≡ false) → without_mark xs ≡ xs
unmarked [] h = refl
unmarked (c ∷ xs) h = ap (λ b. cond b xs (c ∷ xs)) (h c refl)

same_some : (c d : ℕ) (o : Option ℕ) → o ≡ Some c → o ≡ Some d → c ≡ d
same_some c d o e f = cc

without_output_mark : (text woven_text : List ℕ) → (head_of woven_text ≡ head_of (without_mark text)) ⊎ (head_of woven_text ≡ Some 60) → without_mark (mark_of text ++ woven_text) ≡ woven_text
without_output_mark [] out (inl h) = unmarked out (λ c e. absurd cc)
without_output_mark [] out (inr h) = unmarked out (λ c e. ap (λ d. eqb d 0xfeff) (same_some c 60 (head_of out) e h))
without_output_mark (first ∷ rest) out h = go (eqb first 0xfeff) refl h
  where
    go : (b : Bool) → eqb first 0xfeff ≡ b → (head_of out ≡ head_of (cond b rest (first ∷ rest))) ⊎ (head_of out ≡ Some 60) → without_mark (cond b (first ∷ []) [] ++ out) ≡ out
    go true e k = ap (λ b. cond b out (first ∷ out)) e
    go false e (inl k) = unmarked out (λ c f. ap (λ d. eqb d 0xfeff) (same_some c first (head_of out) f k) ∙ e)
    go false e (inr k) = unmarked out (λ c f. ap (λ d. eqb d 0xfeff) (same_some c 60 (head_of out) f k))

-- the pieces of a document's text, woven
pieces_woven : (text output : List ℕ) (annotated : Forest Annotated) → IsDocumentText text (without_insertions annotated) → (baked_is : IsBaked text annotated output) → WovenDocument baked_is.pieces annotated
pieces_woven text output annotated text_is baked_is =
    let made = baked_is.made_of in
    let pieces = baked_is.pieces in
    let read = subst (λ t. ArePieces Spells t (items_of pieces)) (sym made.apart) (are_pieces pieces made.spelled) in
    let same : text_is.items ≡ items_of pieces = only_items text_is.items (items_of pieces) (normalized text) text_is.spelled read in
    woven_document text_is.allowed pieces (sym same) made.spelled annotated refl

pub baked_grows : (text output : List ℕ) (annotated : Forest Annotated) → IsDocumentText text (without_insertions annotated) → IsBaked text annotated output → IsGrown text output
baked_grows text output annotated text_is baked_is =
    let out = characters_of (woven baked_is.pieces (at_tags annotated)) in
    let grown = woven_grows baked_is.pieces (at_tags annotated) (pieces_woven text output annotated text_is baked_is).placed baked_is.made_of.spelled in
    let rest = subst (λ t. IsGrown t out) baked_is.made_of.text_is grown in
    subst (λ t. IsGrown t output) (sym (mark_parts text)) (subst (λ t. IsGrown (mark_of text ++ without_mark text) t) (sym baked_is.output_is) (grown_front (mark_of text) rest))

pub baked_reads : (text output : List ℕ) (annotated : Forest Annotated) → IsDocumentText text (without_insertions annotated) → IsBaked text annotated output → IsDocumentText output (baked annotated)
baked_reads text output annotated text_is baked_is =
    let made = baked_is.made_of in
    let pieces = baked_is.pieces in
    let w = pieces_woven text output annotated text_is baked_is in
    let out = woven pieces (at_tags annotated) in
    let apart : with_line_feeds (characters_of pieces) ≡ flat_map read_of pieces = ap with_line_feeds made.text_is ∙ made.apart in
    let reads = woven_reads pieces (at_tags annotated) w.placed made.spelled apart in
    let spelled = woven_spelled pieces (at_tags annotated) w.placed made.spelled in
    let head : (head_of (characters_of out) ≡ head_of (without_mark text)) ⊎ (head_of (characters_of out) ≡ Some 60) =
    subst (λ t. (head_of (characters_of out) ≡ head_of t) ⊎ (head_of (characters_of out) ≡ Some 60)) made.text_is (woven_head pieces (at_tags annotated) w.placed made.spelled) in
    let normal : normalized output ≡ flat_map read_of out =
    ap (λ t. with_line_feeds (without_mark t)) baked_is.output_is ∙ ap with_line_feeds (without_output_mark text (characters_of out) head) ∙ reads in
    record {
      items = items_of out;
      spelled = subst (λ t. ArePieces Spells t (items_of out)) (sym normal) (are_pieces out spelled);
      allowed = w.is;
    }

-- A text bakes to one text.

same_cut : (unread front rest xs ys us vs : List ℕ) → Passed front rest unread xs ys → Passed front rest unread us vs → (xs ≡ us) × (ys ≡ vs)
same_cut [] front rest xs ys us vs a b =
    let first = passed_all front rest xs ys a in
    let second = passed_all front rest us vs b in
    (sym first.0 ∙ second.0, sym first.1 ∙ second.1)
same_cut (c ∷ unread) front rest xs ys us vs a b = same_cut unread _ _ xs ys us vs (passed_more front rest c unread xs ys a) (passed_more front rest c unread us vs b)

made_one : (text : List ℕ) (p : Piece) (pieces : List Piece) → IsMadeOf text (p ∷ pieces) → 0 < length text
made_one text p pieces made = some (read_of p) (item_filled p.item (read_of p) made.spelled.0) text made.apart
  where
    some : (front : List ℕ) → 0 < length front → (text : List ℕ) → with_line_feeds text ≡ front ++ flat_map read_of pieces → 0 < length text
    some [] h text e = absurd (omega arith)
    some (c ∷ front) h [] e = absurd cc
    some (c ∷ front) h (d ∷ text) e = omega arith

pub same_pieces : (pieces others : List Piece) (text : List ℕ) → IsMadeOf text pieces → IsMadeOf text others → pieces ≡ others
same_pieces [] [] text a b = refl
same_pieces [] (q ∷ others) text a b = absurd (omega (arith, made_one text q others b, ap length a.text_is))
same_pieces (p ∷ pieces) [] text a b = absurd (omega (arith, made_one text p pieces a, ap length b.text_is))
same_pieces (p ∷ pieces) (q ∷ others) text a b =
    let first = same_first p.item q.item (read_of p) (flat_map read_of pieces) (read_of q) (flat_map read_of others) a.spelled.0 b.spelled.0 (sym a.apart ∙ b.apart) in
    let read : read_of p ≡ read_of q = append_cancel_right (read_of p) (read_of q) (flat_map read_of pieces) (sym a.apart ∙ b.apart ∙ ap (λ t. read_of q ++ t) (sym first.1)) in
    let left = parted text (p ∷ []) pieces a in
    let right = parted text (q ∷ []) others b in
    let left_parts : text ≡ p.characters ++ characters_of pieces = left.parts ∙ ap (λ t. t ++ characters_of pieces) (append-nil p.characters) in
    let right_parts : text ≡ q.characters ++ characters_of others = right.parts ∙ ap (λ t. t ++ characters_of others) (append-nil q.characters) in
    let left_joins : Joins p.characters (characters_of pieces) = subst (λ t. Joins t (characters_of pieces)) (append-nil p.characters) left.joins in
    let right_joins : Joins q.characters (characters_of others) = subst (λ t. Joins t (characters_of others)) (append-nil q.characters) right.joins in
    let cut = same_cut (read_of p) [] text p.characters (characters_of pieces) q.characters (characters_of others)
    (passed_none p.characters (characters_of pieces) text (read_of p) left_parts left_joins refl)
    (passed_none q.characters (characters_of others) text (read_of p) right_parts right_joins (sym read)) in
    let more = same_pieces pieces others (characters_of pieces) left.made_of (subst (λ t. IsMadeOf t others) (sym cut.1) right.made_of) in
    let one : p ≡ q = ap (λ t. record { characters = t; item = p.item }) cut.0 ∙ ap (λ i. record { characters = q.characters; item = i }) first.0 in
    ap (λ t. t ∷ pieces) one ∙ ap (λ t. q ∷ t) more

pub one_baked : (text output other : List ℕ) (annotated : Forest Annotated) → IsBaked text annotated output → IsBaked text annotated other → output ≡ other
one_baked text output other annotated a b =
    a.output_is ∙ ap (λ t. mark_of text ++ characters_of (woven t (at_tags annotated))) (same_pieces a.pieces b.pieces (without_mark text) a.made_of b.made_of) ∙ sym b.output_is

-- Where nothing is put in the text stays.

abbrev AllNone : List (List Piece) → Type 0
AllNone [] = Unit {0}
AllNone (put ∷ puts) = (put ≡ []) × AllNone puts

none_append : (puts others : List (List Piece)) → AllNone puts → AllNone others → AllNone (puts ++ others)
none_append [] others a b = b
none_append (p ∷ puts) others a b = (a.0, none_append puts others a.1 b)

none_drop : (n : ℕ) (puts : List (List Piece)) → AllNone puts → AllNone (drop n puts)
none_drop zero puts a = a
none_drop (suc n) [] a = tt
none_drop (suc n) (p ∷ puts) a = none_drop n puts a.1

none_next : (puts : List (List Piece)) → AllNone puts → at_next puts ≡ []
none_next [] a = refl
none_next (p ∷ puts) a = a.0

none_item : (item : Item) (p : Piece) (puts : List (List Piece)) → AllNone puts → at_piece item p puts ≡ p ∷ []
none_item doctype p puts a = refl
none_item comment p puts a = refl
none_item instruction p puts a = refl
none_item (start_tag name attrs) p puts a = ap (λ t. p ∷ t) (none_next puts a)
none_item (empty_tag name attrs) p puts a =
    ap (λ t. opened name attrs p (t ++ at_next (drop 1 puts))) (none_next puts a) ∙ ap (λ t. opened name attrs p t) (none_next (drop 1 puts) (none_drop 1 puts a))
none_item (end_tag name) p puts a = ap (λ t. t ++ p ∷ []) (none_next puts a)
none_item (reference c) p puts a = refl
none_item (section inside) p puts a = refl
none_item (plain_character c) p puts a = refl

woven_none : (pieces : List Piece) (puts : List (List Piece)) → AllNone puts → woven pieces puts ≡ pieces
woven_none [] puts a = refl
woven_none (p ∷ pieces) puts a =
    ap (λ t. t ++ woven pieces (drop (tags_in p.item) puts)) (none_item p.item p puts a) ∙ ap (λ t. p ∷ t) (woven_none pieces (drop (tags_in p.item) puts) (none_drop (tags_in p.item) puts a))

no_pieces : (name : List ℕ) (insertions : List Insertion) → eqb (length insertions) 0 ≡ true → flat_map (insertion_pieces name) insertions ≡ []
no_pieces name [] h = refl
no_pieces name (i ∷ insertions) h = absurd (omega (arith, eqb-true (length (i ∷ insertions)) 0 h))

none_node : (node : Node) (first last : List Insertion) (inside : List (List Piece)) → eqb (length first) 0 ≡ true → eqb (length last) 0 ≡ true → AllNone inside → AllNone (at_node node first last inside)
none_node (Text characters) first last inside f l a = a
none_node (Element name attrs) first last inside f l a =
    (no_pieces name first f, none_append inside (flat_map (insertion_pieces name) last ∷ []) a (no_pieces name last l, tt))

none_tags : (annotated : Forest Annotated) → list_all is_bare (labels annotated) ≡ true → AllNone (at_tags annotated)
none_tags Empty h = tt
none_tags (Tree a children after) h =
    let p = and_parts (is_bare a) (list_all is_bare (labels children ++ labels after)) h in
    let bare = and_parts (eqb (length a.first) 0) (eqb (length a.last) 0) p.0 in
    let q = and_parts (list_all is_bare (labels children)) (list_all is_bare (labels after)) (sym (list_all-append is_bare (labels children) (labels after)) ∙ p.1) in
    none_append (at_node a.node a.first a.last (at_tags children)) (at_tags after) (none_node a.node a.first a.last (at_tags children) bare.0 bare.1 (none_tags children q.0)) (none_tags after q.1)

pub bare_stays : (text output : List ℕ) (annotated : Forest Annotated) → list_all is_bare (labels annotated) ≡ true → IsBaked text annotated output → output ≡ text
bare_stays text output annotated h b =
    b.output_is
    ∙ ap (λ t. mark_of text ++ characters_of t) (woven_none b.pieces (at_tags annotated) (none_tags annotated h))
    ∙ ap (λ t. mark_of text ++ t) b.made_of.text_is
    ∙ sym (mark_parts text)
