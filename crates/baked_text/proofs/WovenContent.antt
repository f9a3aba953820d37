-- The content of a document, and each of its elements, woven.
use Rattle.std.proofs.Common.{◌≡◌, ℕ, List, [], ◌∷◌, ◌++◌, Some, sym, ap, subst, ◌∙◌, append_assoc, append-nil}
use Rattle.std.proofs.lemmas.List.{map-append}
use Rattle.std.specs.List.{flat_map}
use Rattle.bake_definitions.specs.Baked.{Annotated, baked, filled, followed_by, insertions_before, without_insertions}
use Rattle.bake_definitions.specs.Insertions.{Insertion}
use Rattle.bake_definitions.specs.Pieces.{AreSpelled, Piece, items_of, read_of}
use Rattle.bake_definitions.specs.Woven.{at_node, at_tags, end_piece, insertion_pieces, opened}
use Rattle.baked_text.proofs.Content.{baked_then, is_empty, last_characters, last_element, tags_then}
use Rattle.baked_text.proofs.PieceLaws.{spelled_parts}
use Rattle.baked_text.proofs.Puts.{AllPlaced, insertions_placed, placed_append}
use Rattle.baked_text.proofs.Weaving.{Weaves, insertions_first, insertions_last, item_parts, one_piece, weaves_append, weaves_empty, weaves_end, weaves_none, weaves_one, weaves_start}
use Rattle.forest.specs.Forest.{Forest, Empty, Tree, then_tree}
use Rattle.plain_types.specs.declared.attr.Attr.{Attr}
use Rattle.plain_types.specs.declared.node.Node.{Node}
use Rattle.plain_types.specs.declared.node.Node.TheVariants.{Element}
use Rattle.xml_definitions.specs.Documents.{IsContent, IsElement, and_characters, and_element, empty_element, left_by, no_content, whole_element}
use Rattle.xml_definitions.specs.Items.{Item, start_tag, empty_tag, end_tag}
use Rattle.xml_definitions.specs.Nodes.{then_characters, then_element}
use Rattle.xml_definitions.specs.Spelling.{IsName, Spells}

pub record WovenContent (pieces : List Piece) (document : Forest Annotated) : Type 0 where
  pub out : List Piece
  pub weaves : Weaves pieces (at_tags document) out
  pub is : IsContent (items_of out) (baked document)
  pub placed : AllPlaced IsName (at_tags document)

pub record WovenElement (pieces : List Piece) (node : Node) (first last : List Insertion) (inside : Forest Annotated) (name : List ℕ) (attrs : List Attr) : Type 0 where
  pub out : List Piece
  pub weaves : Weaves pieces (at_node node first last (at_tags inside)) out
  pub is : IsElement (items_of out) name attrs (filled node first last (baked inside))
  pub placed : AllPlaced IsName (at_node node first last (at_tags inside))

-- An empty-element tag.

put_content : (name : List ℕ) (first last : List Insertion)
    → IsContent (items_of (flat_map (insertion_pieces name) first ++ flat_map (insertion_pieces name) last)) (insertions_before name first (insertions_before name last Empty))
put_content name first last =
    subst (λ t. IsContent t (insertions_before name first (insertions_before name last Empty)))
    (sym (map-append (λ (p : Piece). p.item) (flat_map (insertion_pieces name) first) (flat_map (insertion_pieces name) last)))
    (insertions_first name first (items_of (flat_map (insertion_pieces name) last)) (insertions_before name last Empty) (insertions_last name last [] Empty no_content))

with_end : (name : List ℕ) (attrs : List Attr) (pieces : List Piece) (children : Forest Node) → IsContent (items_of pieces) children
    → IsElement (start_tag name attrs ∷ items_of (pieces ++ end_piece name ∷ [])) name attrs children
with_end name attrs pieces children is =
    subst (λ t. IsElement (start_tag name attrs ∷ t) name attrs children) (sym (map-append (λ (p : Piece). p.item) pieces (end_piece name ∷ []))) (whole_element name attrs is)

opened_element : (name : List ℕ) (attrs : List Attr) (p : Piece) (first last : List Insertion) → p.item ≡ empty_tag name attrs
    → IsElement (items_of (opened name attrs p (flat_map (insertion_pieces name) first ++ flat_map (insertion_pieces name) last))) name attrs (filled (Element name attrs) first last Empty)
opened_element name attrs p [] [] is = subst (λ t. IsElement (t ∷ []) name attrs Empty) (sym is) (empty_element name attrs)
opened_element name attrs p [] (i ∷ last) is = with_end name attrs (flat_map (insertion_pieces name) (i ∷ last)) (insertions_before name (i ∷ last) Empty) (put_content name [] (i ∷ last))
opened_element name attrs p (i ∷ first) last is =
    with_end name attrs (flat_map (insertion_pieces name) (i ∷ first) ++ flat_map (insertion_pieces name) last) (insertions_before name (i ∷ first) (insertions_before name last Empty)) (put_content name (i ∷ first) last)

woven_empty : (p : Piece) (name : List ℕ) (attrs : List Attr) (first last : List Insertion) → p.item ≡ empty_tag name attrs → Spells (read_of p) p.item
    → WovenElement (p ∷ []) (Element name attrs) first last Empty name attrs
woven_empty p name attrs first last is s =
    let tag : Spells (read_of p) (empty_tag name attrs) = subst (λ i. Spells (read_of p) i) is s in
    record {
      out = opened name attrs p (flat_map (insertion_pieces name) first ++ flat_map (insertion_pieces name) last);
      weaves = weaves_empty p name attrs (flat_map (insertion_pieces name) first) (flat_map (insertion_pieces name) last) is;
      is = opened_element name attrs p first last is;
      placed = (insertions_placed IsName name first tag.named, (insertions_placed IsName name last tag.named, tt));
    }

-- An element with two tags.

whole_items : (start end : Piece) (first out last : List Piece) (name : List ℕ) (attrs : List Attr) → start.item ≡ start_tag name attrs → end.item ≡ end_tag name
    → items_of ((start ∷ first) ++ (out ++ (last ++ end ∷ []))) ≡ start_tag name attrs ∷ (items_of first ++ (items_of out ++ items_of last)) ++ end_tag name ∷ []
whole_items start end first out last name attrs start_is end_is =
    ap (λ t. t ∷ items_of (first ++ (out ++ (last ++ end ∷ [])))) start_is
    ∙ ap (λ t. start_tag name attrs ∷ t)
    (
    map-append (λ (p : Piece). p.item) first (out ++ (last ++ end ∷ []))
    ∙ ap (λ t. items_of first ++ t) (map-append (λ (p : Piece). p.item) out (last ++ end ∷ []) ∙ ap (λ t. items_of out ++ t) (map-append (λ (p : Piece). p.item) last (end ∷ []) ∙ ap (λ t. items_of last ++ t ∷ []) end_is))
    ∙ ap (λ t. items_of first ++ t) (sym (append_assoc (items_of out) (items_of last) (end_tag name ∷ [])))
    ∙ sym (append_assoc (items_of first) (items_of out ++ items_of last) (end_tag name ∷ []))
    )

woven_whole : (start end : Piece) (pieces : List Piece) (name : List ℕ) (attrs : List Attr) (first last : List Insertion) (inside : Forest Annotated)
    → start.item ≡ start_tag name attrs → end.item ≡ end_tag name → Spells (read_of start) start.item → WovenContent pieces inside
    → WovenElement ((start ∷ []) ++ (pieces ++ end ∷ [])) (Element name attrs) first last inside name attrs
woven_whole start end pieces name attrs first last inside start_is end_is s more =
    let tag : Spells (read_of start) (start_tag name attrs) = subst (λ i. Spells (read_of start) i) start_is s in
    let front = flat_map (insertion_pieces name) first in
    let back = flat_map (insertion_pieces name) last in
    record {
      out = (start ∷ front) ++ (more.out ++ (back ++ end ∷ []));
      weaves =
          weaves_append (start ∷ []) (pieces ++ end ∷ []) (front ∷ []) (at_tags inside ++ back ∷ []) (start ∷ front) (more.out ++ (back ++ end ∷ []))
          (weaves_start start name attrs front start_is)
          (weaves_append pieces (end ∷ []) (at_tags inside) (back ∷ []) more.out (back ++ end ∷ []) more.weaves (weaves_end end name back end_is));
      is =
          subst (λ t. IsElement t name attrs (filled (Element name attrs) first last (baked inside))) (sym (whole_items start end front more.out back name attrs start_is end_is))
          (whole_element name attrs
          (insertions_first name first (items_of more.out ++ items_of back) (followed_by (baked inside) (insertions_before name last Empty)) (insertions_last name last (items_of more.out) (baked inside) more.is)));
      placed = (insertions_placed IsName name first tag.named, placed_append IsName (at_tags inside) (back ∷ []) more.placed (insertions_placed IsName name last tag.named, tt));
    }

-- Content.

woven_characters : (pieces : List Piece) (p : Piece) (item : Item) (cs : List ℕ) (document : Forest Annotated) → p.item ≡ item → left_by item ≡ Some cs
    → (earlier : Forest Annotated) → at_tags document ≡ at_tags earlier → baked document ≡ then_characters (baked earlier) cs → WovenContent pieces earlier → WovenContent (pieces ++ p ∷ []) document
woven_characters pieces p item cs document is left earlier tags_are baked_is more = record {
  out = more.out ++ p ∷ [];
  weaves =
      subst (λ t. Weaves (pieces ++ p ∷ []) t (more.out ++ p ∷ [])) (append-nil (at_tags earlier) ∙ sym tags_are)
      (weaves_append pieces (p ∷ []) (at_tags earlier) [] more.out (p ∷ []) more.weaves (weaves_one p item cs is left));
  is =
      subst (λ t. IsContent (items_of (more.out ++ p ∷ [])) t) (sym baked_is)
      (subst (λ t. IsContent t (then_characters (baked earlier) cs)) (sym (map-append (λ (q : Piece). q.item) more.out (p ∷ []) ∙ ap (λ t. items_of more.out ++ t ∷ []) is))
      (and_characters more.is item cs left));
  placed = subst (λ t. AllPlaced IsName t) (sym tags_are) more.placed;
}

woven_then : (pieces one : List Piece) (earlier : Forest Annotated) (last : Annotated) (inside : Forest Annotated) (name : List ℕ) (attrs : List Attr) → last.node ≡ Element name attrs
    → WovenContent pieces earlier → WovenElement one last.node last.first last.last inside name attrs → WovenContent (pieces ++ one) (then_tree earlier last inside)
woven_then pieces one earlier last inside name attrs node_is more element = record {
  out = more.out ++ element.out;
  weaves =
      subst (λ t. Weaves (pieces ++ one) t (more.out ++ element.out)) (sym (tags_then earlier last inside))
      (weaves_append pieces one (at_tags earlier) (at_node last.node last.first last.last (at_tags inside)) more.out element.out more.weaves element.weaves);
  is =
      subst (λ t. IsContent (items_of (more.out ++ element.out)) t)
      (ap (λ n. then_tree (baked earlier) n (filled last.node last.first last.last (baked inside))) (sym node_is) ∙ sym (baked_then earlier last inside))
      (subst (λ t. IsContent t (then_element (baked earlier) name attrs (filled last.node last.first last.last (baked inside)))) (sym (map-append (λ (q : Piece). q.item) more.out element.out))
      (and_element more.is element.is));
  placed = subst (λ t. AllPlaced IsName t) (sym (tags_then earlier last inside)) (placed_append IsName (at_tags earlier) (at_node last.node last.first last.last (at_tags inside)) more.placed element.placed);
}

mutual
  pub woven_content : {items : List Item} {nodes : Forest Node} → IsContent items nodes → (pieces : List Piece) → items_of pieces ≡ items → AreSpelled pieces
      → (document : Forest Annotated) → without_insertions document ≡ nodes → WovenContent pieces document
  woven_content no_content [] e s Empty w = record { out = []; weaves = weaves_none; is = no_content; placed = tt }
  woven_content no_content (p ∷ pieces) e s document w = absurd cc
  woven_content no_content [] e s (Tree a inside after) w = absurd cc
  woven_content (and_characters {before} {nodes} content item cs left) pieces e s document w =
      let parts = item_parts pieces before (item ∷ []) e in
      let one = one_piece parts.after item parts.after_is in
      let last = last_characters document nodes cs w in
      let spelled = spelled_parts parts.before parts.after (subst (λ t. AreSpelled t) parts.pieces_are s) in
      let more = woven_content content parts.before parts.before_is spelled.0 last.before last.before_is in
      subst (λ t. WovenContent t document) (sym (parts.pieces_are ∙ ap (λ t. parts.before ++ t) one.pieces_are))
      (woven_characters parts.before one.one item cs document one.item_is left last.before last.tags_are last.baked_is more)
  woven_content (and_element {before} {one} {nodes} {children} {name} {attrs} content element) pieces e s document w =
      let parts = item_parts pieces before one e in
      let last = last_element document nodes name attrs children w in
      let spelled = spelled_parts parts.before parts.after (subst (λ t. AreSpelled t) parts.pieces_are s) in
      let more = woven_content content parts.before parts.before_is spelled.0 last.before last.before_is in
      let next = woven_element element parts.after parts.after_is spelled.1 last.last.node last.last.first last.last.last last.inside last.last_is last.inside_is in
      subst (λ t. WovenContent t document) (sym parts.pieces_are)
      (subst (λ t. WovenContent (parts.before ++ parts.after) t) (sym last.document_is) (woven_then parts.before parts.after last.before last.last last.inside name attrs last.last_is more next))

  pub woven_element : {items : List Item} {name : List ℕ} {attrs : List Attr} {children : Forest Node} → IsElement items name attrs children → (pieces : List Piece) → items_of pieces ≡ items → AreSpelled pieces
      → (node : Node) (first last : List Insertion) (inside : Forest Annotated) → node ≡ Element name attrs → without_insertions inside ≡ children → WovenElement pieces node first last inside name attrs
  woven_element (empty_element name attrs) pieces e s node first last inside node_is inside_is =
      let one = one_piece pieces (empty_tag name attrs) e in
      let spelled = subst (λ t. AreSpelled t) one.pieces_are s in
      subst (λ t. WovenElement t node first last inside name attrs) (sym one.pieces_are)
      (subst (λ n. WovenElement (one.one ∷ []) n first last inside name attrs) (sym node_is)
      (subst (λ t. WovenElement (one.one ∷ []) (Element name attrs) first last t name attrs) (sym (is_empty inside inside_is)) (woven_empty one.one name attrs first last one.item_is spelled.0)))
  woven_element (whole_element name attrs {inside = items} content) pieces e s node first last inside node_is inside_is =
      let outer = item_parts pieces (start_tag name attrs ∷ items) (end_tag name ∷ []) e in
      let end = one_piece outer.after (end_tag name) outer.after_is in
      let inner = item_parts outer.before (start_tag name attrs ∷ []) items outer.before_is in
      let start = one_piece inner.before (start_tag name attrs) inner.before_is in
      let spelled = spelled_parts outer.before outer.after (subst (λ t. AreSpelled t) outer.pieces_are s) in
      let front = spelled_parts inner.before inner.after (subst (λ t. AreSpelled t) inner.pieces_are spelled.0) in
      let first_spelled = subst (λ t. AreSpelled t) start.pieces_are front.0 in
      let more = woven_content content inner.after inner.after_is front.1 inside inside_is in
      let pieces_are : pieces ≡ (start.one ∷ []) ++ (inner.after ++ end.one ∷ []) =
      outer.pieces_are ∙ ap (λ t. t ++ outer.after) (inner.pieces_are ∙ ap (λ t. t ++ inner.after) start.pieces_are) ∙ ap (λ t. ((start.one ∷ []) ++ inner.after) ++ t) end.pieces_are in
      subst (λ t. WovenElement t node first last inside name attrs) (sym pieces_are)
      (subst (λ n. WovenElement ((start.one ∷ []) ++ (inner.after ++ end.one ∷ [])) n first last inside name attrs) (sym node_is)
      (woven_whole start.one end.one inner.after name attrs first last inside start.item_is end.item_is first_spelled.0 more))
