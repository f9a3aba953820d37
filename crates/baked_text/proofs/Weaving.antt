-- Woven content is content, of the baked tree.
use Rattle.std.proofs.Common.{◌≡◌, ℕ, Bool, true, false, cond, List, [], ◌∷◌, ◌++◌, Some, drop, map, refl, sym, ap, subst, ◌∙◌, append_assoc, append-nil}
use Rattle.std.proofs.lemmas.List.{map-append}
use Rattle.std.specs.List.{flat_map}
use Rattle.bake_definitions.specs.Baked.{followed_by, insertions_before}
use Rattle.bake_definitions.specs.Insertions.{Insertion, inserted_attrs, inserted_characters, inserted_name, is_referred, reference_to}
use Rattle.bake_definitions.specs.Pieces.{Piece, items_of, piece}
use Rattle.bake_definitions.specs.Woven.{at_piece, character_piece, end_piece, insertion_pieces, opened, tags_in, woven}
use Rattle.baked_text.proofs.TakenOut.{followed_by-empty}
use Rattle.forest.specs.Forest.{Forest, Empty, Tree, then_tree}
use Rattle.plain_types.specs.declared.attr.Attr.{Attr}
use Rattle.plain_types.specs.declared.node.Node.{Node}
use Rattle.plain_types.specs.declared.node.Node.TheVariants.{Element}
use Rattle.xhtml_reader.proofs.Nodes.{then_characters-append}
use Rattle.xml_definitions.specs.Documents.{IsContent, IsElement, and_characters, and_element, left_by, no_content, whole_element}
use Rattle.xml_definitions.specs.Items.{Item, doctype, comment, instruction, start_tag, empty_tag, end_tag, reference, section, plain_character}
use Rattle.xml_definitions.specs.Nodes.{then_characters, then_element}

-- Insertions as content.

character_left : (c : ℕ) → left_by (character_piece c).item ≡ Some (c ∷ [])
character_left c = go (is_referred c)
  where
    go : (b : Bool) → left_by (cond b (piece (reference_to c) (reference c)) (piece (c ∷ []) (plain_character c))).item ≡ Some (c ∷ [])
    go true = refl
    go false = refl

characters_content : (items : List Item) (nodes : Forest Node) (cs : List ℕ) → IsContent items nodes → IsContent (items ++ items_of (map character_piece cs)) (then_characters nodes cs)
characters_content items nodes [] is = subst (λ t. IsContent t nodes) (sym (append-nil items)) is
characters_content items nodes (c ∷ cs) is =
    let one = and_characters is (character_piece c).item (c ∷ []) (character_left c) in
    let more = characters_content (items ++ (character_piece c).item ∷ []) (then_characters nodes (c ∷ [])) cs one in
    subst (λ t. IsContent (items ++ items_of (map character_piece (c ∷ cs))) t) (then_characters-append nodes (c ∷ []) cs)
    (subst (λ t. IsContent t (then_characters (then_characters nodes (c ∷ [])) cs)) (append_assoc items ((character_piece c).item ∷ []) (items_of (map character_piece cs))) more)

insertion_element : (name : List ℕ) (i : Insertion) → IsElement (items_of (insertion_pieces name i)) (inserted_name name) (inserted_attrs i.kind) (then_characters Empty (inserted_characters i))
insertion_element name i =
    let inside = characters_content [] Empty (inserted_characters i) no_content in
    subst (λ t. IsElement (start_tag (inserted_name name) (inserted_attrs i.kind) ∷ t) (inserted_name name) (inserted_attrs i.kind) (then_characters Empty (inserted_characters i)))
    (sym (map-append (λ (p : Piece). p.item) (map character_piece (inserted_characters i)) (end_piece (inserted_name name) ∷ [])))
    (whole_element (inserted_name name) (inserted_attrs i.kind) inside)

-- An element before content.

characters_after : (name : List ℕ) (attrs : List Attr) (children nodes : Forest Node) (cs : List ℕ) → then_characters (Tree (Element name attrs) children nodes) cs ≡ Tree (Element name attrs) children (then_characters nodes cs)
characters_after name attrs children nodes [] = refl
characters_after name attrs children Empty (c ∷ cs) = refl
characters_after name attrs children (Tree node inner rest) (c ∷ cs) = refl

element_before : {one items : List Item} {nodes children : Forest Node} {name : List ℕ} {attrs : List Attr} → IsElement one name attrs children → IsContent items nodes
    → IsContent (one ++ items) (Tree (Element name attrs) children nodes)
element_before {one} {items} {nodes} {children} {name} {attrs} element no_content =
    subst (λ t. IsContent t (Tree (Element name attrs) children Empty)) (sym (append-nil one)) (and_element no_content element)
element_before {one} {items} {nodes} {children} {name} {attrs} element (and_characters {before} {nodes = earlier} content item cs left) =
    subst (λ t. IsContent (one ++ (before ++ item ∷ [])) t) (characters_after name attrs children earlier cs)
    (subst (λ t. IsContent t (then_characters (Tree (Element name attrs) children earlier) cs)) (append_assoc one before (item ∷ []))
    (and_characters (element_before element content) item cs left))
element_before {one} {items} {nodes} {children} {name} {attrs} element (and_element {before} {one = last} {nodes = earlier} {children = inner} {name = n} {attrs = a} content next) =
    subst (λ t. IsContent t (Tree (Element name attrs) children (then_element earlier n a inner))) (append_assoc one before last)
    (and_element (element_before element content) next)

pub insertions_first : (name : List ℕ) (insertions : List Insertion) (items : List Item) (nodes : Forest Node) → IsContent items nodes
    → IsContent (items_of (flat_map (insertion_pieces name) insertions) ++ items) (insertions_before name insertions nodes)
insertions_first name [] items nodes is = is
insertions_first name (i ∷ insertions) items nodes is =
    subst (λ t. IsContent t (insertions_before name (i ∷ insertions) nodes))
    (sym (ap (λ t. t ++ items) (map-append (λ (p : Piece). p.item) (insertion_pieces name i) (flat_map (insertion_pieces name) insertions))
    ∙ append_assoc (items_of (insertion_pieces name i)) (items_of (flat_map (insertion_pieces name) insertions)) items))
    (element_before (insertion_element name i) (insertions_first name insertions items nodes is))

followed_then : (nodes : Forest Node) (label : Node) (children others : Forest Node) → followed_by (then_tree nodes label children) others ≡ followed_by nodes (Tree label children others)
followed_then Empty label children others = refl
followed_then (Tree n i r) label children others = ap (λ t. Tree n i t) (followed_then r label children others)

pub insertions_last : (name : List ℕ) (insertions : List Insertion) (items : List Item) (nodes : Forest Node) → IsContent items nodes
    → IsContent (items ++ items_of (flat_map (insertion_pieces name) insertions)) (followed_by nodes (insertions_before name insertions Empty))
insertions_last name [] items nodes is = subst (λ t. IsContent t (followed_by nodes Empty)) (sym (append-nil items)) (subst (λ t. IsContent items t) (sym (followed_by-empty nodes)) is)
insertions_last name (i ∷ insertions) items nodes is =
    let label = Element (inserted_name name) (inserted_attrs i.kind) in
    let inner = then_characters Empty (inserted_characters i) in
    let more = insertions_last name insertions (items ++ items_of (insertion_pieces name i)) (then_tree nodes label inner) (and_element is (insertion_element name i)) in
    subst (λ t. IsContent (items ++ items_of (flat_map (insertion_pieces name) (i ∷ insertions))) t) (followed_then nodes label inner (insertions_before name insertions Empty))
    (subst (λ t. IsContent t (followed_by (then_tree nodes label inner) (insertions_before name insertions Empty)))
    (append_assoc items (items_of (insertion_pieces name i)) (items_of (flat_map (insertion_pieces name) insertions))
    ∙ ap (λ t. items ++ t) (sym (map-append (λ (p : Piece). p.item) (insertion_pieces name i) (flat_map (insertion_pieces name) insertions))))
    more)

-- Weaving, whatever comes after.

abbrev pub Weaves : List Piece → List (List Piece) → List Piece → Type 0
Weaves pieces puts out = (after : List Piece) (others : List (List Piece)) → woven (pieces ++ after) (puts ++ others) ≡ out ++ woven after others

pub weaves_none : Weaves [] [] []
weaves_none after others = refl

pub weaves_append : (pieces more : List Piece) (puts others : List (List Piece)) (out next : List Piece) → Weaves pieces puts out → Weaves more others next → Weaves (pieces ++ more) (puts ++ others) (out ++ next)
weaves_append pieces more puts others out next first second after last =
    ap (λ t. woven t ((puts ++ others) ++ last)) (append_assoc pieces more after)
    ∙ ap (λ t. woven (pieces ++ (more ++ after)) t) (append_assoc puts others last)
    ∙ first (more ++ after) (others ++ last)
    ∙ ap (λ t. out ++ t) (second after last)
    ∙ sym (append_assoc out next (woven after last))

-- a piece at which nothing is put in
pub weaves_one : (p : Piece) (item : Item) (characters : List ℕ) → p.item ≡ item → left_by item ≡ Some characters → Weaves (p ∷ []) [] (p ∷ [])
weaves_one p doctype characters is left after others = absurd cc
weaves_one p comment characters is left after others = ap (λ i. at_piece i p others ++ woven after (drop (tags_in i) others)) is
weaves_one p instruction characters is left after others = ap (λ i. at_piece i p others ++ woven after (drop (tags_in i) others)) is
weaves_one p (start_tag name attrs) characters is left after others = absurd cc
weaves_one p (empty_tag name attrs) characters is left after others = absurd cc
weaves_one p (end_tag name) characters is left after others = absurd cc
weaves_one p (reference c) characters is left after others = ap (λ i. at_piece i p others ++ woven after (drop (tags_in i) others)) is
weaves_one p (section inside) characters is left after others = ap (λ i. at_piece i p others ++ woven after (drop (tags_in i) others)) is
weaves_one p (plain_character c) characters is left after others = ap (λ i. at_piece i p others ++ woven after (drop (tags_in i) others)) is

pub weaves_start : (p : Piece) (name : List ℕ) (attrs : List Attr) (put : List Piece) → p.item ≡ start_tag name attrs → Weaves (p ∷ []) (put ∷ []) (p ∷ put)
weaves_start p name attrs put is after others = ap (λ i. at_piece i p (put ∷ others) ++ woven after (drop (tags_in i) (put ∷ others))) is

pub weaves_end : (p : Piece) (name : List ℕ) (put : List Piece) → p.item ≡ end_tag name → Weaves (p ∷ []) (put ∷ []) (put ++ p ∷ [])
weaves_end p name put is after others = ap (λ i. at_piece i p (put ∷ others) ++ woven after (drop (tags_in i) (put ∷ others))) is

pub weaves_empty : (p : Piece) (name : List ℕ) (attrs : List Attr) (first last : List Piece) → p.item ≡ empty_tag name attrs → Weaves (p ∷ []) (first ∷ last ∷ []) (opened name attrs p (first ++ last))
weaves_empty p name attrs first last is after others = ap (λ i. at_piece i p (first ∷ last ∷ others) ++ woven after (drop (tags_in i) (first ∷ last ∷ others))) is

-- The pieces of some items, in two parts.

pub record ItemParts (pieces : List Piece) (first second : List Item) : Type 0 where
  pub before : List Piece
  pub after : List Piece
  pub pieces_are : pieces ≡ before ++ after
  pub before_is : items_of before ≡ first
  pub after_is : items_of after ≡ second

pub item_parts : (pieces : List Piece) (first second : List Item) → items_of pieces ≡ first ++ second → ItemParts pieces first second
item_parts pieces [] second e = record { before = []; after = pieces; pieces_are = refl; before_is = refl; after_is = e }
item_parts [] (i ∷ first) second e = absurd cc
item_parts (p ∷ pieces) (i ∷ first) second e =
    let rest_is : items_of pieces ≡ first ++ second = cc in
    let more = item_parts pieces first second rest_is in
    let one : p.item ≡ i = cc in
    record { before = p ∷ more.before; after = more.after; pieces_are = ap (λ t. p ∷ t) more.pieces_are; before_is = ap (λ t. t ∷ items_of more.before) one ∙ ap (λ t. i ∷ t) more.before_is; after_is = more.after_is }

pub record OnePiece (pieces : List Piece) (item : Item) : Type 0 where
  pub one : Piece
  pub pieces_are : pieces ≡ one ∷ []
  pub item_is : one.item ≡ item

pub one_piece : (pieces : List Piece) (item : Item) → items_of pieces ≡ item ∷ [] → OnePiece pieces item
one_piece [] item e = absurd cc
one_piece (p ∷ []) item e = record { one = p; pieces_are = refl; item_is = cc }
one_piece (p ∷ q ∷ pieces) item e = absurd cc
