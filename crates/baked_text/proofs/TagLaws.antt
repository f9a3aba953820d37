-- The tags of a document: what is put in at them, what finds no place, and how many there are.
use Rattle.std.proofs.Common.{◌≡◌, ℕ, zero, suc, ◌+◌, Bool, true, false, cond, List, [], ◌∷◌, ◌++◌, Some, length, take, drop, map, refl, sym, ap, ◌∙◌, arith}
use Rattle.std.proofs.lemmas.Bool.{and_parts}
use Rattle.std.proofs.lemmas.List.{length-append, map-append}
use Rattle.std.specs.List.{flat_map, list_all}
use Rattle.bake_definitions.specs.Baked.{Annotated, without_insertions}
use Rattle.bake_definitions.specs.Insertions.{Insertion, takes_span}
use Rattle.bake_definitions.specs.Pieces.{Piece, items_of}
use Rattle.bake_definitions.specs.Places.{left_out, placed, with_place, without_place}
use Rattle.bake_definitions.specs.Tags.{Tag, next_tag, tag, tags_of, tags_round}
use Rattle.bake_definitions.specs.Woven.{at_next, at_node, at_tags, insertion_pieces, tags_in}
use Rattle.baked_text.specs.Machinery.{left_out_at, left_out_on, pieces_at, tags_among}
use Rattle.forest.specs.Forest.{Forest, Empty, Tree, then_tree}
use Rattle.plain_types.specs.declared.attr.Attr.{Attr}
use Rattle.plain_types.specs.declared.node.Node.{Node}
use Rattle.plain_types.specs.declared.node.Node.TheVariants.{Element, Text}
use Rattle.xml_definitions.specs.Documents.{IsContent, IsDocument, IsElement, IsProlog, and_characters, and_element, document, empty_element, is_misc, left_by, no_content, whole_element, with_doctype, without_doctype}
use Rattle.xml_definitions.specs.Items.{Item, doctype, comment, instruction, start_tag, empty_tag, end_tag, reference, section, plain_character}
use Rattle.xml_definitions.specs.Nodes.{joined_with, then_characters, then_some_characters}

-- What is put in at the tags.

put_there : (name : List ℕ) (insertions : List Insertion) → pieces_at (tag name insertions) ≡ flat_map (insertion_pieces name) (cond (takes_span name) insertions [])
put_there name insertions = go (takes_span name)
  where
    go : (b : Bool) → cond b (flat_map (insertion_pieces name) insertions) [] ≡ flat_map (insertion_pieces name) (cond b insertions [])
    go true = refl
    go false = refl

put_round : (node : Node) (first last : List Insertion) (inside : List Tag) → map pieces_at (tags_round node first last inside) ≡ at_node node (with_place node first) (with_place node last) (map pieces_at inside)
put_round (Text characters) first last inside = refl
put_round (Element name attrs) first last inside =
    ap (λ t. t ∷ map pieces_at (inside ++ tag name last ∷ [])) (put_there name first)
    ∙ ap (λ t. flat_map (insertion_pieces name) (cond (takes_span name) first []) ∷ t)
    (map-append pieces_at inside (tag name last ∷ []) ∙ ap (λ t. map pieces_at inside ++ t ∷ []) (put_there name last))

pub put_at_tags : (tree : Forest Annotated) → map pieces_at (tags_of tree) ≡ at_tags (placed tree)
put_at_tags Empty = refl
put_at_tags (Tree a children after) =
    map-append pieces_at (tags_round a.node a.first a.last (tags_of children)) (tags_of after)
    ∙ ap (λ t. t ++ map pieces_at (tags_of after)) (put_round a.node a.first a.last (tags_of children))
    ∙ ap (λ t. at_node a.node (with_place a.node a.first) (with_place a.node a.last) t ++ map pieces_at (tags_of after)) (put_at_tags children)
    ∙ ap (λ t. at_node a.node (with_place a.node a.first) (with_place a.node a.last) (at_tags (placed children)) ++ t) (put_at_tags after)

-- at the next of some tags
pub put_at_next : (tags : List Tag) → at_next (map pieces_at tags) ≡ pieces_at (next_tag tags)
put_at_next [] = go (takes_span [])
  where
    go : (b : Bool) → [] ≡ cond b (flat_map (insertion_pieces []) []) []
    go true = refl
    go false = refl
put_at_next (t ∷ tags) = refl

pub put_past : (n : ℕ) (tags : List Tag) → drop n (map pieces_at tags) ≡ map pieces_at (drop n tags)
put_past zero tags = refl
put_past (suc n) [] = refl
put_past (suc n) (t ∷ tags) = put_past n tags

-- What finds no place.

pub left_out-append : (tags others : List Tag) → left_out_on (tags ++ others) ≡ left_out_on tags + left_out_on others
left_out-append [] others = omega arith
left_out-append (t ∷ tags) others = omega (arith, left_out-append tags others)

pub left_out_past : (n : ℕ) (tags : List Tag) → left_out_on (take n tags) + left_out_on (drop n tags) ≡ left_out_on tags
left_out_past zero tags = omega arith
left_out_past (suc n) [] = omega arith
left_out_past (suc n) (t ∷ tags) = omega (arith, left_out_past n tags)

left_out_round : (node : Node) (first last : List Insertion) (inside : List Tag) → left_out_on (tags_round node first last inside) ≡ (without_place node first + without_place node last) + left_out_on inside
left_out_round (Text characters) first last inside = omega arith
left_out_round (Element name attrs) first last inside = let both = left_out-append inside (tag name last ∷ []) in omega (arith, both)

pub left_out_tags : (tree : Forest Annotated) → left_out_on (tags_of tree) ≡ left_out tree
left_out_tags Empty = refl
left_out_tags (Tree a children after) =
    let both = left_out-append (tags_round a.node a.first a.last (tags_of children)) (tags_of after) in
    let round = left_out_round a.node a.first a.last (tags_of children) in
    omega (arith, both, round, left_out_tags children, left_out_tags after)

-- How many there are.

abbrev tags_of_node : Node → ℕ
tags_of_node (Text characters) = 0
tags_of_node (Element name attrs) = 2

abbrev pub tag_count : Forest Node → ℕ
tag_count Empty = 0
tag_count (Tree node children after) = tags_of_node node + (tag_count children + tag_count after)

abbrev pub item_count : List Item → ℕ
item_count [] = 0
item_count (item ∷ items) = tags_in item + item_count items

round_count : (node : Node) (first last : List Insertion) (inside : List Tag) → length (tags_round node first last inside) ≡ tags_of_node node + length inside
round_count (Text characters) first last inside = omega arith
round_count (Element name attrs) first last inside = omega (arith, length-append inside (tag name last ∷ []))

tree_count : (tree : Forest Annotated) → length (tags_of tree) ≡ tag_count (without_insertions tree)
tree_count Empty = refl
tree_count (Tree a children after) =
    omega (arith, length-append (tags_round a.node a.first a.last (tags_of children)) (tags_of after), round_count a.node a.first a.last (tags_of children), tree_count children, tree_count after)

pieces_count : (pieces : List Piece) → tags_among pieces ≡ item_count (items_of pieces)
pieces_count [] = refl
pieces_count (p ∷ pieces) = ap (λ n. tags_in p.item + n) (pieces_count pieces)

count-append : (items others : List Item) → item_count (items ++ others) ≡ item_count items + item_count others
count-append [] others = omega arith
count-append (item ∷ items) others = omega (arith, count-append items others)

count_then : (nodes : Forest Node) (node : Node) (children : Forest Node) → tag_count (then_tree nodes node children) ≡ tag_count nodes + (tags_of_node node + tag_count children)
count_then Empty node children = omega arith
count_then (Tree n inside after) node children = omega (arith, count_then after node children)

count_joined : (node : Node) (children : Forest Node) (characters : List ℕ) → tag_count (joined_with node children characters) ≡ tags_of_node node + tag_count children
count_joined (Element name attrs) children characters = omega arith
count_joined (Text before) children characters = omega arith

count_some : (nodes : Forest Node) (characters : List ℕ) → tag_count (then_some_characters nodes characters) ≡ tag_count nodes
count_some Empty characters = refl
count_some (Tree node children Empty) characters = omega (arith, count_joined node children characters)
count_some (Tree node children (Tree next inside after)) characters = omega (arith, count_some (Tree next inside after) characters)

count_characters : (nodes : Forest Node) (characters : List ℕ) → tag_count (then_characters nodes characters) ≡ tag_count nodes
count_characters nodes [] = refl
count_characters nodes (c ∷ characters) = count_some nodes (c ∷ characters)

no_tag : (item : Item) (characters : List ℕ) → left_by item ≡ Some characters → tags_in item ≡ 0
no_tag doctype characters left = refl
no_tag comment characters left = refl
no_tag instruction characters left = refl
no_tag (start_tag name attrs) characters left = absurd cc
no_tag (empty_tag name attrs) characters left = absurd cc
no_tag (end_tag name) characters left = absurd cc
no_tag (reference c) characters left = refl
no_tag (section inside) characters left = refl
no_tag (plain_character c) characters left = refl

misc_no_tag : (item : Item) → is_misc item ≡ true → tags_in item ≡ 0
misc_no_tag doctype misc = refl
misc_no_tag comment misc = refl
misc_no_tag instruction misc = refl
misc_no_tag (start_tag name attrs) misc = absurd cc
misc_no_tag (empty_tag name attrs) misc = absurd cc
misc_no_tag (end_tag name) misc = absurd cc
misc_no_tag (reference c) misc = refl
misc_no_tag (section inside) misc = refl
misc_no_tag (plain_character c) misc = refl

misc_count : (items : List Item) → list_all is_misc items ≡ true → item_count items ≡ 0
misc_count [] misc = refl
misc_count (item ∷ items) misc =
    let test = and_parts (is_misc item) (list_all is_misc items) misc in
    omega (arith, misc_no_tag item test.0, misc_count items test.1)

prolog_count : {items : List Item} → IsProlog items → item_count items ≡ 0
prolog_count (without_doctype misc are) = misc_count misc are
prolog_count (with_doctype first second a b) = omega (arith, count-append first (doctype ∷ second), misc_count first a, misc_count second b)

mutual
  content_count : {items : List Item} {nodes : Forest Node} → IsContent items nodes → item_count items ≡ tag_count nodes
  content_count no_content = refl
  content_count (and_characters {before} {nodes} content item characters left) =
      omega (arith, content_count content, count-append before (item ∷ []), no_tag item characters left, count_characters nodes characters)
  content_count (and_element {before} {one} {nodes} {children} {name} {attrs} content element) =
      omega (arith, content_count content, element_count element, count-append before one, count_then nodes (Element name attrs) children)

  element_count : {items : List Item} {name : List ℕ} {attrs : List Attr} {children : Forest Node} → IsElement items name attrs children → item_count items ≡ 2 + tag_count children
  element_count (empty_element name attrs) = refl
  element_count (whole_element name attrs {inside} content) = omega (arith, content_count content, count-append inside (end_tag name ∷ []))

document_count : {items : List Item} {tree : Forest Node} → IsDocument items tree → item_count items ≡ tag_count tree
document_count (document {before} {root} after {name} {attrs} {children} prolog element misc) =
    omega (arith, count-append (before ++ root) after, count-append before root, prolog_count prolog, element_count element, misc_count after misc)

-- a document's pieces have as many tags as its tree
pub tags_counted : (pieces : List Piece) (items : List Item) (tree : Forest Annotated) → items ≡ items_of pieces → IsDocument items (without_insertions tree) → length (tags_of tree) ≡ tags_among pieces
tags_counted pieces items tree is allowed = tree_count tree ∙ sym (document_count allowed) ∙ ap item_count is ∙ sym (pieces_count pieces)
