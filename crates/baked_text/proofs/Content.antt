-- The items of a document with the insertions of its tags are those of the baked tree.
use Rattle.std.proofs.Common.{◌≡◌, ℕ, List, [], ◌∷◌, ◌++◌, refl, sym, ap, ◌∙◌, append_assoc, append-nil}
use Rattle.bake_definitions.specs.Baked.{Annotated, baked, filled, without_insertions}
use Rattle.bake_definitions.specs.Woven.{at_node, at_tags}
use Rattle.forest.specs.Forest.{Forest, Empty, Tree, then_tree}
use Rattle.plain_types.specs.declared.attr.Attr.{Attr}
use Rattle.plain_types.specs.declared.node.Node.{Node}
use Rattle.plain_types.specs.declared.node.Node.TheVariants.{Element, Text}
use Rattle.xml_definitions.specs.Nodes.{joined_with, then_characters, then_element, then_some_characters}

-- A document that ends in an element, read from its end.

pub record ThenElement (document : Forest Annotated) (nodes : Forest Node) (name : List ℕ) (attrs : List Attr) (children : Forest Node) : Type 0 where
  pub before : Forest Annotated
  pub last : Annotated
  pub inside : Forest Annotated
  pub document_is : document ≡ then_tree before last inside
  pub before_is : without_insertions before ≡ nodes
  pub last_is : last.node ≡ Element name attrs
  pub inside_is : without_insertions inside ≡ children

pub is_empty : (document : Forest Annotated) → without_insertions document ≡ Empty → document ≡ Empty
is_empty Empty e = refl
is_empty (Tree a c d) e = absurd cc

pub last_element : (document : Forest Annotated) (nodes : Forest Node) (name : List ℕ) (attrs : List Attr) (children : Forest Node)
    → without_insertions document ≡ then_element nodes name attrs children → ThenElement document nodes name attrs children
last_element Empty Empty name attrs children e = absurd cc
last_element Empty (Tree n i r) name attrs children e = absurd cc
last_element (Tree a inside after) Empty name attrs children e =
    let none : without_insertions after ≡ Empty = cc in
    record { before = Empty; last = a; inside = inside; document_is = ap (λ t. Tree a inside t) (is_empty after none); before_is = refl; last_is = cc; inside_is = cc }
last_element (Tree a inside after) (Tree node inner rest) name attrs children e =
    let rest_is : without_insertions after ≡ then_element rest name attrs children = cc in
    let more = last_element after rest name attrs children rest_is in
    let node_is : a.node ≡ node = cc in
    let inner_is : without_insertions inside ≡ inner = cc in
    record {
      before = Tree a inside more.before;
      last = more.last;
      inside = more.inside;
      document_is = ap (λ t. Tree a inside t) more.document_is;
      before_is = ap (λ n. Tree n (without_insertions inside) (without_insertions more.before)) node_is ∙ ap (λ t. Tree node t (without_insertions more.before)) inner_is ∙ ap (λ t. Tree node inner t) more.before_is;
      last_is = more.last_is;
      inside_is = more.inside_is;
    }

-- what is put in, and the baked tree, at such a document
pub tags_then : (before : Forest Annotated) (last : Annotated) (inside : Forest Annotated)
    → at_tags (then_tree before last inside) ≡ at_tags before ++ at_node last.node last.first last.last (at_tags inside)
tags_then Empty last inside = append-nil _
tags_then (Tree a inner after) last inside =
    ap (λ t. at_node a.node a.first a.last (at_tags inner) ++ t) (tags_then after last inside)
    ∙ sym (append_assoc (at_node a.node a.first a.last (at_tags inner)) (at_tags after) (at_node last.node last.first last.last (at_tags inside)))

pub baked_then : (before : Forest Annotated) (last : Annotated) (inside : Forest Annotated)
    → baked (then_tree before last inside) ≡ then_tree (baked before) last.node (filled last.node last.first last.last (baked inside))
baked_then Empty last inside = refl
baked_then (Tree a inner after) last inside = ap (λ t. Tree a.node (filled a.node a.first a.last (baked inner)) t) (baked_then after last inside)

-- A document that ends in characters.

pub record ThenCharacters (document : Forest Annotated) (nodes : Forest Node) (characters : List ℕ) : Type 0 where
  pub before : Forest Annotated
  pub before_is : without_insertions before ≡ nodes
  pub tags_are : at_tags document ≡ at_tags before
  pub baked_is : baked document ≡ then_characters (baked before) characters

-- a document of one text
one_text : (a : Annotated) (inside after : Forest Annotated) (c : ℕ) (cs : List ℕ) → a.node ≡ Text (c ∷ cs) → without_insertions inside ≡ Empty → without_insertions after ≡ Empty
    → ThenCharacters (Tree a inside after) Empty (c ∷ cs)
one_text a inside after c cs node_is inner_is after_is =
    let none = is_empty inside inner_is in
    let last = is_empty after after_is in
    record {
      before = Empty;
      before_is = refl;
      tags_are = ap (λ n. at_node n a.first a.last (at_tags inside) ++ at_tags after) node_is ∙ ap (λ t. at_tags t ++ at_tags after) none ∙ ap at_tags last;
      baked_is = ap (λ n. Tree n (filled n a.first a.last (baked inside)) (baked after)) node_is ∙ ap (λ t. Tree (Text (c ∷ cs)) (baked t) (baked after)) none ∙ ap (λ t. Tree (Text (c ∷ cs)) Empty (baked t)) last;
    }

-- characters after an element, and after a text
joined_last : (a : Annotated) (inside after : Forest Annotated) (node : Node) (children : Forest Node) (c : ℕ) (cs : List ℕ)
    → Tree a.node (without_insertions inside) (without_insertions after) ≡ joined_with node children (c ∷ cs) → ThenCharacters (Tree a inside after) (Tree node children Empty) (c ∷ cs)
joined_last a inside Empty (Element name attrs) children c cs e = absurd cc
joined_last a inside (Tree b inner after) (Element name attrs) children c cs e =
    let node_is : a.node ≡ Element name attrs = cc in
    let inside_is : without_insertions inside ≡ children = cc in
    let text_is : b.node ≡ Text (c ∷ cs) = cc in
    let inner_is : without_insertions inner ≡ Empty = cc in
    let after_is : without_insertions after ≡ Empty = cc in
    let last = one_text b inner after c cs text_is inner_is after_is in
    record {
      before = Tree a inside Empty;
      before_is = ap (λ n. Tree n (without_insertions inside) Empty) node_is ∙ ap (λ t. Tree (Element name attrs) t Empty) inside_is;
      tags_are = ap (λ t. at_node a.node a.first a.last (at_tags inside) ++ t) (last.tags_are ∙ ap at_tags (is_empty last.before last.before_is));
      baked_is =
          ap (λ t. Tree a.node (filled a.node a.first a.last (baked inside)) t) (last.baked_is ∙ ap (λ t. then_some_characters (baked t) (c ∷ cs)) (is_empty last.before last.before_is))
          ∙ ap (λ n. Tree n (filled n a.first a.last (baked inside)) (Tree (Text (c ∷ cs)) Empty Empty)) node_is
          ∙ sym (ap (λ n. then_some_characters (Tree n (filled n a.first a.last (baked inside)) Empty) (c ∷ cs)) node_is);
    }
joined_last a inside after (Text text) children c cs e =
    let node_is : a.node ≡ Text (text ++ c ∷ cs) = cc in
    let inside_is : without_insertions inside ≡ children = cc in
    let none : without_insertions after ≡ Empty = cc in
    let last = is_empty after none in
    record {
      before = Tree (record { node = Text text; first = []; last = [] }) inside Empty;
      before_is = ap (λ t. Tree (Text text) t Empty) inside_is;
      tags_are = ap (λ n. at_node n a.first a.last (at_tags inside) ++ at_tags after) node_is ∙ ap (λ t. at_tags inside ++ at_tags t) last;
      baked_is = ap (λ n. Tree n (filled n a.first a.last (baked inside)) (baked after)) node_is ∙ ap (λ t. Tree (Text (text ++ c ∷ cs)) (baked inside) (baked t)) last;
    }

not_empty : (document : Forest Annotated) (node : Node) (inner rest : Forest Node) → without_insertions document ≡ Tree node inner rest
    → (n : Node) (children : Forest Node) (cs : List ℕ) → then_some_characters (Tree n children (baked document)) cs ≡ Tree n children (then_some_characters (baked document) cs)
not_empty Empty node inner rest e n children cs = absurd cc
not_empty (Tree a c d) node inner rest e n children cs = refl

last_some : (document : Forest Annotated) (nodes : Forest Node) (c : ℕ) (cs : List ℕ) → without_insertions document ≡ then_some_characters nodes (c ∷ cs) → ThenCharacters document nodes (c ∷ cs)
last_some Empty Empty c cs e = absurd cc
last_some Empty (Tree (Element name attrs) children Empty) c cs e = absurd cc
last_some Empty (Tree (Text text) children Empty) c cs e = absurd cc
last_some Empty (Tree node children (Tree next inner rest)) c cs e = absurd cc
last_some (Tree a inside after) Empty c cs e =
    let node_is : a.node ≡ Text (c ∷ cs) = cc in
    let inner_is : without_insertions inside ≡ Empty = cc in
    let after_is : without_insertions after ≡ Empty = cc in
    one_text a inside after c cs node_is inner_is after_is
last_some (Tree a inside after) (Tree node children Empty) c cs e = joined_last a inside after node children c cs e
last_some (Tree a inside after) (Tree node children (Tree next inner rest)) c cs e =
    let rest_is : without_insertions after ≡ then_some_characters (Tree next inner rest) (c ∷ cs) = cc in
    let more = last_some after (Tree next inner rest) c cs rest_is in
    let node_is : a.node ≡ node = cc in
    let inside_is : without_insertions inside ≡ children = cc in
    record {
      before = Tree a inside more.before;
      before_is = ap (λ n. Tree n (without_insertions inside) (without_insertions more.before)) node_is ∙ ap (λ t. Tree node t (without_insertions more.before)) inside_is ∙ ap (λ t. Tree node children t) more.before_is;
      tags_are = ap (λ t. at_node a.node a.first a.last (at_tags inside) ++ t) more.tags_are;
      baked_is =
          ap (λ t. Tree a.node (filled a.node a.first a.last (baked inside)) t) more.baked_is
          ∙ sym (not_empty more.before next inner rest more.before_is a.node (filled a.node a.first a.last (baked inside)) (c ∷ cs));
    }

pub last_characters : (document : Forest Annotated) (nodes : Forest Node) (characters : List ℕ) → without_insertions document ≡ then_characters nodes characters → ThenCharacters document nodes characters
last_characters document nodes [] e = record { before = document; before_is = e; tags_are = refl; baked_is = refl }
last_characters document nodes (c ∷ cs) e = last_some document nodes c cs e
