-- The examples of the crate's page, which compute.
use Rattle.std.proofs.Common.{◌≡◌, [], ◌∷◌, refl, codes}
use Rattle.forest.specs.Forest.{Forest, Empty, Tree}
use Rattle.plain_types.specs.declared.edit.Edit.TheVariants.{Move, SetAttr, UnsetAttr}
use Rattle.plain_types.specs.declared.node.Node.{Node}
use Rattle.plain_types.specs.declared.node.Node.TheVariants.{Element, Text}
use Rattle.node_arena.specs.Edits.{edited}
use Rattle.edit_inverses.specs.Inverses.{inverse_of}

-- <ol><li>a<ul/></li><li>b</li></ol>
abbrev list : Forest Node
list =
    Tree (Element (codes "ol") [])
    (Tree (Element (codes "li") []) (Tree (Text (codes "a")) Empty (Tree (Element (codes "ul") []) Empty Empty))
    (Tree (Element (codes "li") []) (Tree (Text (codes "b")) Empty Empty) Empty)) Empty

-- move /1 /0/1 0 makes of it <ol><li>a<ul><li>b</li></ul></li></ol>, and move /0/1/0 / 1 undoes that
moves_in : edited (Move (1 ∷ []) (0 ∷ 1 ∷ []) 0) list
    ≡ Tree (Element (codes "ol") [])
    (Tree (Element (codes "li") []) (Tree (Text (codes "a")) Empty (Tree (Element (codes "ul") []) (Tree (Element (codes "li") []) (Tree (Text (codes "b")) Empty Empty) Empty) Empty)) Empty) Empty
moves_in = refl

moves_out : inverse_of (Move (1 ∷ []) (0 ∷ 1 ∷ []) 0) list [] ≡ Move (0 ∷ 1 ∷ 0 ∷ []) [] 1
moves_out = refl

-- <body><p/><ul><li/></ul></body>
abbrev body : Forest Node
body =
    Tree (Element (codes "body") [])
    (Tree (Element (codes "p") []) Empty (Tree (Element (codes "ul") []) (Tree (Element (codes "li") []) Empty Empty) Empty)) Empty

-- move /1/0 / 0 makes of it <body><li/><p/><ul/></body>, and move /0 /2 0 undoes that
moves_up : edited (Move (1 ∷ 0 ∷ []) [] 0) body
    ≡ Tree (Element (codes "body") []) (Tree (Element (codes "li") []) Empty (Tree (Element (codes "p") []) Empty (Tree (Element (codes "ul") []) Empty Empty))) Empty
moves_up = refl

moves_back : inverse_of (Move (1 ∷ 0 ∷ []) [] 0) body [] ≡ Move (0 ∷ []) (2 ∷ []) 0
moves_back = refl

-- <p id="a" class="b"/>
abbrev named : Forest Node
named = Tree (Element (codes "p") (record { name = codes "id"; value = codes "a" } ∷ record { name = codes "class"; value = codes "b" } ∷ [])) Empty Empty

-- unset / id makes of it <p class="b"/>, and set / id a undoes that, but for the order
unsets : edited (UnsetAttr [] (codes "id")) named ≡ Tree (Element (codes "p") (record { name = codes "class"; value = codes "b" } ∷ [])) Empty Empty
unsets = refl

sets_again : inverse_of (UnsetAttr [] (codes "id")) named [] ≡ SetAttr [] (codes "id") (codes "a")
sets_again = refl

goes_last : edited (SetAttr [] (codes "id") (codes "a")) (edited (UnsetAttr [] (codes "id")) named)
    ≡ Tree (Element (codes "p") (record { name = codes "class"; value = codes "b" } ∷ record { name = codes "id"; value = codes "a" } ∷ [])) Empty Empty
goes_last = refl
