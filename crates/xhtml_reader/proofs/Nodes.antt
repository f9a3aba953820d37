-- Trees that grow at their end, and their rows.
use Rattle.std.proofs.Common.{◌≡◌, ◌≢◌, ℕ, ◌+◌, false, List, [], ◌∷◌, ◌++◌, refl, sym, ap, ◌∙◌, append_assoc, append-nil}
use Rattle.forest.specs.Forest.{Forest, Empty, Tree, then_tree}
use Rattle.plain_types.specs.Rows.{row, rows}
use Rattle.plain_types.specs.declared.attr.Attr.{Attr}
use Rattle.plain_types.specs.declared.node.Node.{Node}
use Rattle.plain_types.specs.declared.node.Node.TheVariants.{Element, Text}
use Rattle.plain_types.specs.declared.row.Row.{Row}
use Rattle.xml_definitions.specs.Nodes.{then_element, joined_with, then_some_characters, then_characters}
use Rattle.xhtml_reader.specs.Machinery.Keeping.{ends_in_text, text_rows}

-- characters, and then more of them
joined_twice : (node : Node) (children : Forest Node) (a b : ℕ) (xs ys : List ℕ) → then_some_characters (joined_with node children (a ∷ xs)) (b ∷ ys) ≡ joined_with node children ((a ∷ xs) ++ b ∷ ys)
joined_twice (Element name attrs) children a b xs ys = refl
joined_twice (Text before) children a b xs ys = ap (λ (t : List ℕ). Tree (Text t) children Empty) (append_assoc before (a ∷ xs) (b ∷ ys))

some_twice : (nodes : Forest Node) (a b : ℕ) (xs ys : List ℕ) → then_some_characters (then_some_characters nodes (a ∷ xs)) (b ∷ ys) ≡ then_some_characters nodes ((a ∷ xs) ++ b ∷ ys)
some_twice Empty a b xs ys = refl
some_twice (Tree node children Empty) a b xs ys = joined_twice node children a b xs ys
some_twice (Tree node children (Tree next inner after)) a b xs ys = deeper node children (then_some_characters (Tree next inner after) (a ∷ xs)) _ b ys (not_empty next inner after (a ∷ xs)) (some_twice (Tree next inner after) a b xs ys)
  where
    not_empty : (next : Node) (inner after : Forest Node) (cs : List ℕ) → then_some_characters (Tree next inner after) cs ≢ Empty
    not_empty (Element name attrs) inner Empty cs e = cc
    not_empty (Text before) inner Empty cs e = cc
    not_empty next inner (Tree n i a) cs e = cc

    deeper : (node : Node) (children after result : Forest Node) (b : ℕ) (ys : List ℕ) → after ≢ Empty → then_some_characters after (b ∷ ys) ≡ result → then_some_characters (Tree node children after) (b ∷ ys) ≡ Tree node children result
    deeper node children Empty result b ys some e = absurd (some refl)
    deeper node children (Tree next inner after) result b ys some e = ap (λ (t : Forest Node). Tree node children t) e

pub then_characters-append : (nodes : Forest Node) (xs ys : List ℕ) → then_characters (then_characters nodes xs) ys ≡ then_characters nodes (xs ++ ys)
then_characters-append nodes [] ys = refl
then_characters-append nodes (a ∷ xs) [] = ap (λ (t : List ℕ). then_characters nodes t) (sym (append-nil (a ∷ xs)))
then_characters-append nodes (a ∷ xs) (b ∷ ys) = some_twice nodes a b xs ys

-- an element is no text
pub no_text_after : (nodes : Forest Node) (name : List ℕ) (attrs : List Attr) (children : Forest Node) → ends_in_text (then_element nodes name attrs children) ≡ false
no_text_after Empty name attrs children = refl
no_text_after (Tree node inner Empty) name attrs children = last_two node inner name attrs children
  where
    last_two : (node : Node) (inner : Forest Node) (name : List ℕ) (attrs : List Attr) (children : Forest Node) → ends_in_text (Tree node inner (Tree (Element name attrs) children Empty)) ≡ false
    last_two (Element n a) inner name attrs children = refl
    last_two (Text t) inner name attrs children = refl
no_text_after (Tree node inner (Tree next inmost after)) name attrs children = skips node inner next inmost (then_tree after (Element name attrs) children) (no_text_after (Tree next inmost after) name attrs children)
  where
    skips : (node : Node) (inner : Forest Node) (next : Node) (inmost after : Forest Node) → ends_in_text (Tree next inmost after) ≡ false → ends_in_text (Tree node inner (Tree next inmost after)) ≡ false
    skips (Element n a) inner next inmost after e = e
    skips (Text t) inner next inmost after e = e

pub not_empty_after : (nodes : Forest Node) (label : Node) (children : Forest Node) → then_tree nodes label children ≢ Empty
not_empty_after Empty label children e = cc
not_empty_after (Tree node inner after) label children e = cc

-- rows of what grew
pub rows-then_tree : (depth : ℕ) (nodes : Forest Node) (label : Node) (children : Forest Node) → rows depth (then_tree nodes label children) ≡ rows depth nodes ++ row depth label ∷ rows (depth + 1) children
rows-then_tree depth Empty label children = append-nil _
rows-then_tree depth (Tree node inner after) label children =
    ap (λ (t : List Row). row depth node ∷ (rows (depth + 1) inner ++ t)) (rows-then_tree depth after label children)
    ∙ ap (λ (t : List Row). row depth node ∷ t) (sym (append_assoc (rows (depth + 1) inner) (rows depth after) (row depth label ∷ rows (depth + 1) children)))

rows-some : (depth : ℕ) (nodes : Forest Node) (c : ℕ) (cs : List ℕ) → ends_in_text nodes ≡ false → rows depth (then_some_characters nodes (c ∷ cs)) ≡ rows depth nodes ++ row depth (Text (c ∷ cs)) ∷ []
rows-some depth Empty c cs h = refl
rows-some depth (Tree (Element n a) inner Empty) c cs h =
    ap (λ (t : List Row). row depth (Element n a) ∷ (t ++ row depth (Text (c ∷ cs)) ∷ [])) (sym (append-nil (rows (depth + 1) inner)))
rows-some depth (Tree (Text t) inner Empty) c cs h = absurd cc
rows-some depth (Tree node inner (Tree next inmost after)) c cs h =
    ap (λ (t : List Row). row depth node ∷ (rows (depth + 1) inner ++ t)) (rows-some depth (Tree next inmost after) c cs (skipped node inner next inmost after h))
    ∙ ap (λ (t : List Row). row depth node ∷ t) (sym (append_assoc (rows (depth + 1) inner) (rows depth (Tree next inmost after)) (row depth (Text (c ∷ cs)) ∷ [])))
  where
    skipped : (node : Node) (inner : Forest Node) (next : Node) (inmost after : Forest Node) → ends_in_text (Tree node inner (Tree next inmost after)) ≡ false → ends_in_text (Tree next inmost after) ≡ false
    skipped (Element n a) inner next inmost after e = e
    skipped (Text t) inner next inmost after e = e

pub rows-then_characters : (depth : ℕ) (nodes : Forest Node) (characters : List ℕ) → ends_in_text nodes ≡ false → rows depth (then_characters nodes characters) ≡ rows depth nodes ++ text_rows depth characters
rows-then_characters depth nodes [] h = sym (append-nil _)
rows-then_characters depth nodes (c ∷ cs) h = rows-some depth nodes c cs h
