-- Trees that are put one after the other, and one in the other.
use Rattle.std.proofs.Common.{◌≡◌, ℕ, ◌+◌, ◌-◌, List, [], ◌∷◌, ◌++◌, refl, sym, ap, ◌∙◌, append_assoc, append-nil, arith}
use Rattle.forest.specs.Forest.{Forest, Empty, Tree}
use Rattle.plain_types.specs.Building.{Building}
use Rattle.plain_types.specs.Rows.{row, rows}
use Rattle.plain_types.specs.declared.attr.Attr.{Attr}
use Rattle.plain_types.specs.declared.node.Node.{Node}
use Rattle.plain_types.specs.declared.node.Node.TheVariants.{Element}
use Rattle.plain_types.specs.declared.row.Row.{Row}
use Rattle.edit_script.specs.Generator.{element_node}
use Rattle.edit_script.specs.Machinery.Putting.{with_trees}

abbrev built : List Row → ℕ → Building
built all inside = record { rows = all; inside = inside }

same_built : (first second : List Row) (m n : ℕ) → first ≡ second → m ≡ n → built first m ≡ built second n
same_built first second m n p q = λ i. record { rows = p i; inside = q i }

-- what is built once an element is begun
abbrev pub with_start : Building → List ℕ → List Attr → Building
with_start building name attrs = record { rows = building.rows ++ row building.inside (Element name attrs) ∷ []; inside = building.inside + 1 }

-- an element is begun, trees are put into it, and it ends
pub put-inside : (before begun filled ended : Building) (name : List ℕ) (attrs : List Attr) (children : Forest Node)
    → begun ≡ with_start before name attrs → filled ≡ with_trees begun children
    → ended ≡ record { rows = filled.rows; inside = filled.inside - 1 } → ended ≡ with_trees before (element_node name attrs children Empty)
put-inside before begun filled ended name attrs children begins fills ends =
    let first : Row = row before.inside (Element name attrs) in
    let inner : List Row = rows (before.inside + 1) children in
    let whole : filled ≡ with_trees (with_start before name attrs) children = fills ∙ ap (λ (b : Building). with_trees b children) begins in
    let same : (before.rows ++ first ∷ []) ++ inner ≡ before.rows ++ (first ∷ (inner ++ [])) =
    append_assoc before.rows (first ∷ []) inner ∙ ap (λ (t : List Row). before.rows ++ (first ∷ t)) (sym (append-nil inner)) in
    ends ∙ ap (λ (b : Building). built b.rows (b.inside - 1)) whole
    ∙ same_built ((before.rows ++ first ∷ []) ++ inner) (before.rows ++ (first ∷ (inner ++ []))) (before.inside + 1 - 1) before.inside same (omega arith)

-- a tree, and then those after it
pub put-then : (before one all : Building) (node : Node) (children after : Forest Node) → one ≡ with_trees before (Tree node children Empty) → all ≡ with_trees one after
    → all ≡ with_trees before (Tree node children after)
put-then before one all node children after first then_after =
    let top : Row = row before.inside node in
    let inner : List Row = rows (before.inside + 1) children in
    let rest : List Row = rows before.inside after in
    let same : (before.rows ++ (top ∷ (inner ++ []))) ++ rest ≡ before.rows ++ (top ∷ (inner ++ rest)) =
    append_assoc before.rows (top ∷ (inner ++ [])) rest ∙ ap (λ (t : List Row). before.rows ++ (top ∷ (t ++ rest))) (append-nil inner) in
    then_after ∙ ap (λ (b : Building). with_trees b after) first
    ∙ same_built ((before.rows ++ (top ∷ (inner ++ []))) ++ rest) (before.rows ++ (top ∷ (inner ++ rest))) before.inside before.inside same refl

-- no tree
pub put-none : (building : Building) → with_trees building Empty ≡ building
put-none building = same_built (building.rows ++ []) building.rows building.inside building.inside (append-nil building.rows) refl
