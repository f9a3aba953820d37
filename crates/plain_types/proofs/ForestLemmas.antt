-- The rows of a forest spell that forest.
use Rattle.std.proofs.Common.{◌≡◌, ℕ, zero, suc, ◌+◌, ◌<◌, ◌≤◌, List, [], ◌∷◌, ◌++◌, length, refl, sym, ◌∙◌, ap, append-nil, append_assoc, add-one, arith}
use Rattle.forest.specs.Forest.{Forest, Empty, Tree}
use Rattle.plain_types.specs.Rows.{rows, at_depth, put, waiting, forest_of}
use Rattle.plain_types.specs.declared.node.Node.{Node}
use Rattle.plain_types.specs.declared.row.Row.{Row}
use Rattle.plain_types.proofs.RowLemmas.{length-put, past}

-- what waits once the trees of a forest at this depth come before what waits
abbrev hung : ℕ → Forest Node → List (Forest Node) → List (Forest Node)
hung depth Empty waits = waits
hung depth (Tree node children after) waits = put depth node (hung (depth + 1) children (hung depth after waits))

waiting-rows : (depth : ℕ) (forest : Forest Node) (rest : List Row) → waiting (rows depth forest ++ rest) ≡ hung depth forest (waiting rest)
waiting-rows depth Empty rest = refl
waiting-rows depth (Tree node children after) rest =
    ap (λ waits. put depth node waits)
    (ap (λ all. waiting all) (append_assoc (rows (depth + 1) children) (rows depth after) rest)
    ∙ waiting-rows (depth + 1) children (rows depth after ++ rest)
    ∙ ap (λ waits. hung (depth + 1) children waits) (waiting-rows depth after rest))

put-at : (depth : ℕ) (node : Node) (waits : List (Forest Node)) → at_depth depth (put depth node waits) ≡ Tree node (at_depth (suc depth) waits) (at_depth depth waits)
put-at zero node waits = refl
put-at (suc depth) node [] = put-at depth node []
put-at (suc depth) node (trees ∷ deeper) = put-at depth node deeper

put-above : (depth high : ℕ) (node : Node) (waits : List (Forest Node)) → high < depth → at_depth high (put depth node waits) ≡ at_depth high waits
put-above zero high node waits less = absurd (omega arith)
put-above (suc depth) zero node [] less = refl
put-above (suc depth) (suc high) node [] less = put-above depth high node [] (omega arith)
put-above (suc depth) zero node (trees ∷ deeper) less = refl
put-above (suc depth) (suc high) node (trees ∷ deeper) less = put-above depth high node deeper (omega arith)

length-hung : (depth : ℕ) (forest : Forest Node) (waits : List (Forest Node)) → length waits ≤ depth + 1 → length (hung depth forest waits) ≤ depth + 1
length-hung depth Empty waits short = short
length-hung depth (Tree node children after) waits short = omega (arith, length-put depth node (hung (depth + 1) children (hung depth after waits)))

hung-above : (depth high : ℕ) (forest : Forest Node) (waits : List (Forest Node)) → high < depth → at_depth high (hung depth forest waits) ≡ at_depth high waits
hung-above depth high Empty waits less = refl
hung-above depth high (Tree node children after) waits less =
    put-above depth high _ _ less ∙ hung-above (depth + 1) high children (hung depth after waits) (omega arith) ∙ hung-above depth high after waits less

-- the forest comes back
hung-at : (depth : ℕ) (forest : Forest Node) (waits : List (Forest Node)) → length waits ≤ depth → at_depth depth (hung depth forest waits) ≡ forest
hung-at depth Empty waits short = past depth waits short
hung-at depth (Tree node children after) waits short =
    let inner : at_depth (suc depth) (hung (depth + 1) children (hung depth after waits)) ≡ children = ap (λ d. at_depth d (hung (depth + 1) children (hung depth after waits))) (sym (add-one depth)) ∙ hung-at (depth + 1) children (hung depth after waits) (length-hung depth after waits (omega arith)) in
    let beside : at_depth depth (hung (depth + 1) children (hung depth after waits)) ≡ after = hung-above (depth + 1) depth children (hung depth after waits) (omega arith) ∙ hung-at depth after waits short in
    put-at depth node (hung (depth + 1) children (hung depth after waits))
    ∙ (λ i. Tree node (inner i) (beside i))

-- the rows of a forest spell it
pub forest_of-rows : (forest : Forest Node) → forest_of (rows 0 forest) ≡ forest
forest_of-rows forest =
    ap (λ all. forest_of all) (sym (append-nil (rows 0 forest)))
    ∙ ap (λ waits. at_depth 0 waits) (waiting-rows 0 forest [])
    ∙ hung-at 0 forest [] (omega arith)

-- so they tell it from every other
pub rows_same : (first second : Forest Node) → rows 0 first ≡ rows 0 second → first ≡ second
rows_same first second same = sym (forest_of-rows first) ∙ ap (λ all. forest_of all) same ∙ forest_of-rows second
