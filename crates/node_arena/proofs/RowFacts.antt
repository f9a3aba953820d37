-- The rows of a tree, one after the other.
use Rattle.std.proofs.Common.{◌≡◌, ◌<◌, ◌≤◌, ◌+◌, ℕ, zero, suc, List, [], ◌∷◌, ◌++◌, length, map, take, drop, get_or, refl, sym, ap, subst, ◌∙◌, arith, append_assoc, append-nil, length-append, take-append-drop, drop-cons}
use Rattle.std.proofs.lemmas.List.{map-append}
use Rattle.forest.specs.Forest.{Forest, Empty, Tree, size}
use Rattle.forest.specs.Keys.{Keyed, without_keys}
use Rattle.forest.proofs.StandLaws.{with_depths}
use Rattle.forest.proofs.GrowLaws.{spine}
use Rattle.plain_types.specs.Rows.{row, rows}
use Rattle.plain_types.specs.Tree.{IsOne}
use Rattle.plain_types.specs.declared.node.Node.{Node}
use Rattle.plain_types.specs.declared.row.Row.{Row}

-- each row is at most one deeper than the one before it
abbrev Climbs : ℕ → List Row → Type 0
Climbs bound [] = Unit {0}
Climbs bound (first ∷ rest) = (first.depth ≤ bound) × Climbs (first.depth + 1) rest

abbrev bound_after : ℕ → List Row → ℕ
bound_after bound [] = bound
bound_after bound (first ∷ rest) = bound_after (first.depth + 1) rest

rows-climb : (d b : ℕ) (f : Forest Node) (rest : List Row) → d ≤ b → ((c : ℕ) → d ≤ c → Climbs c rest) → Climbs b (rows d f ++ rest)
rows-climb d b Empty rest low more = more b low
rows-climb d b (Tree node children after) rest low more = (
  low,
  subst (Climbs (d + 1)) (sym (append_assoc (rows (d + 1) children) (rows d after) rest))
      (rows-climb (d + 1) (d + 1) children (rows d after ++ rest) (omega arith) (λ c deep. rows-climb d c after rest (omega arith) more)),
)

climbs-append : (b : ℕ) (front : List Row) (one : Row) (rest : List Row) → Climbs b (front ++ one ∷ rest) → one.depth ≤ bound_after b front
climbs-append b [] one rest h = h.0
climbs-append b (first ∷ front) one rest h = climbs-append (first.depth + 1) front one rest h.1

bound-append : (b : ℕ) (xs ys : List Row) → bound_after b (xs ++ ys) ≡ bound_after (bound_after b xs) ys
bound-append b [] ys = refl
bound-append b (x ∷ xs) ys = bound-append (x.depth + 1) xs ys

bound-rows : (d b : ℕ) (f : Forest Node) → b ≡ d → bound_after b (rows d f) ≡ d + length (spine f)
bound-rows d b Empty is = omega arith
bound-rows d b (Tree node children Empty) is =
    ap (bound_after (d + 1)) (append-nil (rows (d + 1) children)) ∙ bound-rows (d + 1) (d + 1) children refl ∙ omega arith
bound-rows d b (Tree node children (Tree next inside after)) is =
    bound-append (d + 1) (rows (d + 1) children) (rows d (Tree next inside after)) ∙ bound-rows d d (Tree next inside after) refl

-- all rows but that of the root are below it
abbrev AreBelow : List Row → Type 0
AreBelow [] = Unit {0}
AreBelow (first ∷ rest) = (1 ≤ first.depth) × AreBelow rest

below-append : (xs ys : List Row) → AreBelow xs → AreBelow ys → AreBelow (xs ++ ys)
below-append [] ys h k = k
below-append (x ∷ xs) ys h k = (h.0, below-append xs ys h.1 k)

rows-below : (d : ℕ) (f : Forest Node) → 1 ≤ d → AreBelow (rows d f)
rows-below d Empty low = tt
rows-below d (Tree node children after) low = (low, below-append (rows (d + 1) children) (rows d after) (rows-below (d + 1) children (omega arith)) (rows-below d after low))

below-at : (all : List Row) (k : ℕ) (one : Row) → AreBelow all → k < length all → 1 ≤ (get_or all k one).depth
below-at [] k one h within = absurd (omega arith)
below-at (first ∷ rest) zero one h within = h.0
below-at (first ∷ rest) (suc k) one h within = below-at rest k one h.1 (omega arith)

-- a row behind the first is below the root
pub not-root-row : (t : Forest Node) (place : ℕ) (one : Row) → IsOne t → 1 ≤ place → place < length (rows 0 t) → 1 ≤ (get_or (rows 0 t) place one).depth
not-root-row Empty place one is some within = absurd is
not-root-row (Tree node children after) zero one is some within = absurd (omega arith)
not-root-row (Tree node children after) (suc place) one is some within =
    below-at (rows 1 children ++ rows 0 after) place one
    (below-append (rows 1 children) (rows 0 after) (rows-below 1 children (omega arith)) (subst (λ g. AreBelow (rows 0 g)) (sym is) tt))
    (omega arith)

-- and not deeper than below the one before it
pub row-within : (t g : Forest Node) (place : ℕ) (one : Row) → rows 0 g ≡ take place (rows 0 t) → place < length (rows 0 t) → (get_or (rows 0 t) place one).depth ≤ length (spine g)
row-within t g place one is within =
    let all : List Row = rows 0 t in
    let next : Row = get_or all place one in
    let parts : rows 0 g ++ next ∷ drop (suc place) all ≡ all = ap (λ front. front ++ next ∷ drop (suc place) all) is ∙ ap (λ rest. take place all ++ rest) (sym (drop-cons all place one within)) ∙ take-append-drop place all in
    let climbs : Climbs 0 all = subst (Climbs 0) (append-nil all) (rows-climb 0 0 t [] (omega arith) (λ c low. tt)) in
    omega (arith, climbs-append 0 (rows 0 g) next (drop (suc place) all) (subst (Climbs 0) (sym parts) climbs), bound-rows 0 0 g refl)

-- the rows of a keyed tree
abbrev pub row_of : ℕ × Keyed Node → Row
row_of one = row one.0 one.1.label

pub rows-with_depths : (d : ℕ) (f : Forest (Keyed Node)) → rows d (without_keys f) ≡ map row_of (with_depths d f)
rows-with_depths d Empty = refl
rows-with_depths d (Tree n c r) =
    ap (λ rest. row d n.label ∷ rest)
    (ap (λ front. front ++ rows d (without_keys r)) (rows-with_depths (d + 1) c)
    ∙ ap (λ rest. map row_of (with_depths (d + 1) c) ++ rest) (rows-with_depths d r)
    ∙ sym (map-append row_of (with_depths (d + 1) c) (with_depths d r)))

pub length-spine : (f : Forest (Keyed Node)) → length (spine (without_keys f)) ≡ length (spine f)
length-spine Empty = refl
length-spine (Tree n c Empty) = omega (arith, length-spine c)
length-spine (Tree n c (Tree m i r)) = length-spine (Tree m i r)

pub length-rows : (d : ℕ) (f : Forest Node) → length (rows d f) ≡ size f
length-rows d Empty = refl
length-rows d (Tree node children after) = omega (arith, length-append (rows (d + 1) children) (rows d after), length-rows (d + 1) children, length-rows d after)

pub size-without_keys : (f : Forest (Keyed Node)) → size (without_keys f) ≡ size f
size-without_keys Empty = refl
size-without_keys (Tree n c r) = omega (arith, size-without_keys c, size-without_keys r)
