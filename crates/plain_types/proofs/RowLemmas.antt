-- Rows that fit are the rows of the forest that they spell.
use Rattle.std.proofs.Common.{◌≡◌, ℕ, zero, suc, ◌+◌, ◌<◌, ◌≤◌, ◌⊎◌, inl, inr, List, [], ◌∷◌, ◌++◌, length, length-append, refl, ◌∙◌, sym, ap, subst, append-nil, zero-add, arith}
use Rattle.std.specs.Prelude.{IsTrue}
use Rattle.std.proofs.lemmas.Bool.Decides.{nat_tests}
use Rattle.forest.specs.Forest.{Forest, Empty}
use Rattle.plain_types.specs.Building.{accepts_node, is_whole, depth_after, Fits, bound_after, AreDeep, HasOneRoot, IsSoundNode, AreSoundNodes, IsBuilding}
use Rattle.plain_types.specs.Rows.{row, rows, at_depth, put, waiting, forest_of, IsSpelled}
use Rattle.plain_types.specs.Tree.{HasDistinctNames, AreSound, IsOne}
use Rattle.plain_types.specs.declared.attr.Attr.{Attr}
use Rattle.plain_types.specs.declared.node.Node.{Node}
use Rattle.plain_types.specs.declared.node.Node.TheVariants.{Element, Text}
use Rattle.plain_types.specs.declared.row.Row.{Row}

-- the rows of all trees that wait, the deepest first
abbrev flat : ℕ → List (Forest Node) → List Row
flat depth [] = []
flat depth (trees ∷ deeper) = flat (depth + 1) deeper ++ rows depth trees

depth_after_most : (node : Node) (depth : ℕ) → depth_after node depth ≤ depth + 1
depth_after_most (Element name attrs) depth = omega arith
depth_after_most (Text characters) depth = omega arith

put-nil : (depth top : ℕ) (node : Node) → flat top (put depth node []) ≡ row (top + depth) node ∷ []
put-nil zero top node = ap (λ d. row d node ∷ []) (omega arith)
put-nil (suc depth) top node = append-nil _ ∙ put-nil depth (top + 1) node ∙ ap (λ d. row d node ∷ []) (omega arith)

-- a node that comes before those that wait is the first in tree order
put-flat : (depth top : ℕ) (node : Node) (waits : List (Forest Node)) → length waits ≤ depth + 2 → flat top (put depth node waits) ≡ row (top + depth) node ∷ flat top waits
put-flat depth top node [] short = put-nil depth top node
put-flat zero top node (trees ∷ []) short = ap (λ d. row d node ∷ rows top trees) (omega arith)
put-flat zero top node (trees ∷ (children ∷ [])) short = ap (λ d. row d node ∷ (rows (top + 1) children ++ rows top trees)) (omega arith)
put-flat zero top node (trees ∷ (children ∷ (more ∷ deeper))) short = absurd (omega arith)
put-flat (suc depth) top node (trees ∷ deeper) short =
    ap (λ all. all ++ rows top trees) (put-flat depth (top + 1) node deeper (omega arith))
    ∙ ap (λ d. row d node ∷ (flat (top + 1) deeper ++ rows top trees)) (omega arith)

pub length-put : (depth : ℕ) (node : Node) (waits : List (Forest Node)) → length (put depth node waits) ≡ depth + 1
length-put zero node waits = refl
length-put (suc depth) node [] = omega (arith, length-put depth node [])
length-put (suc depth) node (trees ∷ deeper) = omega (arith, length-put depth node deeper)

rebuilt : (bound : ℕ) (all : List Row) → Fits bound all → (flat 0 (waiting all) ≡ all) × (length (waiting all) ≤ bound + 1)
rebuilt bound [] fits = (refl, omega arith)
rebuilt bound (first ∷ rest) fits =
    let after : (flat 0 (waiting rest) ≡ rest) × (length (waiting rest) ≤ depth_after first.node first.depth + 1) = rebuilt (depth_after first.node first.depth) rest fits.1 in (
      put-flat first.depth 0 first.node (waiting rest) (omega (arith, after.1, depth_after_most first.node first.depth))
          ∙ ap (λ d. row d first.node ∷ flat 0 (waiting rest)) (zero-add first.depth)
          ∙ ap (λ all. first ∷ all) after.0,
      omega (arith, length-put first.depth first.node (waiting rest), fits.0),
    )

flat-one : (waits : List (Forest Node)) → length waits ≤ 1 → flat 0 waits ≡ rows 0 (at_depth 0 waits)
flat-one [] short = refl
flat-one (trees ∷ []) short = refl
flat-one (trees ∷ (more ∷ deeper)) short = absurd (omega arith)

pub rows-forest_of : (all : List Row) → Fits 0 all → rows 0 (forest_of all) ≡ all
rows-forest_of all fits =
    let whole : (flat 0 (waiting all) ≡ all) × (length (waiting all) ≤ 0 + 1) = rebuilt 0 all fits in
    sym (flat-one (waiting all) (omega (arith, whole.1))) ∙ whole.0

-- one tree
put-keeps : (depth : ℕ) (node : Node) (waits : List (Forest Node)) → 1 ≤ depth → at_depth 0 (put depth node waits) ≡ at_depth 0 waits
put-keeps zero node waits deep = absurd (omega arith)
put-keeps (suc depth) node [] deep = refl
put-keeps (suc depth) node (trees ∷ deeper) deep = refl

deep-none : (all : List Row) → AreDeep all → at_depth 0 (waiting all) ≡ Empty
deep-none [] deep = refl
deep-none (first ∷ rest) deep = put-keeps first.depth first.node (waiting rest) deep.0 ∙ deep-none rest deep.1

forest_of-one : (all : List Row) → Fits 0 all → HasOneRoot all → 0 < length all → IsOne (forest_of all)
forest_of-one [] fits root some = absurd (omega arith)
forest_of-one (first ∷ rest) fits root some =
    let top : first.depth ≡ 0 = omega (arith, fits.0) in
    subst (λ d. IsOne (at_depth 0 (put d first.node (waiting rest)))) (sym top) (deep-none rest root)

-- sound trees
abbrev AreAllSound : List (Forest Node) → Type 0
AreAllSound [] = Unit {0}
AreAllSound (trees ∷ deeper) = AreSound trees × AreAllSound deeper

sound-at_depth : (depth : ℕ) (waits : List (Forest Node)) → AreAllSound waits → AreSound (at_depth depth waits)
sound-at_depth depth [] sound = tt
sound-at_depth zero (trees ∷ deeper) sound = sound.0
sound-at_depth (suc depth) (trees ∷ deeper) sound = sound-at_depth depth deeper sound.1

pub past : (depth : ℕ) (waits : List (Forest Node)) → length waits ≤ depth → at_depth depth waits ≡ Empty
past depth [] short = refl
past zero (trees ∷ deeper) short = absurd (omega arith)
past (suc depth) (trees ∷ deeper) short = past depth deeper (omega arith)

shorter : (node : Node) (depth count : ℕ) → suc count ≤ depth_after node (suc depth) + 1 → count ≤ depth_after node depth + 1
shorter (Element name attrs) depth count short = omega arith
shorter (Text characters) depth count short = omega arith

put-sound : (depth : ℕ) (node : Node) (waits : List (Forest Node)) → IsSoundNode node → length waits ≤ depth_after node depth + 1 → AreAllSound waits → AreAllSound (put depth node waits)
put-sound zero (Element name attrs) waits one short sound = ((one, sound-at_depth 1 waits sound, sound-at_depth 0 waits sound), tt)
put-sound zero (Text characters) waits one short sound = ((past 1 waits (omega arith), sound-at_depth 0 waits sound), tt)
put-sound (suc depth) node [] one short sound = (tt, put-sound depth node [] one (omega arith) tt)
put-sound (suc depth) node (trees ∷ deeper) one short sound = (sound.0, put-sound depth node deeper one (shorter node depth (length deeper) short) sound.1)

waiting-sound : (bound : ℕ) (all : List Row) → Fits bound all → AreSoundNodes all → AreAllSound (waiting all)
waiting-sound bound [] fits sound = tt
waiting-sound bound (first ∷ rest) fits sound =
    put-sound first.depth first.node (waiting rest) sound.0 (rebuilt (depth_after first.node first.depth) rest fits.1).1
    (waiting-sound (depth_after first.node first.depth) rest fits.1 sound.1)

forest_of-sound : (all : List Row) → Fits 0 all → AreSoundNodes all → AreSound (forest_of all)
forest_of-sound all fits sound = sound-at_depth 0 (waiting all) (waiting-sound 0 all fits sound)

-- one row more
bound-snoc : (bound : ℕ) (all : List Row) (next : Row) → bound_after bound (all ++ next ∷ []) ≡ depth_after next.node next.depth
bound-snoc bound [] next = refl
bound-snoc bound (first ∷ rest) next = bound-snoc (depth_after first.node first.depth) rest next

fits-snoc : (bound : ℕ) (all : List Row) (next : Row) → Fits bound all → next.depth ≤ bound_after bound all → Fits bound (all ++ next ∷ [])
fits-snoc bound [] next fits low = (low, tt)
fits-snoc bound (first ∷ rest) next fits low = (fits.0, fits-snoc (depth_after first.node first.depth) rest next fits.1 low)

deep-snoc : (all : List Row) (next : Row) → AreDeep all → 1 ≤ next.depth → AreDeep (all ++ next ∷ [])
deep-snoc [] next deep low = (low, tt)
deep-snoc (first ∷ rest) next deep low = (deep.0, deep-snoc rest next deep.1 low)

root-snoc : (all : List Row) (next : Row) → HasOneRoot all → (length all ≡ 0) ⊎ (1 ≤ next.depth) → HasOneRoot (all ++ next ∷ [])
root-snoc [] next root case = tt
root-snoc (first ∷ rest) next root (inl empty) = absurd (omega arith)
root-snoc (first ∷ rest) next root (inr low) = deep-snoc rest next root low

sound-snoc : (all : List Row) (next : Row) → AreSoundNodes all → IsSoundNode next.node → AreSoundNodes (all ++ next ∷ [])
sound-snoc [] next sound one = (one, tt)
sound-snoc (first ∷ rest) next sound one = (sound.0, sound-snoc rest next sound.1 one)

-- an element begins
pub building-start : (all : List Row) (inside : ℕ) (name : List ℕ) (attrs : List Attr) → IsBuilding all inside → (length all ≡ 0) ⊎ (1 ≤ inside) → HasDistinctNames attrs
    → IsBuilding (all ++ row inside (Element name attrs) ∷ []) (inside + 1)
building-start all inside name attrs is case distinct =
    let next : Row = row inside (Element name attrs) in
    record {
      fits = fits-snoc 0 all next is.fits is.bounded;
      bounded = omega (arith, bound-snoc 0 all next);
      one_root = root-snoc all next is.one_root case;
      counted = omega (arith, is.counted, length-append all (next ∷ []));
      sound = sound-snoc all next is.sound distinct;
    }

-- a text stands
pub building-text : (all : List Row) (inside : ℕ) (characters : List ℕ) → IsBuilding all inside → (length all ≡ 0) ⊎ (1 ≤ inside)
    → IsBuilding (all ++ row inside (Text characters) ∷ []) inside
building-text all inside characters is case =
    let next : Row = row inside (Text characters) in
    record {
      fits = fits-snoc 0 all next is.fits is.bounded;
      bounded = omega (arith, bound-snoc 0 all next);
      one_root = root-snoc all next is.one_root case;
      counted = omega (arith, is.counted, length-append all (next ∷ []));
      sound = sound-snoc all next is.sound tt;
    }

-- the tree is whole
pub building-finish : (all : List Row) (inside : ℕ) → IsBuilding all inside → 0 < length all → IsSpelled all
building-finish all inside is some =
    record {
      spelled = rows-forest_of all is.fits;
      tree = record { one = forest_of-one all is.fits is.one_root some; sound = forest_of-sound all is.fits is.sound };
    }

-- what the tests of a builder mean
pub accepts-case : (all : List Row) (inside : ℕ) → IsTrue (accepts_node record { rows = all; inside = inside }) → (length all ≡ 0) ⊎ (1 ≤ inside)
accepts-case [] inside accepts = inl refl
accepts-case (first ∷ rest) zero accepts = grind (arith, nat_tests)
accepts-case (first ∷ rest) (suc inside) accepts = inr (omega arith)

pub whole-some : (all : List Row) (inside : ℕ) → IsTrue (is_whole record { rows = all; inside = inside }) → 0 < length all
whole-some [] inside whole = grind (arith, nat_tests)
whole-some (first ∷ rest) inside whole = omega arith
