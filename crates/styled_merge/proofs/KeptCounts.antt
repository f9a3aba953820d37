-- How many nodes of a key are kept, and how many go. Throughout, n is a node, c what is under it, r what is after it, f
-- and g trees, q a key, and m a merge.
use Rattle.std.proofs.Common.{◌≡◌, ◌==◌, ◌<◌, ◌≤◌, ◌+◌, ℕ, Bool, true, false, cond, List, [], ◌∷◌, ◌++◌, Option, Some, None, IsSome, refl, inl, inr, arith, eq-eqb}
use Rattle.std.specs.Prelude.{option_and_then, option_map}
use Rattle.std.specs.Option.{option_or}
use Rattle.forest.specs.Forest.{Forest, Empty, Tree, weigh}
use Rattle.forest.specs.Keys.{Keyed, HasDistinctKeys, times}
use Rattle.forest.specs.Spots.{Spot, spot}
use Rattle.forest.proofs.SpotLaws.{distinct-parts, some_or_none, spot-absent, the_spot}
use Rattle.plain_types.specs.declared.node.Node.{Node}
use Rattle.plain_types.specs.declared.node.Node.TheVariants as node
use Rattle.node_arena.specs.Nodes.{name_of, node_name}
use Rattle.merged_walk.specs.Merges.{Merge, End, Kept, Turned, Gone, Come, old_of}
use Rattle.merged_walk.specs.Counts.{weigh_places}
use Rattle.edit_merge.specs.EditMerges.{is_element}
use Rattle.styled_merge.specs.Stays.{OfEachKept, OfElement}

-- the nodes of a key that are kept or turned
abbrev pub kept_times : ℕ → Merge Node → ℕ
kept_times q End = 0
kept_times q (Kept n c r) = cond {A = ℕ} (n.key == q) 1 0 + (kept_times q c + kept_times q r)
kept_times q (Turned was n c r) = cond {A = ℕ} (was.key == q) 1 0 + (kept_times q c + kept_times q r)
kept_times q (Gone n c r) = kept_times q r
kept_times q (Come n c r) = kept_times q r

-- the elements of a key that are kept
abbrev pub kept_elements : ℕ → Merge Node → ℕ
kept_elements q End = 0
kept_elements q (Kept n c r) = cond {A = ℕ} (is_element n.label) (cond {A = ℕ} (n.key == q) 1 0) 0 + (kept_elements q c + kept_elements q r)
kept_elements q (Turned was n c r) = kept_elements q c + kept_elements q r
kept_elements q (Gone n c r) = kept_elements q r
kept_elements q (Come n c r) = kept_elements q r

-- the nodes of a key that go
abbrev pub gone_times : ℕ → Merge Node → ℕ
gone_times q m = weigh_places (times q) (λ _. 0) m

-- the elements of a key in trees
abbrev elements_at : ℕ → Forest (Keyed Node) → ℕ
elements_at q f = weigh (λ (n : Keyed Node). cond {A = ℕ} (is_element n.label) (cond {A = ℕ} (n.key == q) 1 0) 0) f

few-of : (b c : Bool) → cond {A = ℕ} b (cond {A = ℕ} c 1 0) 0 ≤ cond {A = ℕ} c 1 0
few-of true c = omega arith
few-of false true = omega arith
few-of false false = omega arith

pub kept-few : (q : ℕ) (m : Merge Node) → kept_elements q m ≤ kept_times q m
kept-few q End = omega arith
kept-few q (Kept n c r) = omega (arith, few-of (is_element n.label) (n.key == q), kept-few q c, kept-few q r)
kept-few q (Turned was n c r) = omega (arith, kept-few q c, kept-few q r)
kept-few q (Gone n c r) = kept-few q r
kept-few q (Come n c r) = kept-few q r

-- the old nodes are kept or go
pub counted : (q : ℕ) (m : Merge Node) → times q (old_of m) ≡ kept_times q m + gone_times q m
counted q End = refl
counted q (Kept n c r) = omega (arith, counted q c, counted q r)
counted q (Turned was n c r) = omega (arith, counted q c, counted q r)
counted q (Gone n c r) = omega (arith, counted q r)
counted q (Come n c r) = omega (arith, counted q r)

elements-old : (q : ℕ) (m : Merge Node) → kept_elements q m ≤ elements_at q (old_of m)
elements-old q End = omega arith
elements-old q (Kept n c r) = omega (arith, elements-old q c, elements-old q r)
elements-old q (Turned was n c r) = omega (arith, elements-old q c, elements-old q r)
elements-old q (Gone n c r) = omega (arith, elements-old q r)
elements-old q (Come n c r) = elements-old q r

are-nodes : (q : ℕ) (f : Forest (Keyed Node)) → elements_at q f ≤ times q f
are-nodes q Empty = omega arith
are-nodes q (Tree n c r) = omega (arith, few-of (is_element n.label) (n.key == q), are-nodes q c, are-nodes q r)

-- An element is found by its key, with a name.

abbrev label_in : Option (Spot Node) → Option Node
label_in o = option_map (λ (s : Spot Node). s.label) o

has-name : (l : Node) → 0 < cond {A = ℕ} (is_element l) 1 0 → IsSome (node_name l)
has-name (node.Element name attrs) h = refl
has-name (node.Text characters) h = absurd (omega arith)

name-first : (a b : Option (Spot Node)) → IsSome (option_and_then node_name (label_in a)) → IsSome (option_and_then node_name (label_in (option_or a b)))
name-first None b h = absurd (cc)
name-first (Some s) b h = h

named : (q : ℕ) (f : Forest (Keyed Node)) (p : Option ℕ) (e : List (Keyed Node)) → HasDistinctKeys f → 0 < elements_at q f → IsSome (option_and_then node_name (label_in (spot p e f q)))
named q Empty p e d h = absurd (omega arith)
named q (Tree n c r) p e d h =
    let parts = distinct-parts n c r d in
    elim (n.key == q) as (λ b. cond {A = ℕ} b 1 0 + (times q c + times q r) ≤ 1
    → 0 < cond {A = ℕ} (is_element n.label) (cond {A = ℕ} b 1 0) 0 + (elements_at q c + elements_at q r)
    → IsSome (option_and_then node_name (label_in (cond b (Some (the_spot p e n.label c r)) (option_or (spot (Some n.key) [] c q) (spot p (e ++ n ∷ []) r q)))))) [
      | true ↦ λ once some. has-name n.label (omega (arith, are-nodes q c, are-nodes q r))
      | false ↦ λ once some. elim (some_or_none (elements_at q c)) [
        | inr below ↦ name-first (spot (Some n.key) [] c q) (spot p (e ++ n ∷ []) r q) (named q c (Some n.key) [] parts.0 below)
        | inl free ↦
            let beside : 0 < elements_at q r = omega (arith, few-of (is_element n.label) false) in
            let none : times q c ≡ 0 = omega (arith, are-nodes q r) in
            rw (spot-absent c (Some n.key) [] q none) (named q r p (e ++ n ∷ []) parts.1 beside)
      ]
    ] (d q) h

pub element-kept : (q : ℕ) (m : Merge Node) → HasDistinctKeys (old_of m) → 0 < kept_elements q m → IsSome (name_of (old_of m) q)
element-kept q m d h = named q (old_of m) None [] d (omega (arith, elements-old q m))

-- a fact of each element that is kept, by what holds of all of them
module _ (Holds : ℕ → Type 0) where
  of-element : (k : ℕ) (l : Node) → (0 < cond {A = ℕ} (is_element l) (cond {A = ℕ} (k == k) 1 0) 0 → Holds k) → OfElement Holds k l
  of-element k (node.Element name attrs) all = all (rw (eq-eqb k k refl) (omega arith))
  of-element k (node.Text characters) all = tt

  pub each : (m : Merge Node) → ((q : ℕ) → 0 < kept_elements q m → Holds q) → OfEachKept Holds m
  each End all = tt
  each (Kept n c r) all = (of-element n.key n.label (λ h. all n.key (omega arith)), each c (λ q h. all q (omega arith)), each r (λ q h. all q (omega arith)))
  each (Turned was n c r) all = (each c (λ q h. all q (omega arith)), each r (λ q h. all q (omega arith)))
  each (Gone n c r) all = each r all
  each (Come n c r) all = each r all
