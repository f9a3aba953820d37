-- A turn takes no more steps than the elements pay for that it leaves behind: 4 for each, of which 1 is kept while it is
-- open. Throughout, n is a styled node, c what is under it, and r what is after it.
use Rattle.std.proofs.Common.{◌≡◌, ◌+◌, ◌*◌, ◌≤◌, ◌∷◌, ◌++◌, ℕ, true, false, cond, List, [], length, Option, refl, sym, ap, ◌∙◌, arith}
use Rattle.std.specs.Prelude.{is_some, map}
use Rattle.forest.specs.Forest.{Forest, Empty, Tree}
use Rattle.forest.specs.Keys.{Keyed}
use Rattle.forest.specs.Spots.{after_of}
use Rattle.plain_types.specs.declared.node.Node.{Node}
use Rattle.plain_types.specs.declared.style.Style.{Style}
use Rattle.node_arena.specs.Nodes.{node_name}
use Rattle.box_eval.specs.Evaluation.{StyledNode, style_within, styled_node, styled_trees}
use Rattle.merged_walk.specs.declared.stop.Stop.{Stop}
use Rattle.merged_walk.specs.Evaluators.{count_of_elements}
use Rattle.merged_walk.specs.Merges.{Merge, End, Kept, Turned, Gone, Come, from_place, has_place, new_of}
use Rattle.merged_walk.specs.Walks.{State}
use Rattle.surroundings.specs.declared.told.Told.{Told}
use Rattle.surroundings.specs.StyledEvaluators.{is_element}
use Rattle.document_walk.specs.Catching.{Reading}
use Rattle.document_walk.specs.Elements.{one_where}
use Rattle.document_walk.specs.Machinery.Standing.{Handing, OpenNode, Stands, elements_behind, elements_in, frame_of, parent_style}
use Rattle.document_walk.proofs.NodeLemmas.{styled_element}

pub one_longer : {A : Type 0} (n : ℕ) (xs : List A) (x : A) → n + length (xs ++ x ∷ []) ≡ n + length xs + 1
one_longer n [] x = omega arith
one_longer n (y ∷ xs) x = omega (arith, one_longer n xs x)

-- the elements that a walk still has to enter
abbrev pub elements : Forest (Keyed StyledNode) → ℕ
elements trees = count_of_elements is_element trees

abbrev pub behind_open : List OpenNode → ℕ
behind_open [] = 0
behind_open (b ∷ bs) = elements (new_of b.after) + behind_open bs

abbrev pub elements_of : State StyledNode Told Handing → ℕ
elements_of state = elements (new_of state.here) + behind_open state.above

module _ (from : Reading) where
  one_element : (parent : Option Style) (key : ℕ) (label : Node) → one_where (is_element (styled_node from.style from.start parent key label)) ≡ one_where (is_some (node_name label))
  one_element parent key label = ap one_where (styled_element from parent key label)

  pub styled_elements : (parent : Option Style) (trees : Forest (Keyed Node)) → elements (styled_trees from.style from.start parent trees) ≡ elements_in trees
  styled_elements parent Empty = refl
  styled_elements parent (Tree n c r) =
      let below = styled_elements (style_within from.style from.start parent n.key n.label) c in
      let beside = styled_elements parent r in
      let own = one_element parent n.key n.label in omega (arith, own, below, beside)

  pub behind_is : (bs : List OpenNode) → Stands from bs → elements_behind from (map (frame_of from) bs) ≡ behind_open bs
  behind_is [] h = refl
  behind_is (b ∷ bs) h =
      let after : elements_in (after_of from.tree b.node.key) ≡ elements (new_of b.after) = sym (styled_elements (parent_style bs) (after_of from.tree b.node.key)) ∙ ap elements h.2 in
      omega (arith, after, behind_is bs h.4)

-- what a turn takes
pub record Sparing (now next : State StyledNode Told Handing) : Type 0 where
  pub told : length next.changes + (elements_of next + length next.above) ≤ length now.changes + (elements_of now + length now.above)
  pub spent : next.spent + length now.changes + (4 * elements_of next + length next.above) ≤ now.spent + length next.changes + (4 * elements_of now + length now.above)

-- an element is entered
pub spares-entering : (now : State StyledNode Told Handing) (top : OpenNode) (n : Keyed StyledNode) (c r : Merge StyledNode) (i j : Handing) (stops : List Stop) (spent : ℕ)
    → new_of now.here ≡ Tree n (new_of c) (new_of r) → is_element n.label ≡ true → top.after ≡ r → spent ≤ now.spent + 3
    → Sparing now (record { above = top ∷ now.above; handed = i; was_handed = j; here = c; stops = stops; changes = now.changes; spent = spent })
spares-entering now top n c r i j stops spent is element after few =
    let own : one_where (is_element n.label) ≡ 1 = ap one_where element in
    let here : elements (new_of now.here) ≡ one_where (is_element n.label) + (elements (new_of c) + elements (new_of r)) = ap elements is in
    let later : elements (new_of top.after) ≡ elements (new_of r) = ap (λ m. elements (new_of m)) after in
    record { told = omega (arith, own, here, later); spent = omega (arith, own, here, later, few) }

-- a text or a tree that is gone is passed
pub spares-passing : (now : State StyledNode Told Handing) (here : Merge StyledNode) (j : Handing) (stops : List Stop) → elements (new_of here) ≤ elements (new_of now.here)
    → Sparing now (record { above = now.above; handed = now.handed; was_handed = j; here = here; stops = stops; changes = now.changes; spent = now.spent })
spares-passing now here j stops less = record { told = omega (arith, less); spent = omega (arith, less) }

pub elements-after : (n : Keyed StyledNode) (c r : Forest (Keyed StyledNode)) (g : Forest (Keyed StyledNode)) → g ≡ Tree n c r → elements r ≤ elements g
elements-after n c r g is = let all : elements g ≡ one_where (is_element n.label) + (elements c + elements r) = ap elements is in omega (arith, all)

pub same_elements : (r g : Forest (Keyed StyledNode)) → g ≡ r → elements r ≤ elements g
same_elements r g is = let all : elements g ≡ elements r = ap elements is in omega (arith, all)

-- trees are skipped, of which the first is an element
elements-from : (m : Merge StyledNode) → elements (new_of (from_place m)) ≤ elements (new_of m)
elements-from End = omega arith
elements-from (Kept n c r) =
    elim (has_place c) as (λ b. elements (new_of (cond b (Kept n c r) (from_place r))) ≤ one_where (is_element n.label) + (elements (new_of c) + elements (new_of r))) [
      | true ↦ omega arith
      | false ↦ omega (arith, elements-from r)
    ]
elements-from (Turned was n c r) = omega arith
elements-from (Gone n c r) = omega arith
elements-from (Come n c r) = omega arith

elements-skipped : (n : Keyed StyledNode) (c r : Merge StyledNode) → has_place c ≡ false → elements (new_of (from_place (Kept n c r))) ≤ elements (new_of r)
elements-skipped n c r none = rw none (elements-from r)

pub spares-skipping : (now : State StyledNode Told Handing) (n : Keyed StyledNode) (c r : Merge StyledNode) (i j : Handing) (spent : ℕ)
    → now.here ≡ Kept n c r → is_element n.label ≡ true → has_place c ≡ false → spent ≤ now.spent + 2
    → Sparing now (record { above = now.above; handed = i; was_handed = j; here = from_place (Kept n c r); stops = now.stops; changes = now.changes; spent = spent })
spares-skipping now n c r i j spent is element none few =
    let own : one_where (is_element n.label) ≡ 1 = ap one_where element in
    let here : elements (new_of now.here) ≡ one_where (is_element n.label) + (elements (new_of c) + elements (new_of r)) = ap (λ m. elements (new_of m)) is in
    let less = elements-skipped n c r none in
    record { told = omega (arith, own, here, less); spent = omega (arith, own, here, less, few) }

-- an element is left
pub spares-leaving : (now : State StyledNode Told Handing) (b : OpenNode) (bs : List OpenNode) (i j : Handing) (entry : ℕ × Told) (spent : ℕ) → now.above ≡ b ∷ bs → now.here ≡ End → spent ≤ now.spent + 2
    → Sparing now (record { above = bs; handed = i; was_handed = j; here = b.after; stops = now.stops; changes = now.changes ++ entry ∷ []; spent = spent })
spares-leaving now b bs i j entry spent above is few =
    let open_count : length now.above ≡ length (b ∷ bs) = ap length above in
    let behind : behind_open now.above ≡ elements (new_of b.after) + behind_open bs = ap behind_open above in
    let here : elements (new_of now.here) ≡ 0 = ap (λ m. elements (new_of m)) is in
    let longer : length (now.changes ++ entry ∷ []) ≡ length now.changes + 1 = omega (arith, one_longer 0 now.changes entry) in
    record { told = omega (arith, open_count, behind, here, longer); spent = omega (arith, open_count, behind, here, longer, few) }
