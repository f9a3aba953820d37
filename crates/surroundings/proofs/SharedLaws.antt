-- Subtrees that two documents share are told by the inputs of their roots.
use Rattle.std.proofs.Common.{◌≡◌, ◌==◌, ◌<◌, ◌+◌, ℕ, Bool, true, false, cond, List, [], ◌∷◌, ◌++◌, Option, Some, None, refl, sym, ap, subst, ◌∙◌, inl, inr, arith}
use Rattle.std.specs.Prelude.{Contains}
use Rattle.std.specs.Option.{option_or}
use Rattle.std.proofs.lemmas.List.Elements.{Contains-append_cases}
use Rattle.forest.specs.Forest.{Forest, Empty, Tree}
use Rattle.forest.specs.Keys.{Keyed, HasDistinctKeys, times}
use Rattle.forest.specs.Spots.{Spot, keyed, on_link, spot, tree_of}
use Rattle.forest.proofs.SpotLaws.{below-or-after, distinct-parts, not-root, spot-below, spot-beside, spot-root, the_spot}
use Rattle.node_arena.specs.Changes.{alone}
use Rattle.plain_types.specs.declared.counter_style.CounterStyle.{CounterStyle}
use Rattle.box_eval.specs.declared.inputs.Inputs.{Inputs}
use Rattle.box_eval.specs.Elements.{Handed, at_root, by_parent}
use Rattle.box_eval.specs.Evaluation.{StyledNode, Element, Text, inputs, inputs_of, is_boxed, past_node, past_trees, record_of, records, records_of, within}
use Rattle.box_eval.proofs.DocumentLemmas as documents
use Rattle.merged_walk.specs.Entries.{first_at}
use Rattle.surroundings.specs.declared.surroundings.Surroundings.{Surroundings}
use Rattle.surroundings.specs.Surroundings.{surroundings_in, surroundings_of}
use Rattle.surroundings.specs.Laws.{SharedSubtreesAreToldByTheirInputs}
use Rattle.surroundings.proofs.InputLaws.{none_contained, one_contained}

-- The first entry under a key, in lists one after the other.

first-append : {R : Type 0} (xs ys : List (ℕ × R)) (k : ℕ) → first_at (xs ++ ys) k ≡ option_or (first_at xs k) (first_at ys k)
first-append [] ys k = refl
first-append (x ∷ xs) ys k =
    elim (x.0 == k) as (λ b. cond b (Some x.1) (first_at (xs ++ ys) k) ≡ option_or (cond b (Some x.1) (first_at xs k)) (first_at ys k)) [
      | true ↦ refl
      | false ↦ first-append xs ys k
    ]

or_nothing : {A : Type 0} (a : Option A) → option_or a None ≡ a
or_nothing None = refl
or_nothing (Some a) = refl

module _ {R : Type 0} (xs ys zs : List (ℕ × R)) (k : ℕ) where
  first-three : first_at (xs ++ (ys ++ zs)) k ≡ option_or (first_at xs k) (option_or (first_at ys k) (first_at zs k))
  first-three = first-append xs (ys ++ zs) k ∙ ap (option_or (first_at xs k)) (first-append ys zs k)

  -- it is in the first list, if anywhere
  first-there : first_at ys k ≡ None → first_at zs k ≡ None → first_at (xs ++ (ys ++ zs)) k ≡ first_at xs k
  first-there second third = first-three ∙ (λ i. option_or (first_at xs k) (option_or (second i) (third i))) ∙ or_nothing (first_at xs k)

  -- or in the last
  last-there : first_at xs k ≡ None → first_at ys k ≡ None → first_at (xs ++ (ys ++ zs)) k ≡ first_at zs k
  last-there first second = first-three ∙ (λ i. option_or (first i) (option_or (second i) (first_at zs k)))

  -- or not in the last
  last-absent : first_at zs k ≡ None → first_at (xs ++ (ys ++ zs)) k ≡ first_at (xs ++ (ys ++ [])) k
  last-absent third = first-three ∙ ap (λ o. option_or (first_at xs k) (option_or (first_at ys k) o)) third ∙ sym (first-append xs (ys ++ []) k ∙ ap (option_or (first_at xs k)) (first-append ys [] k))

-- a node with all under it, which has this key and stands there
abbrev own_tree : ℕ → Spot StyledNode → Forest (Keyed StyledNode)
own_tree key place = Tree (keyed key place.label) place.children Empty

module _ (table : List CounterStyle) where
  -- no record is under a key of no node

  other-node : (boxed : Bool) (key : ℕ) (label : StyledNode) (handed behind : Handed) (k : ℕ) → (key == k) ≡ false → first_at (records_of table by_parent boxed key label handed behind) k ≡ None
  other-node boxed key (Element element) handed behind k other = ap (λ b. cond b (Some (record_of table by_parent boxed key element handed behind)) None) other
  other-node boxed key Text handed behind k other = refl

  not-if : (b : Bool) (x y : ℕ) → cond {A = ℕ} b 1 0 + (x + y) ≡ 0 → b ≡ false
  not-if true x y h = absurd (omega (arith, h))
  not-if false x y h = refl

  absent : (trees : Forest (Keyed StyledNode)) (boxed : Bool) (handed : Handed) (k : ℕ) → times k trees ≡ 0 → first_at (records table by_parent boxed handed trees) k ≡ None
  absent Empty boxed handed k h = refl
  absent (Tree n c r) boxed handed k h =
      let has = is_boxed boxed n.label in
      let first = within table by_parent has n.key n.label handed in
      let behind = past_trees table by_parent has first c in
      let next = past_node table by_parent has n.key n.label handed behind in
      let below = records table by_parent has first c in
      let own = records_of table by_parent has n.key n.label handed behind in
      let beside = records table by_parent boxed next r in
      last-there below own beside k (absent c has first k (omega (arith, h))) (other-node has n.key n.label handed behind k (not-if (n.key == k) (times k c) (times k r) h))
      ∙ absent r boxed next k (omega (arith, h))

  -- The node of these inputs stands there and is handed what they say, and what is said of it and of all under it is told
  -- by that.
  record Found (parent : Option ℕ) (earlier : List (Keyed StyledNode)) (trees : Forest (Keyed StyledNode)) (boxed : Bool) (handed : Handed) (its : Inputs) : Type 0 where
    place : Spot StyledNode
    stands : spot parent earlier trees its.key ≡ Some place
    around : Handed
    same : surroundings_of around ≡ surroundings_in its
    within : (k : ℕ) → 0 < times k (own_tree its.key place) → 0 < times k trees
    told : (k : ℕ) → 0 < times k (own_tree its.key place) → first_at (records table by_parent boxed handed trees) k ≡ first_at (records table by_parent true around (own_tree its.key place)) k

  found-own : (parent : Option ℕ) (earlier : List (Keyed StyledNode)) (key : ℕ) (label : StyledNode) (c r : Forest (Keyed StyledNode)) (boxed : Bool) (handed : Handed) (its : Inputs)
      → HasDistinctKeys (Tree (record { key = key; label = label }) c r) → Contains (inputs_of table by_parent boxed key label handed) its → Found parent earlier (Tree (record { key = key; label = label }) c r) boxed handed its
  found-own parent earlier key (Element element) c r true handed its distinct h =
      let n : Keyed StyledNode = record { key = key; label = Element element } in
      let own : Inputs = record { key = key; parent = handed.parent; sibling = handed.sibling; preceding = handed.preceding; depth = handed.depth; starts = element.starts } in
      let has = is_boxed true n.label in
      let first = within table by_parent has key n.label handed in
      let behind = past_trees table by_parent has first c in
      let next = past_node table by_parent has key n.label handed behind in
      subst (Found parent earlier (Tree n c r) true handed) (one_contained own its h)
      (record {
        place = the_spot parent earlier (Element element) c r;
        stands = spot-root parent earlier n c r;
        around = handed;
        same = refl;
        within = λ k there. omega (arith, there);
        told = λ k there.
            last-absent (records table by_parent has first c) (records_of table by_parent has key n.label handed behind) (records table by_parent true next r) k
            (absent r true next k (let all = distinct k in omega (arith, all, there)));
      })
  found-own parent earlier key (Element element) c r false handed its distinct h = absurd (none_contained its h)
  found-own parent earlier key Text c r true handed its distinct h = absurd (none_contained its h)
  found-own parent earlier key Text c r false handed its distinct h = absurd (none_contained its h)

  found : (trees : Forest (Keyed StyledNode)) (parent : Option ℕ) (earlier : List (Keyed StyledNode)) (boxed : Bool) (handed : Handed) (its : Inputs) → HasDistinctKeys trees
      → Contains (inputs table by_parent boxed handed trees) its → Found parent earlier trees boxed handed its
  found Empty parent earlier boxed handed its distinct h = absurd (none_contained its h)
  found (Tree n c r) parent earlier boxed handed its distinct h =
      let has = is_boxed boxed n.label in
      let first = within table by_parent has n.key n.label handed in
      let behind = past_trees table by_parent has first c in
      let next = past_node table by_parent has n.key n.label handed behind in
      let below = records table by_parent has first c in
      let own = records_of table by_parent has n.key n.label handed behind in
      let beside = records table by_parent boxed next r in
      let keys = distinct-parts n c r distinct in
      elim (Contains-append_cases (inputs_of table by_parent boxed n.key n.label handed) (inputs table by_parent has first c ++ inputs table by_parent boxed next r) its h) [
        | inl here ↦ found-own parent earlier n.key n.label c r boxed handed its distinct here
        | inr rest ↦ elim (Contains-append_cases (inputs table by_parent has first c) (inputs table by_parent boxed next r) its rest) [
          | inl under ↦
              let it = found c (Some n.key) [] has first its keys.0 under in
              record {
                place = it.place;
                stands = spot-below parent earlier n c r its.key it.place distinct it.stands;
                around = it.around;
                same = it.same;
                within = λ k there. (let inside = it.within k there in omega (arith, inside));
                told = λ k there. (
                    let inside = it.within k there in
                    let all = distinct k in
                    first-there below own beside k (other-node has n.key n.label handed behind k (not-root n c r k distinct (omega (arith, inside)))) (absent r boxed next k (omega (arith, all, inside)))
                    ∙ it.told k there
                    );
              }
          | inr after ↦
              let it = found r parent (earlier ++ n ∷ []) boxed next its keys.1 after in
              record {
                place = it.place;
                stands = spot-beside parent earlier n c r its.key it.place distinct it.stands;
                around = it.around;
                same = it.same;
                within = λ k there. (let inside = it.within k there in omega (arith, inside));
                told = λ k there. (
                    let inside = it.within k there in
                    last-there below own beside k (absent c has first k (below-or-after n c r k distinct inside)) (other-node has n.key n.label handed behind k (not-root n c r k distinct (omega (arith, inside))))
                    ∙ it.told k there
                    );
              }
        ]
      ]

  -- in a document
  found-document : (trees : Forest (Keyed StyledNode)) (its : Inputs) → HasDistinctKeys trees → Contains (inputs table by_parent true at_root trees) its → Found None [] trees true at_root its
  found-document trees its distinct h = found trees None [] true at_root its distinct h

  alone-found : (trees : Forest (Keyed StyledNode)) (its : Inputs) (f : Found None [] trees true at_root its) → alone (on_link trees (Some its.key)) ≡ own_tree its.key f.place
  alone-found trees its f = ap (λ place. alone (tree_of its.key place)) f.stands

  -- what two surroundings that are the same make of trees
  told-same : (trees : Forest (Keyed StyledNode)) (one other : Handed) → surroundings_of one ≡ surroundings_of other → records table by_parent true one trees ≡ records table by_parent true other trees
  told-same trees one other same =
      (documents.same_for table trees true one other
      (documents.differs_in_earlier one other (ap (λ (around : Surroundings). around.parent) same) (ap (λ (around : Surroundings). around.sibling) same) (ap (λ (around : Surroundings). around.preceding) same) (ap (λ (around : Surroundings). around.depth) same))).records

  shared-document : (first second : Forest (Keyed StyledNode)) (its : Inputs) → HasDistinctKeys first → HasDistinctKeys second
      → alone (on_link first (Some its.key)) ≡ alone (on_link second (Some its.key))
      → Contains (inputs table by_parent true at_root first) its → Contains (inputs table by_parent true at_root second) its
      → (k : ℕ) → 0 < times k (alone (on_link first (Some its.key)))
      → first_at (records table by_parent true at_root first) k ≡ first_at (records table by_parent true at_root second) k
  shared-document first second its distinct distinct_too same here there k under =
      let one = found-document first its distinct here in
      let other = found-document second its distinct_too there in
      let one_is = alone-found first its one in
      let other_is = alone-found second its other in
      let trees : own_tree its.key one.place ≡ own_tree its.key other.place = sym one_is ∙ same ∙ other_is in
      let in_one : 0 < times k (own_tree its.key one.place) = subst (λ t. 0 < times k t) one_is under in
      let in_other : 0 < times k (own_tree its.key other.place) = subst (λ t. 0 < times k t) trees in_one in
      one.told k in_one
      ∙ ap (λ all. first_at all k) (told-same (own_tree its.key one.place) one.around other.around (one.same ∙ sym other.same) ∙ ap (records table by_parent true other.around) trees)
      ∙ sym (other.told k in_other)

pub shared_subtrees : SharedSubtreesAreToldByTheirInputs
shared_subtrees table first second key its distinct distinct_too same is here there under within =
    let one = documents.told table first true at_root distinct (documents.root_level first) in
    let other = documents.told table second true at_root distinct_too (documents.root_level second) in
    ap (λ all. first_at all under) one.records
    ∙ shared-document table first second its distinct distinct_too
    (subst (λ k. alone (on_link first (Some k)) ≡ alone (on_link second (Some k))) (sym is) same)
    (subst (λ all. Contains all its) one.inputs here) (subst (λ all. Contains all its) other.inputs there)
    under (subst (λ k. 0 < times under (alone (on_link first (Some k)))) (sym is) within)
    ∙ sym (ap (λ all. first_at all under) other.records)
