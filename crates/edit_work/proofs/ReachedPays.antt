-- What the merge of an edit leads to, what comes and what goes, where what the edit reaches does: it is at the places of
-- the edit and of the reach, or above them. Throughout, w is a weight, o a reach, g trees, and m a merge.
use Rattle.std.proofs.Common.{◌≡◌, ◌≢◌, ◌+◌, ◌*◌, ◌≤◌, ℕ, Bool, List, [], ◌∷◌, length, refl, sym, ap, subst, arith}
use Rattle.std.specs.Prelude.{sum_by}
use Rattle.std.proofs.lemmas.List.Sums.{sum_by-append, sum_by-cons}
use Rattle.forest.specs.Forest.{Forest, IsOneTree}
use Rattle.forest.specs.Keys.{Keyed, HasDistinctKeys}
use Rattle.forest.specs.Paths.{on_path, path_of}
use Rattle.plain_types.specs.declared.edit.Edit.{Edit}
use Rattle.plain_types.specs.declared.node.Node.{Node}
use Rattle.node_arena.specs.Changes.{alone}
use Rattle.node_arena.specs.Document.{IsKeyedDocument}
use Rattle.merged_walk.specs.Counts.{come_count, gone_count, led_count, place_count}
use Rattle.merged_walk.specs.EditStops.{on_way}
use Rattle.merged_walk.specs.Evaluators.{count_of_elements}
use Rattle.merged_walk.specs.Laws.{Merges}
use Rattle.merged_walk.specs.Merges.{Merge, new_of, old_of}
use Rattle.merged_walk.proofs.WorkLaws.{elements-within, way-within}
use Rattle.edit_merge.specs.EditMerges.{is_element}
use Rattle.edit_merge.proofs.PlaceLaws.{one-root}
use Rattle.style_reach.specs.declared.extent.Reach.{Reach}
use Rattle.style_reach.specs.declared.extent.Reach.TheVariants.{Own, Under, Both, All}
use Rattle.styled_merge.specs.Reached.{begins_at, reached}
use Rattle.styled_merge.specs.Stays.{IsUnturned}
use Rattle.edit_work.specs.KeyedSources.{KeyedSource}
use Rattle.edit_work.specs.Places.{ancestors_at, elements_at, new_places, paths_after, paths_before, paths_coming, places}
use Rattle.edit_work.specs.Work.{has_box_in}
use Rattle.edit_work.proofs.Points.{around_by, both-around, placed_by}
use Rattle.edit_work.proofs.ReachedCounts.{Weight, at-its-path, count_reached, depths_reached, either-reached, led-within, nothing-begins, nothing-weighs, once-there, places-reached, two-apart, weigh-reached, weigh_reached}
use Rattle.edit_work.proofs.Sums.{sum-elements, sum-keys}
use Rattle.edit_work.proofs.Touched.{AreCounted, own_ancestors, own_placed, sum-both}

-- the nodes that a reach names
abbrev pub tops : Reach → List ℕ
tops Own = []
tops (Under top) = top ∷ []
tops (Both first second) = first ∷ (second ∷ [])
tops All = []

sum-below : (f g : ℕ → ℕ) → ((x : ℕ) → f x ≤ g x) → (xs : List ℕ) → sum_by f xs ≤ sum_by g xs
sum-below f g less [] = omega arith
sum-below f g less (x ∷ xs) = omega (arith, sum_by-cons f x xs, sum_by-cons g x xs, less x, sum-below f g less xs)

one-tree : (g : Forest (Keyed Node)) → IsKeyedDocument g → IsOneTree g
one-tree g document = let root = one-root g document.is_tree.one in subst IsOneTree (sym root.2) refl

module _ (g : Forest (Keyed Node)) where
  -- the weight of what stands at the path of a node
  abbrev at_path_of : Weight → ℕ → ℕ
  at_path_of w top = w (length (on_way (path_of g top) g)) (alone (on_path (path_of g top) g))

module _ (g : Forest (Keyed Node)) (distinct : HasDistinctKeys g) (one : IsOneTree g) where
  tops-weigh : (o : Reach) → o ≢ All → (w : Weight) → weigh_reached (begins_at o) w 0 g ≤ sum_by (at_path_of g w) (tops o)
  tops-weigh Own other w = omega (arith, nothing-begins w 0 g)
  tops-weigh (Under top) other w = omega (arith, at-its-path top w g distinct one, sum_by-cons (at_path_of g w) top [])
  tops-weigh (Both first second) other w =
      omega (
        arith,
        either-reached first second w 0 g,
        at-its-path first w g distinct one,
        at-its-path second w g distinct one,
        sum_by-cons (at_path_of g w) first (second ∷ []),
        sum_by-cons (at_path_of g w) second [],
      )
  tops-weigh All other w = absurd (other refl)

  -- few nodes are reached apart from one another
  tops-few : (o : Reach) → o ≢ All → 8 * count_reached (begins_at o) 0 g ≤ 12 + 2 * sum_by (at_path_of g (λ d _. d)) (tops o)
  tops-few Own other = omega (arith, nothing-begins (λ _ _. 1) 0 g)
  tops-few (Under top) other = omega (arith, once-there top 0 g, distinct top)
  tops-few (Both first second) other =
      omega (
        arith,
        two-apart first second g distinct one,
        at-its-path first (λ d _. d) g distinct one,
        at-its-path second (λ d _. d) g distinct one,
        sum_by-cons (at_path_of g (λ d _. d)) first (second ∷ []),
        sum_by-cons (at_path_of g (λ d _. d)) second [],
      )
  tops-few All other = absurd (other refl)

-- The places are the edit's own and the paths of these nodes.

sum-places : (f : List ℕ → ℕ) (o : Reach) → o ≢ All → (paths : List (List ℕ)) (tree : Forest (Keyed Node)) → sum_by f (places o paths tree) ≡ sum_by f paths + sum_by (λ top. f (path_of tree top)) (tops o)
sum-places f Own other paths tree = omega arith
sum-places f (Under top) other paths tree =
    omega (arith, sum_by-append f paths (path_of tree top ∷ []), sum_by-cons f (path_of tree top) [], sum_by-cons (λ top. f (path_of tree top)) top [])
sum-places f (Both first second) other paths tree =
    omega (
      arith,
      sum_by-append f paths (path_of tree first ∷ (path_of tree second ∷ [])),
      sum_by-cons f (path_of tree first) (path_of tree second ∷ []),
      sum_by-cons f (path_of tree second) [],
      sum_by-cons (λ top. f (path_of tree top)) first (second ∷ []),
      sum_by-cons (λ top. f (path_of tree top)) second [],
    )
sum-places f All other paths tree = absurd (other refl)

same-coming : (o : Reach) → o ≢ All → (edit : Edit) → new_places o edit ≡ paths_coming edit
same-coming Own other edit = refl
same-coming (Under top) other edit = refl
same-coming (Both first second) other edit = refl
same-coming All other edit = absurd (other refl)

module _ (w : ℕ → ℕ) (heavy : (k : ℕ) → 1 ≤ w k) where
  -- what a merge leads to, what comes and what goes is among these elements, and there are few places
  pub record ArePaid (m : Merge Node) (placed around : List ℕ) : Type 0 where
    pub few : (led_count m + come_count is_element m + gone_count is_element m) ≤ sum_by w placed + sum_by w around
    pub places : 4 * place_count m ≤ 20 + 2 * (sum_by w placed + sum_by w around)

  module _ (g : Forest (Keyed Node)) (o : Reach) where
    abbrev at_tops : ℕ
    at_tops = sum_by (λ top. sum_by w (elements_at g (path_of g top))) (tops o)

    abbrev above_tops : ℕ
    above_tops = sum_by (λ top. sum_by w (ancestors_at g (path_of g top))) (tops o)

    at-heavy : sum_by (at_path_of g (λ _. count_of_elements is_element)) (tops o) ≤ at_tops
    at-heavy =
        sum-below (at_path_of g (λ _. count_of_elements is_element)) (λ top. sum_by w (elements_at g (path_of g top)))
        (λ top. omega (arith, elements-within is_element w heavy (alone (on_path (path_of g top) g)), sum-elements w (alone (on_path (path_of g top) g)))) (tops o)

    above-heavy : sum_by (at_path_of g (λ d _. d)) (tops o) ≤ above_tops
    above-heavy =
        sum-below (at_path_of g (λ d _. d)) (λ top. sum_by w (ancestors_at g (path_of g top)))
        (λ top. omega (arith, way-within is_element w heavy (on_way (path_of g top) g), sum-keys w (on_way (path_of g top) g))) (tops o)

  module _ (edit : Edit) (before after : KeyedSource) (o : Reach) (other : o ≢ All) where
    abbrev old : Forest (Keyed Node)
    old = before.tree

    abbrev new : Forest (Keyed Node)
    new = after.tree

    placed-sum : sum_by w (placed_by edit before after o) ≡ sum_by w (own_placed edit old new) + (at_tops old o + at_tops new o)
    placed-sum =
        omega (
          arith,
          sum-both w (elements_at old) (elements_at new) (places o (paths_before edit) old) (places o (paths_after edit) new),
          sum-places (λ path. sum_by w (elements_at old path)) o other (paths_before edit) old,
          sum-places (λ path. sum_by w (elements_at new path)) o other (paths_after edit) new,
          sum-both w (elements_at old) (elements_at new) (paths_before edit) (paths_after edit),
        )

    around-sum : (sum_by w (own_ancestors edit old new) + above_tops old o) ≤ sum_by w (around_by edit before after o)
    around-sum =
        omega (
          arith,
          both-around w old new (has_box_in before) (has_box_in after) (places o (paths_before edit) old) (new_places o edit),
          sum-both w (ancestors_at old) (ancestors_at new) (places o (paths_before edit) old) (new_places o edit),
          sum-places (λ path. sum_by w (ancestors_at old path)) o other (paths_before edit) old,
          ap (sum_by (λ path. sum_by w (ancestors_at new path))) (same-coming o other edit),
          sum-both w (ancestors_at old) (ancestors_at new) (paths_before edit) (paths_coming edit),
        )

    module _ (m : Merge Node) (unturned : IsUnturned m) (merges : Merges m old new) (was : IsKeyedDocument old) (document : IsKeyedDocument new) where
      abbrev is_reached : ℕ → Bool
      is_reached = begins_at o

      abbrev elements : Forest (Keyed Node) → ℕ
      elements = count_of_elements is_element

      led-few : led_count (reached is_reached m) ≤ led_count m + above_tops old o
      led-few =
          let at : depths_reached is_reached 0 (old_of m) ≡ depths_reached is_reached 0 old = ap (depths_reached is_reached 0) merges.old in
          omega (arith, led-within is_reached m unturned, at, tops-weigh old was.distinct (one-tree old was) o other (λ d _. d), above-heavy old o)

      come-few : come_count is_element (reached is_reached m) ≤ come_count is_element m + at_tops new o
      come-few =
          let at : weigh_reached is_reached (λ _. elements) 0 (new_of m) ≡ weigh_reached is_reached (λ _. elements) 0 new = ap (weigh_reached is_reached (λ _. elements) 0) merges.new in
          omega (
            arith,
            weigh-reached is_reached (λ _. 0) elements 0 m unturned,
            nothing-weighs is_reached 0 (old_of m),
            at,
            tops-weigh new document.distinct (one-tree new document) o other (λ _. elements),
            at-heavy new o,
          )

      gone-few : gone_count is_element (reached is_reached m) ≤ gone_count is_element m + at_tops old o
      gone-few =
          let at : weigh_reached is_reached (λ _. elements) 0 (old_of m) ≡ weigh_reached is_reached (λ _. elements) 0 old = ap (weigh_reached is_reached (λ _. elements) 0) merges.old in
          omega (
            arith,
            weigh-reached is_reached elements (λ _. 0) 0 m unturned,
            nothing-weighs is_reached 0 (new_of m),
            at,
            tops-weigh old was.distinct (one-tree old was) o other (λ _. elements),
            at-heavy old o,
          )

      places-few : 4 * place_count (reached is_reached m) ≤ 4 * place_count m + 12 + 2 * above_tops old o
      places-few =
          let at : count_reached is_reached 0 (old_of m) ≡ count_reached is_reached 0 old = ap (count_reached is_reached 0) merges.old in
          omega (arith, places-reached is_reached 0 m unturned, at, tops-few old was.distinct (one-tree old was) o other, above-heavy old o)

      pub reached-paid : AreCounted w m edit old new → ArePaid (reached is_reached m) (placed_by edit before after o) (around_by edit before after o)
      reached-paid count = record {
        few = omega (arith, count.few, led-few, come-few, gone-few, placed-sum, around-sum);
        places = omega (arith, count.places, places-few, around-sum);
      }
