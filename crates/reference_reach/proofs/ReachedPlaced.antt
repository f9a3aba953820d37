-- What the merge of an edit enters is at its places or above them, where what the edit reaches goes and comes. Throughout,
-- f is what a place lists, and g trees.
use Rattle.std.proofs.Common.{◌≡◌, ◌||◌, ℕ, false, cond, List, [], ◌∷◌, ◌++◌, refl, sym, ap, ap₂, subst, ◌∙◌}
use Rattle.std.specs.Prelude.{◌≢◌, flat_map}
use Rattle.std.proofs.lemmas.List.Concat.{flat_map-append}
use Rattle.forest.specs.Forest.{Forest, Empty, IsOneTree, Tree}
use Rattle.forest.specs.Keys.{Keyed}
use Rattle.forest.specs.Paths.{path_of}
use Rattle.plain_types.specs.declared.edit.Edit.{Edit}
use Rattle.plain_types.specs.declared.node.Node.{Node}
use Rattle.node_arena.specs.Document.{IsKeyedDocument}
use Rattle.generated_texts.specs.Documents.{agent_sheet}
use Rattle.merged_walk.specs.Laws.{Merges}
use Rattle.merged_walk.specs.Merges.{new_of, old_of}
use Rattle.edit_merge.specs.EditMerges.{edit_merge}
use Rattle.edit_merge.proofs.EditLaws.{edits_merge}
use Rattle.edit_merge.proofs.PlaceLaws.{one-root}
use Rattle.style_reach.specs.Reaches.{all_features}
use Rattle.style_reach.specs.declared.extent.Reach.{Reach}
use Rattle.style_reach.specs.declared.extent.Reach.TheVariants.{Own, Under, Both, All}
use Rattle.styled_merge.specs.Reached.{begins_at, reached_merge}
use Rattle.styled_merge.proofs.EditCounts.{unturned-edit}
use Rattle.edit_work.specs.KeyedSources.{KeyedSource, author}
use Rattle.edit_work.specs.Laws.{Leads}
use Rattle.edit_work.specs.Places.{ancestors_at, around_place, elements_at, new_places, paths_after, paths_before, paths_coming, places}
use Rattle.edit_work.specs.Work.{around_places, edit_reach, has_box_in, placed}
use Rattle.reference_reach.specs.MergedNodes.{entered_elements}
use Rattle.reference_reach.proofs.Lists.{Within, both-within, itself-within, left-within, nothing-within, right-within, same-within, sum-within, through-within}
use Rattle.reference_reach.proofs.PlacedLaws.{above-around, above_places, at_places, there}
use Rattle.reference_reach.proofs.ReachedEntered.{above_reached, at-its-path, entered-reached, has_reached, in_reached, over-either, trees-either}

-- where nothing is reached
own-trees : (g : Forest (Keyed Node)) → in_reached (begins_at Own) g ≡ []
own-trees Empty = refl
own-trees (Tree n c r) = ap₂ (λ xs ys. xs ++ ys) (own-trees c) (own-trees r)

own-none : (g : Forest (Keyed Node)) → has_reached (begins_at Own) g ≡ false
own-none Empty = refl
own-none (Tree n c r) = ap₂ (λ x y. x || y) (own-none c) (own-none r)

own-over : (g : Forest (Keyed Node)) → above_reached (begins_at Own) g ≡ []
own-over Empty = refl
own-over (Tree n c r) =
    ap (λ b. (cond b (n.key ∷ []) [] ++ above_reached (begins_at Own) c) ++ above_reached (begins_at Own) r) (own-none c)
    ∙ ap₂ (λ xs ys. xs ++ ys) (own-over c) (own-over r)

one-tree : (g : Forest (Keyed Node)) → IsKeyedDocument g → IsOneTree g
one-tree g document = let root = one-root g document.is_tree.one in subst IsOneTree (sym root.2) refl

module _ (f : List ℕ → List ℕ) where
  -- a place more
  last-within : (paths : List (List ℕ)) (path : List ℕ) (more : List (List ℕ)) → Within (f path) (flat_map f (paths ++ path ∷ more))
  last-within paths path more =
      through-within (left-within (f path) (flat_map f more))
      (through-within (right-within (flat_map f paths) (flat_map f (path ∷ more)))
      (same-within (flat_map f paths ++ flat_map f (path ∷ more)) (flat_map f (paths ++ path ∷ more)) (sym (flat_map-append f paths (path ∷ more)))))

  first-places : (paths more : List (List ℕ)) → Within (flat_map f paths) (flat_map f (paths ++ more))
  first-places paths more =
      through-within (left-within (flat_map f paths) (flat_map f more)) (same-within (flat_map f paths ++ flat_map f more) (flat_map f (paths ++ more)) (sym (flat_map-append f paths more)))

  own-places : (o : Reach) → o ≢ All → (paths : List (List ℕ)) (g : Forest (Keyed Node)) → Within (flat_map f paths) (flat_map f (places o paths g))
  own-places Own not paths g = itself-within (flat_map f paths)
  own-places (Under top) not paths g = first-places paths (path_of g top ∷ [])
  own-places (Both first second) not paths g = first-places paths (path_of g first ∷ (path_of g second ∷ []))
  own-places All not paths g = absurd (not refl)

module _ (g : Forest (Keyed Node)) (document : IsKeyedDocument g) where
  trees-at : (o : Reach) → o ≢ All → (paths : List (List ℕ)) → Within (in_reached (begins_at o) g) (flat_map (elements_at g) (places o paths g))
  trees-at Own not paths = through-within (same-within (in_reached (begins_at Own) g) [] (own-trees g)) (nothing-within (flat_map (elements_at g) paths))
  trees-at (Under top) not paths = through-within (at-its-path top g document.distinct (one-tree g document)).trees (last-within (elements_at g) paths (path_of g top) [])
  trees-at (Both first second) not paths =
      let one = at-its-path first g document.distinct (one-tree g document) in
      let other = at-its-path second g document.distinct (one-tree g document) in
      let all : List (List ℕ) = paths ++ (path_of g first ∷ (path_of g second ∷ [])) in
      through-within (trees-either first second g)
      (both-within (in_reached (begins_at (Under first)) g) (in_reached (begins_at (Under second)) g)
      (through-within one.trees (last-within (elements_at g) paths (path_of g first) (path_of g second ∷ [])))
      (through-within other.trees
      (through-within (through-within (left-within (elements_at g (path_of g second)) []) (right-within (elements_at g (path_of g first)) (flat_map (elements_at g) (path_of g second ∷ []))))
      (through-within (right-within (flat_map (elements_at g) paths) (flat_map (elements_at g) (path_of g first ∷ (path_of g second ∷ []))))
      (same-within (flat_map (elements_at g) paths ++ flat_map (elements_at g) (path_of g first ∷ (path_of g second ∷ []))) (flat_map (elements_at g) all)
      (sym (flat_map-append (elements_at g) paths (path_of g first ∷ (path_of g second ∷ [])))))))))
  trees-at All not paths = absurd (not refl)

  over-at : (o : Reach) → o ≢ All → (paths : List (List ℕ)) → Within (above_reached (begins_at o) g) (flat_map (ancestors_at g) (places o paths g))
  over-at Own not paths = through-within (same-within (above_reached (begins_at Own) g) [] (own-over g)) (nothing-within (flat_map (ancestors_at g) paths))
  over-at (Under top) not paths = through-within (at-its-path top g document.distinct (one-tree g document)).over (last-within (ancestors_at g) paths (path_of g top) [])
  over-at (Both first second) not paths =
      let one = at-its-path first g document.distinct (one-tree g document) in
      let other = at-its-path second g document.distinct (one-tree g document) in
      let all : List (List ℕ) = paths ++ (path_of g first ∷ (path_of g second ∷ [])) in
      through-within (over-either first second g)
      (both-within (above_reached (begins_at (Under first)) g) (above_reached (begins_at (Under second)) g)
      (through-within one.over (last-within (ancestors_at g) paths (path_of g first) (path_of g second ∷ [])))
      (through-within other.over
      (through-within (through-within (left-within (ancestors_at g (path_of g second)) []) (right-within (ancestors_at g (path_of g first)) (flat_map (ancestors_at g) (path_of g second ∷ []))))
      (through-within (right-within (flat_map (ancestors_at g) paths) (flat_map (ancestors_at g) (path_of g first ∷ (path_of g second ∷ []))))
      (same-within (flat_map (ancestors_at g) paths ++ flat_map (ancestors_at g) (path_of g first ∷ (path_of g second ∷ []))) (flat_map (ancestors_at g) all)
      (sym (flat_map-append (ancestors_at g) paths (path_of g first ∷ (path_of g second ∷ [])))))))))
  over-at All not paths = absurd (not refl)

-- the new places, where the edit does not reach everywhere
new-places : (o : Reach) → o ≢ All → (edit : Edit) → paths_coming edit ≡ new_places o edit
new-places Own not edit = refl
new-places (Under top) not edit = refl
new-places (Both first second) not edit = refl
new-places All not edit = absurd (not refl)

module _ (edit : Edit) (before after : KeyedSource) where
  abbrev reaches : Reach
  reaches = edit_reach edit before after

  abbrev placed_there : List ℕ
  placed_there = flat_map (elements_at before.tree) (places reaches (paths_before edit) before.tree) ++ flat_map (elements_at after.tree) (places reaches (paths_after edit) after.tree)

  abbrev around_there : List ℕ
  around_there =
      flat_map (around_place before.tree (has_box_in before)) (places reaches (paths_before edit) before.tree)
      ++ flat_map (around_place after.tree (has_box_in after)) (new_places reaches edit)

  placed-is : placed edit before after ≡ placed_there
  unfolding placed
  placed-is = refl

  around-is : around_places edit before after ≡ around_there
  unfolding around_places
  around-is = refl

  module _ (leads : Leads edit before after) (not : reaches ≢ All) where
    abbrev was_placed : List ℕ
    was_placed = flat_map (elements_at before.tree) (places reaches (paths_before edit) before.tree)

    abbrev now_placed : List ℕ
    now_placed = flat_map (elements_at after.tree) (places reaches (paths_after edit) after.tree)

    abbrev was_around : List ℕ
    was_around = flat_map (around_place before.tree (has_box_in before)) (places reaches (paths_before edit) before.tree)

    abbrev now_around : List ℕ
    now_around = flat_map (around_place after.tree (has_box_in after)) (new_places reaches edit)

    own-there : Within (at_places edit before.tree after.tree ++ above_places edit before.tree after.tree) (placed_there ++ around_there)
    own-there =
        sum-within (at_places edit before.tree after.tree) (above_places edit before.tree after.tree) placed_there around_there
        (sum-within (flat_map (elements_at before.tree) (paths_before edit)) (flat_map (elements_at after.tree) (paths_after edit)) was_placed now_placed
        (own-places (elements_at before.tree) reaches not (paths_before edit) before.tree) (own-places (elements_at after.tree) reaches not (paths_after edit) after.tree))
        (sum-within (flat_map (ancestors_at before.tree) (paths_before edit)) (flat_map (ancestors_at after.tree) (paths_coming edit)) was_around now_around
        (through-within (own-places (ancestors_at before.tree) reaches not (paths_before edit) before.tree)
        (above-around before.tree (has_box_in before) (places reaches (paths_before edit) before.tree)))
        (through-within (above-around after.tree (has_box_in after) (paths_coming edit))
        (same-within (flat_map (around_place after.tree (has_box_in after)) (paths_coming edit)) now_around (ap (flat_map (around_place after.tree (has_box_in after))) (new-places reaches not edit)))))

    reached-there : Within (in_reached (begins_at reaches) after.tree ++ above_reached (begins_at reaches) before.tree) (placed_there ++ around_there)
    reached-there =
        sum-within (in_reached (begins_at reaches) after.tree) (above_reached (begins_at reaches) before.tree) placed_there around_there
        (through-within (trees-at after.tree leads.done.after reaches not (paths_after edit)) (right-within was_placed now_placed))
        (through-within (over-at before.tree leads.done.before reaches not (paths_before edit))
        (through-within (above-around before.tree (has_box_in before) (places reaches (paths_before edit) before.tree)) (left-within was_around now_around)))

    pub entered-there : Within (entered_elements (reached_merge (all_features agent_sheet (author before)) edit before.tree after.tree)) (placed edit before after ++ around_places edit before after)
    entered-there =
        let merge = edit_merge edit before.tree after.tree in
        let merges : Merges merge before.tree after.tree = edits_merge edit before.tree after.tree leads.done in
        let beyond : List ℕ = in_reached (begins_at reaches) (new_of merge) ++ above_reached (begins_at reaches) (old_of merge) in
        through-within (entered-reached (begins_at reaches) merge (unturned-edit edit before.tree after.tree))
        (through-within
        (both-within (entered_elements merge) beyond
        (through-within (there edit before.tree after.tree leads.done) own-there)
        (through-within
        (same-within beyond (in_reached (begins_at reaches) after.tree ++ above_reached (begins_at reaches) before.tree)
        (ap₂ (λ new old. in_reached (begins_at reaches) new ++ above_reached (begins_at reaches) old) merges.new merges.old))
        reached-there))
        (same-within (placed_there ++ around_there) (placed edit before after ++ around_places edit before after) (ap₂ (λ xs ys. xs ++ ys) (sym placed-is) (sym around-is))))
