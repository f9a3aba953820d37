-- The stops of an edit where what it reaches goes and comes: its places stand in the nodes that it reaches.
use Rattle.std.proofs.Common.{◌≡◌, ◌==◌, ◌<◌, ◌||◌, ◌&&◌, ◌⊎◌, ℕ, Bool, true, false, cond, List, [], ◌∷◌, ◌++◌, length, Option, Some, None, refl, sym, ap, subst, ◌∙◌, inl, inr, arith, eq-eqb, eqb-true, length-append}
use Rattle.std.specs.Prelude.{option_and_then, unwrap_or}
use Rattle.std.proofs.lemmas.Bool.{or_left, or_right}
use Rattle.std.proofs.lemmas.Option.{none-some, same_Some}
use Rattle.forest.specs.Forest.{Forest, Empty, IsOneTree, Tree}
use Rattle.forest.specs.Keys.{Keyed, times, without_keys}
use Rattle.forest.specs.Paths.{key_at, on_path, path_of}
use Rattle.forest.specs.Spots.{IsLive, first_key, index_of, parent_of}
use Rattle.forest.proofs.PathLaws.{first-tree, key_at-path_of, parent-live, path-live, path_of-key_at}
use Rattle.plain_types.specs.declared.edit.Edit.{Edit}
use Rattle.plain_types.specs.declared.edit.Edit.TheVariants.{Insert, Remove, Move, SetAttr, UnsetAttr, ReplaceSheet}
use Rattle.plain_types.specs.declared.node.Node.{Node}
use Rattle.plain_types.specs.declared.sheet.Features.{Features}
use Rattle.node_arena.specs.AtPaths.{leads_into, once_out}
use Rattle.node_arena.specs.Changes.{alone}
use Rattle.node_arena.specs.Document.{IsKeyedDocument}
use Rattle.node_arena.specs.Edits.{set_attr, unset_attr, with_its_key}
use Rattle.node_arena.proofs.EntryLaws.{one-tree}
use Rattle.node_arena.proofs.MoveLaws.{inner-long}
use Rattle.node_arena.proofs.PrepareLaws.{allowed-move}
use Rattle.merged_walk.specs.Edits.{first_changed, first_gone, removal}
use Rattle.merged_walk.specs.EditStops.{is_before, joined, on_way, relabelling_stops}
use Rattle.merged_walk.specs.Merges.{Merge, Gone, Come, all_kept}
use Rattle.merged_walk.specs.Stops.{stops_of}
use Rattle.merged_walk.proofs.LawLemmas.{relabellings_stop, removals_merge}
use Rattle.merged_walk.proofs.MergeLaws.{new-all_kept}
use Rattle.edit_merge.specs.EditMerges.{edit_merge, inserted_key, inserted_tree, is_element}
use Rattle.edit_merge.specs.Laws.{IsDone}
use Rattle.edit_merge.specs.NodeStops.{stops_at_node, stops_at_nodes}
use Rattle.edit_merge.proofs.EditLaws.{edits_have_leaves, edits_lead, edits_merge, edits_stop}
use Rattle.edit_merge.proofs.LevelLaws.{leaves-sound}
use Rattle.edit_merge.proofs.PlaceLaws.{named, there-is, under-named}
use Rattle.surroundings.specs.MergedLevels.{AreAllLed, HasLeaves}
use Rattle.style_reach.specs.Reaches.{both, coming_at, going_at, reach, reach_in_tree, seen_from, under}
use Rattle.style_reach.specs.TouchedSheets.{parent_at, touches_sheet}
use Rattle.style_reach.specs.declared.extent.Reach.{Reach}
use Rattle.style_reach.specs.declared.extent.Reach.TheVariants.{Own, Under, Both, All}
use Rattle.styled_merge.specs.Reached.{begins_at, reached, reached_merge}
use Rattle.styled_merge.specs.ReachStops.{reach_stops}
use Rattle.styled_merge.specs.StopLaws.{ReachesAreWalkable, StyledReachesAreWalkable, stops_where}
use Rattle.styled_merge.proofs.ApartNodes.{apart-stops}
use Rattle.styled_merge.proofs.NodeReached.{AreThere, reached-there}
use Rattle.styled_merge.proofs.ReachedLaws.{nothing-reached}
use Rattle.styled_merge.proofs.ReachedLevels.{all-led, either, leaves-reached, led-reached}
use Rattle.styled_merge.proofs.ShapeLaws.{has-shape}
use Rattle.styled_merge.proofs.UnderPlaces.{AreUnder, has_reached, same-stops, under-at, under-fragment, under-kept}
use Rattle.styled_merge.proofs.WayNodes.{first-alone, into-counted, into-itself, once-there, way-longer, way-node, way-once_out, way-parent, way-root}

-- Nodes that are reached, in the document before the edit.

module _ (old : Forest (Keyed Node)) (document : IsKeyedDocument old) where
  -- the tree at a path goes and comes
  stops-there : (is_reached : ℕ → Bool) (path : List ℕ) (top : ℕ) → key_at old path ≡ Some top → is_reached top ≡ true → AreThere is_reached path 0 old
      → stops_of is_element 0 (reached is_reached (all_kept old)) ≡ relabelling_stops is_element path old
  stops-there is_reached path top at reaches there =
      let t = first-tree (on_path path old) top at in
      let names = named path old t.0 t.1 t.2 t.3 in
      ap (stops_of is_element 0) (reached-there is_reached path 0 old top at reaches there)
      ∙ relabellings_stop Node is_element path (λ n. n) old (λ n. refl) names (under-named is_element path old (leaves-sound old document.is_tree.sound) names)

  -- one that stands there once
  one-there : (path : List ℕ) (top : ℕ) → 0 < times top (alone (on_path path old)) → (k : ℕ) → (top == k) ≡ true → times k old ≡ times k (alone (on_path path old))
  one-there path top some k is = subst (λ k. times k old ≡ times k (alone (on_path path old))) (eqb-true top k is) (once-there path old top document.distinct some)

  stops-under : (top : ℕ) → IsLive old top → stops_of is_element 0 (reached (begins_at (Under top)) (all_kept old)) ≡ stops_at_node old top
  stops-under top live =
      let at = key_at-path_of old top (one-tree old document) live in
      stops-there (begins_at (Under top)) (path_of old top) top at (eq-eqb top top refl) (one-there (path_of old top) top (first-alone (on_path (path_of old top) old) top at))

  module _ (one other : ℕ) (one_live : IsLive old one) (other_live : IsLive old other) where
    abbrev path_one : List ℕ
    path_one = path_of old one

    abbrev path_other : List ℕ
    path_other = path_of old other

    at_one : key_at old path_one ≡ Some one
    at_one = key_at-path_of old one (one-tree old document) one_live

    at_other : key_at old path_other ≡ Some other
    at_other = key_at-path_of old other (one-tree old document) other_live

    abbrev either_goes : Merge Node
    either_goes = reached (begins_at (Both one other)) (all_kept old)

    both-there : (way : List ℕ) → leads_into way path_one ≡ true → leads_into way path_other ≡ true → AreThere (begins_at (Both one other)) way 0 old
    both-there way into_one into_other k is = elim (either (one == k) (other == k) is) [
      | inl h ↦ one-there way one (into-counted way path_one old one into_one at_one) k h
      | inr h ↦ one-there way other (into-counted way path_other old other into_other at_other) k h
    ]

    stops-both : stops_of is_element 0 either_goes ≡ stops_at_nodes old one other
    stops-both =
        elim (leads_into path_one path_other) as (λ b. leads_into path_one path_other ≡ b → stops_of is_element 0 either_goes
        ≡ cond b (stops_at_node old one) (cond (leads_into path_other path_one) (stops_at_node old other) (joined (is_before path_one path_other) (stops_at_node old one) (stops_at_node old other)))) [
          | true ↦ λ into.
              stops-there (begins_at (Both one other)) path_one one at_one (or_left (one == one) (other == one) (eq-eqb one one refl)) (both-there path_one (into-itself path_one) into)
          | false ↦ λ out.
              elim (leads_into path_other path_one) as (λ b. leads_into path_other path_one ≡ b → stops_of is_element 0 either_goes
              ≡ cond b (stops_at_node old other) (joined (is_before path_one path_other) (stops_at_node old one) (stops_at_node old other))) [
                | true ↦ λ into.
                    stops-there (begins_at (Both one other)) path_other other at_other (or_right (one == other) (other == other) (eq-eqb other other refl)) (both-there path_other into (into-itself path_other))
                | false ↦ λ away.
                    apart-stops one other is_element 0 0 0 path_one path_other old document.distinct at_one at_other out away
                    ∙ (let own = stops-under one one_live in let its = stops-under other other_live in λ x. joined (is_before path_one path_other) (own x) (its x))
              ] refl
        ] refl

  -- the whole document goes and comes
  one-alone : (g : Forest (Keyed Node)) → IsOneTree g → g ≡ alone g
  one-alone Empty one = absurd one
  one-alone (Tree n c r) one = ap (Tree n c) one

  stops-all : stops_of is_element 0 (reached (begins_at All) (all_kept old)) ≡ relabelling_stops is_element [] old
  stops-all =
      let root = a-root old (one-tree old document) in
      stops-there (begins_at All) [] root.0 root.1 refl (λ k reaches. ap (times k) (one-alone old (one-tree old document)))
    where
      a-root : (g : Forest (Keyed Node)) → IsOneTree g → (q : ℕ) × (first_key g ≡ Some q)
      a-root Empty one = absurd one
      a-root (Tree n c r) one = (n.key, refl)

-- The places of an edit stand in nodes that are reached.

abbrev Stands : (ℕ → Bool) → Edit → Forest (Keyed Node) → Type 0
Stands is_reached (Insert parent index fragment) old = has_reached is_reached (on_way (parent ++ index ∷ []) old) ≡ true
Stands is_reached (Remove path) old = has_reached is_reached (on_way path old) ≡ true
Stands is_reached (Move from parent index) old = (has_reached is_reached (on_way from old) ≡ true) × (has_reached is_reached (on_way (parent ++ index ∷ []) old) ≡ true)
Stands is_reached (SetAttr path name value) old = has_reached is_reached (on_way path old) ≡ true
Stands is_reached (UnsetAttr path name) old = has_reached is_reached (on_way path old) ≡ true
Stands is_reached (ReplaceSheet text) old = Unit {0}

module _ (is_reached : ℕ → Bool) where
  under-edit : (edit : Edit) (old new : Forest (Keyed Node)) → IsDone edit old new → Stands is_reached edit old → AreUnder is_reached (edit_merge edit old new)
  under-edit (Insert parent index fragment) old new done h =
      under-fragment is_reached parent index (inserted_tree parent index new) (all_kept old) (under-kept is_reached old)
      (subst (λ g. has_reached is_reached (on_way (parent ++ index ∷ []) g) ≡ true) (sym (new-all_kept old)) h)
  under-edit (Remove path) old new done h = under-at is_reached first_gone path old h
  under-edit (Move from parent index) old new done h =
      let can = allowed-move from parent index (without_keys old) done.allowed in
      let way = way-once_out from parent index old (inner-long from (without_keys old) can.0) can.2 in
      under-fragment is_reached (once_out from parent) index (on_path from old) (removal from old) (under-at is_reached first_gone from old h.0)
      (ap (λ g. has_reached is_reached (on_way (once_out from parent ++ index ∷ []) g)) (removals_merge Node from old).new ∙ ap (has_reached is_reached) way ∙ h.1)
  under-edit (SetAttr path name value) old new done h = under-at is_reached (first_changed (with_its_key (set_attr name value))) path old h
  under-edit (UnsetAttr path name) old new done h = under-at is_reached (first_changed (with_its_key (unset_attr name))) path old h
  under-edit (ReplaceSheet text) old new done h = under-kept is_reached old

  -- so only the document before tells the stops
  by-old : (edit : Edit) (old new : Forest (Keyed Node)) → IsDone edit old new → Stands is_reached edit old
      → stops_of is_element 0 (reached is_reached (edit_merge edit old new)) ≡ stops_of is_element 0 (reached is_reached (all_kept old))
  by-old edit old new done h =
      same-stops is_element is_reached 0 (edit_merge edit old new) (under-edit edit old new done h)
      ∙ ap (λ g. stops_of is_element 0 (reached is_reached (all_kept g))) (edits_merge edit old new done).old

-- What a change is seen from stands above it.

and-then-some : {A B : Type 0} (f : A → Option B) (o : Option A) (y : B) → option_and_then f o ≡ Some y → (x : A) × (o ≡ Some x) × (f x ≡ Some y)
and-then-some f None y h = absurd (none-some y h)
and-then-some f (Some x) y h = (x, refl, h)

seen-cases : (a b : Bool) (o : Option ℕ) (t top : ℕ) → cond a (Some (unwrap_or o t)) (cond b (Some t) None) ≡ Some top → (o ≡ Some top) ⊎ (t ≡ top)
seen-cases true b None t top h = inr (same_Some t top h)
seen-cases true b (Some p) t top h = inl h
seen-cases false true o t top h = inr (same_Some t top h)
seen-cases false false o t top h = absurd (none-some top h)

if-some : (b : Bool) (o : Option ℕ) (top : ℕ) → cond b o None ≡ Some top → o ≡ Some top
if-some true o top h = h
if-some false o top h = absurd (none-some top h)

module _ (features : Features) (old : Forest (Keyed Node)) (document : IsKeyedDocument old) (top : ℕ) where
  module _ (is_reached : ℕ → Bool) (reaches : is_reached top ≡ true) where
    -- one of the nodes above the place is reached, and the node that is named is one of the document
    abbrev IsAbove : List ℕ → Type 0
    IsAbove path = (has_reached is_reached (on_way path old) ≡ true) × IsLive old top

    -- the parent of a node stands above it
    parent-above : (path : List ℕ) (q : ℕ) → key_at old path ≡ Some q → parent_of old q ≡ Some top → IsAbove path
    parent-above path q at parent =
        let way = way-parent old document path q top at parent in (
          subst (λ path. has_reached is_reached (on_way path old) ≡ true) (sym way.0) (way-node is_reached (path_of old top) (index_of old q) old top way.1 reaches),
          parent-live old q top document.distinct (path-live old path q at) parent,
        )

    seen-above : (path : List ℕ) (index t : ℕ) → key_at old path ≡ Some t → seen_from features old t ≡ Some top → IsAbove (path ++ index ∷ [])
    seen-above path index t at seen = elim (seen-cases (features.siblings && features.empties) (features.siblings || (features.positions || features.empties)) (parent_of old t) t top seen) [
      | inl parent ↦ let above = parent-above path t at parent in (way-longer is_reached path (index ∷ []) old above.0, above.1)
      | inr same ↦
          let here : key_at old path ≡ Some top = at ∙ ap (λ k. Some k) same in
          (way-node is_reached path index old top here reaches, path-live old path top here)
    ]

    coming-above : (parent : List ℕ) (index : ℕ) → coming_at features old parent ≡ Some top → IsAbove (parent ++ index ∷ [])
    coming-above parent index h = let t = and-then-some (seen_from features old) (key_at old parent) top h in seen-above parent index t.0 t.1 t.2

    going-above : (path : List ℕ) → going_at features old path ≡ Some top → IsAbove path
    going-above path h =
        let t = and-then-some (seen_from features old) (parent_at old path) top h in
        let q = and-then-some (parent_of old) (key_at old path) t.0 t.1 in
        let way = way-parent old document path q.0 t.0 q.1 q.2 in
        subst IsAbove (sym way.0) (seen-above (path_of old t.0) (index_of old q.0) t.0 way.1 t.2)

    attribute-above : (path : List ℕ) → cond features.siblings (parent_at old path) None ≡ Some top → IsAbove path
    attribute-above path h =
        let q = and-then-some (parent_of old) (key_at old path) top (if-some features.siblings (parent_at old path) top h) in
        parent-above path q.0 q.1 q.2

-- Which nodes a reach names.

in-tree : (b : Bool) (o r : Reach) → cond b All o ≡ r → (All ≡ r → ⊥) → o ≡ r
in-tree true o r h other = absurd (other h)
in-tree false o r h other = h

under-some : (o : Option ℕ) (top : ℕ) → under o ≡ Under top → o ≡ Some top
under-some None top h = absurd (cc)
under-some (Some t) top h = let same : t ≡ top = cc in ap (λ k. Some k) same

under-both : {X : Type 0} (o : Option ℕ) (one other : ℕ) → under o ≡ Both one other → X
under-both None one other h = absurd (cc)
under-both (Some t) one other h = absurd (cc)

both-under : {X : Type 0} (a b : Option ℕ) (top : ℕ) → both a b ≡ Under top → X
both-under None b top h = absurd (cc)
both-under (Some s) None top h = absurd (cc)
both-under (Some s) (Some t) top h = absurd (cc)

both-some : (a b : Option ℕ) (one other : ℕ) → both a b ≡ Both one other → (a ≡ Some one) × (b ≡ Some other)
both-some None b one other h = absurd (cc)
both-some (Some s) None one other h = absurd (cc)
both-some (Some s) (Some t) one other h =
    let first : s ≡ one = cc in
    let second : t ≡ other = cc in
    (ap (λ k. Some k) first, ap (λ k. Some k) second)

module _ (features : Features) (old : Forest (Keyed Node)) (document : IsKeyedDocument old) where
  tree-under : (edit : Edit) (top : ℕ) → reach_in_tree features old edit ≡ Under top → Stands (begins_at (Under top)) edit old × IsLive old top
  tree-under (Insert parent index fragment) top h = coming-above features old document top (begins_at (Under top)) (eq-eqb top top refl) parent index (under-some _ top h)
  tree-under (Remove path) top h = going-above features old document top (begins_at (Under top)) (eq-eqb top top refl) path (under-some _ top h)
  tree-under (Move from parent index) top h = both-under _ _ top h
  tree-under (SetAttr path name value) top h = attribute-above features old document top (begins_at (Under top)) (eq-eqb top top refl) path (under-some _ top h)
  tree-under (UnsetAttr path name) top h = attribute-above features old document top (begins_at (Under top)) (eq-eqb top top refl) path (under-some _ top h)
  tree-under (ReplaceSheet text) top h = absurd (cc h)

  tree-both : (edit : Edit) (one other : ℕ) → reach_in_tree features old edit ≡ Both one other → Stands (begins_at (Both one other)) edit old × IsLive old one × IsLive old other
  tree-both (Insert parent index fragment) one other h = under-both _ one other h
  tree-both (Remove path) one other h = under-both _ one other h
  tree-both (Move from parent index) one other h =
      let names = both-some _ _ one other h in
      let goes = going-above features old document one (begins_at (Both one other)) (or_left (one == one) (other == one) (eq-eqb one one refl)) from names.0 in
      let comes = coming-above features old document other (begins_at (Both one other)) (or_right (one == other) (other == other) (eq-eqb other other refl)) parent index names.1 in
      ((goes.0, comes.0), goes.1, comes.1)
  tree-both (SetAttr path name value) one other h = under-both _ one other h
  tree-both (UnsetAttr path name) one other h = under-both _ one other h
  tree-both (ReplaceSheet text) one other h = absurd (cc h)

  pub names-under : (edit : Edit) (top : ℕ) → reach features old edit ≡ Under top → Stands (begins_at (Under top)) edit old × IsLive old top
  names-under edit top h = tree-under edit top (in-tree (touches_sheet old edit) (reach_in_tree features old edit) (Under top) h (λ is. cc is))

  pub names-both : (edit : Edit) (one other : ℕ) → reach features old edit ≡ Both one other → Stands (begins_at (Both one other)) edit old × IsLive old one × IsLive old other
  names-both edit one other h = tree-both edit one other (in-tree (touches_sheet old edit) (reach_in_tree features old edit) (Both one other) h (λ is. cc is))

  -- they are nodes of the document

  pub live-under : (edit : Edit) (top : ℕ) → reach features old edit ≡ Under top → IsLive old top
  live-under edit top h = (names-under edit top h).1

  pub live-both : (edit : Edit) (one other : ℕ) → reach features old edit ≡ Both one other → IsLive old one × IsLive old other
  live-both edit one other h = let names = names-both edit one other h in (names.1, names.2)

pub at-root : (old : Forest (Keyed Node)) → IsKeyedDocument old → (root : ℕ) → Some root ≡ first_key old → stops_at_node old root ≡ relabelling_stops is_element [] old
at-root old document root is = ap (λ way. relabelling_stops is_element way old) (path_of-key_at old [] root document.distinct (sym is))

-- Where all is reached, the root goes and comes, or it does already.

again-all : (change : Keyed Node → Keyed Node) (g : Forest (Keyed Node)) → IsOneTree g → reached (begins_at All) (first_changed change g) ≡ first_changed change g
again-all change Empty one = absurd one
again-all change (Tree n c r) one = ap (λ r. Gone n c (Come (change n) c (reached (begins_at All) (all_kept r)))) one ∙ sym (ap (λ r. Gone n c (Come (change n) c (all_kept r))) one)

module _ (old new : Forest (Keyed Node)) where
  root-stands : (path : List ℕ) → IsKeyedDocument old → 0 < length path → has_reached (begins_at All) (on_way path old) ≡ true
  root-stands path document long = by-tree old (one-tree old document)
    where
      by-tree : (g : Forest (Keyed Node)) → IsOneTree g → has_reached (begins_at All) (on_way path g) ≡ true
      by-tree Empty one = absurd one
      by-tree (Tree n c r) one = way-root (begins_at All) path n c r long refl

  child-long : (parent : List ℕ) (index : ℕ) → 0 < length (parent ++ index ∷ [])
  child-long parent index = omega (arith, length-append parent (index ∷ []))

  by-root : (edit : Edit) → IsDone edit old new → Stands (begins_at All) edit old → stops_of is_element 0 (reached (begins_at All) (edit_merge edit old new)) ≡ relabelling_stops is_element [] old
  by-root edit done stands = by-old (begins_at All) edit old new done stands ∙ stops-all old done.before

  everywhere : (edit : Edit) → IsDone edit old new → stops_of is_element 0 (reached (begins_at All) (edit_merge edit old new)) ≡ relabelling_stops is_element [] old
  everywhere (Insert parent index fragment) done = by-root (Insert parent index fragment) done (root-stands (parent ++ index ∷ []) done.before (child-long parent index))
  everywhere (Remove path) done = by-root (Remove path) done (root-stands path done.before (inner-long path (without_keys old) (there-is _ done.allowed)))
  everywhere (Move from parent index) done =
      let can = allowed-move from parent index (without_keys old) done.allowed in
      by-root (Move from parent index) done (root-stands from done.before (inner-long from (without_keys old) can.0), root-stands (parent ++ index ∷ []) done.before (child-long parent index))
  everywhere (SetAttr [] name value) done =
      ap (stops_of is_element 0) (again-all (with_its_key (set_attr name value)) old (one-tree old done.before)) ∙ edits_stop (SetAttr [] name value) old new done
  everywhere (SetAttr (i ∷ path) name value) done = by-root (SetAttr (i ∷ path) name value) done (root-stands (i ∷ path) done.before (omega arith))
  everywhere (UnsetAttr [] name) done =
      ap (stops_of is_element 0) (again-all (with_its_key (unset_attr name)) old (one-tree old done.before)) ∙ edits_stop (UnsetAttr [] name) old new done
  everywhere (UnsetAttr (i ∷ path) name) done = by-root (UnsetAttr (i ∷ path) name) done (root-stands (i ∷ path) done.before (omega arith))
  everywhere (ReplaceSheet text) done = by-root (ReplaceSheet text) done tt

-- The laws.

module _ (edit : Edit) (old new : Forest (Keyed Node)) (done : IsDone edit old new) (features : Features) where
  by-reach : (o : Reach) → reach features old edit ≡ o → stops_of is_element 0 (reached (begins_at o) (edit_merge edit old new)) ≡ reach_stops o edit (inserted_key edit new) old
  by-reach Own is = ap (stops_of is_element 0) (nothing-reached (begins_at Own) (λ k. refl) (edit_merge edit old new)) ∙ edits_stop edit old new done
  by-reach (Under top) is =
      let names = names-under features old done.before edit top is in
      by-old (begins_at (Under top)) edit old new done names.0 ∙ stops-under old done.before top names.1
  by-reach (Both one other) is =
      let names = names-both features old done.before edit one other is in
      by-old (begins_at (Both one other)) edit old new done names.0 ∙ stops-both old done.before one other names.1 names.2
  by-reach All is = everywhere old new edit done

  reach-stops : stops_where features edit old new ≡ stops_of is_element 0 (reached_merge features edit old new)
  reach-stops = sym (by-reach (reach features old edit) refl)

  reach-leaves : HasLeaves is_element (reached_merge features edit old new)
  reach-leaves = leaves-reached is_element (begins_at (reach features old edit)) (edit_merge edit old new) (edits_have_leaves edit old new done)

led-by : (edit : Edit) (old new : Forest (Keyed Node)) (features : Features) → AreAllLed (edit_merge edit old new) → AreAllLed (reached_merge features edit old new)
led-by edit old new features led = led-reached (begins_at (reach features old edit)) (edit_merge edit old new) led

reach-led : (edit : Edit) (old new : Forest (Keyed Node)) → IsDone edit old new → (features : Features) → AreAllLed (reached_merge features edit old new)
reach-led (Insert parent index fragment) old new done features = let edit = Insert parent index fragment in led-by edit old new features (edits_lead edit old new done tt)
reach-led (Remove path) old new done features = let edit = Remove path in led-by edit old new features (edits_lead edit old new done tt)
reach-led (Move from parent index) old new done features = let edit = Move from parent index in led-by edit old new features (edits_lead edit old new done tt)
reach-led (SetAttr path name value) old new done features = let edit = SetAttr path name value in led-by edit old new features (edits_lead edit old new done tt)
reach-led (UnsetAttr path name) old new done features = let edit = UnsetAttr path name in led-by edit old new features (edits_lead edit old new done tt)
reach-led (ReplaceSheet text) old new done features = all-led (begins_at All) (λ k. refl) (edit_merge (ReplaceSheet text) old new)

pub reaches_are_walkable : ReachesAreWalkable
reaches_are_walkable edit old new done features = record {
  stops = reach-stops edit old new done features;
  leaves = reach-leaves edit old new done features;
  led = reach-led edit old new done features;
}

pub styled_reaches_are_walkable : StyledReachesAreWalkable
styled_reaches_are_walkable edit old new done features old_style new_style was_start start parent =
    let plain = reaches_are_walkable edit old new done features in
    let shape = has-shape old_style new_style was_start start parent (reached_merge features edit old new) in
    record { stops = plain.stops ∙ sym (shape.stops 0); leaves = shape.leaves plain.leaves; led = shape.all_led plain.led }
