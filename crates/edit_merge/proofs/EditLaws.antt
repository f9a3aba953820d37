-- The laws of edits, edit by edit.
use Rattle.std.proofs.Common.{◌≡◌, ◌&&◌, ℕ, Bool, true, false, cond, List, [], ◌∷◌, ◌++◌, length, Option, Some, is_some, unwrap_or, refl, sym, ap, subst, ◌∙◌, arith}
use Rattle.forest.specs.Forest.{Forest, Empty, IsOneTree, Tree}
use Rattle.forest.specs.Keys.{Keyed, HasDistinctKeys, without_keys}
use Rattle.forest.specs.Paths.{key_at, on_path}
use Rattle.forest.specs.Spots.{first_key}
use Rattle.plain_types.specs.Tree.{IsOne}
use Rattle.plain_types.specs.declared.edit.Edit.{Edit}
use Rattle.plain_types.specs.declared.edit.Edit.TheVariants.{Insert, Remove, Move, SetAttr, UnsetAttr, ReplaceSheet}
use Rattle.plain_types.specs.declared.node.Node.{Node}
use Rattle.node_arena.specs.AtPaths.{first_label, inserted_at}
use Rattle.node_arena.specs.Edits.{has_room_at, is_element_at, is_node_at, set_attr, unset_attr, with_its_key}
use Rattle.node_arena.proofs.EntryLaws.{one-tree}
use Rattle.node_arena.proofs.PrepareLaws.{allowed-move}
use Rattle.merged_walk.specs.declared.stop.Stop.{Stop}
use Rattle.merged_walk.specs.Merges.{Merge, all_kept, has_place}
use Rattle.merged_walk.specs.Stops.{stops_of}
use Rattle.merged_walk.specs.Edits.{insertion, relabelling}
use Rattle.merged_walk.specs.EditStops.{changed_stops, gone_stop, insertion_stops, is_common, joined, moving_stops, old_index, on_way, removal_stops, stops_into}
use Rattle.merged_walk.proofs.LawLemmas.{insertions_merge, insertions_stop, moves_merge, moves_stop, relabellings_merge, relabellings_stop, removals_merge, removals_stop}
use Rattle.merged_walk.proofs.MergeLaws.{has_place-all_kept, new-all_kept, old-all_kept}
use Rattle.edit_merge.specs.EditMerges.{edit_merge, edit_stops, inserted_key, inserted_tree, is_element}
use Rattle.edit_merge.specs.Laws.{ChangesDocument, EditsHaveLeaves, EditsLead, EditsMerge, EditsStop, IsDone}
use Rattle.surroundings.specs.MergedLevels.{AreLeaves}
use Rattle.edit_merge.proofs.LevelLaws.{TurnsElements, leaves-merged, leaves-sound, led-one, no-stops, turns-insertion, turns-kept, turns-moving, turns-relabelling, turns-removal}
use Rattle.edit_merge.proofs.PlaceLaws.{HasElement, IsThere, both-are, element-there, first-alone, inserted-there, keys-there, named, node-there, one-root, room-once_out, room-there, there-is, under-element, under-named}

-- What an insertion puts in.

pub record Inserted (parent : List ℕ) (index : ℕ) (old new : Forest (Keyed Node)) : Type 0 where
  pub root : Keyed Node
  pub children : Forest (Keyed Node)
  pub tree : inserted_tree parent index new ≡ Tree root children Empty
  pub is : new ≡ inserted_at parent index (Tree root children Empty) old
  pub above : HasElement parent old
  pub room : has_room_at parent index (without_keys old) ≡ true

pub inserted : (parent : List ℕ) (index : ℕ) (fragment : Forest Node) (old new : Forest (Keyed Node)) → IsDone (Insert parent index fragment) old new → Inserted parent index old new
inserted parent index fragment old new done =
    let keys = done.edited.keys in
    let can = both-are (is_element_at parent (without_keys old)) (has_room_at parent index (without_keys old)) (there-is _ done.allowed) in
    let above = element-there parent old can.0 in
    let z = one-root keys.0 (subst IsOne (sym keys.1) done.fragment) in
    let is : new ≡ inserted_at parent index (Tree z.0 z.1 Empty) old = keys.3 ∙ ap (λ t. inserted_at parent index t old) z.2 in
    record {
      root = z.0;
      children = z.1;
      tree =
          ap (inserted_tree parent index) is
          ∙ inserted-there parent index z.0 z.1 old (ap (λ t. is_some (first_label t)) above.on) (keys-there parent index old can.1);
      is = is;
      above = above;
      room = can.1;
    }

-- The merges.

pub edits_merge : EditsMerge
edits_merge (Insert parent index fragment) old new done =
    let put = inserted parent index fragment old new done in
    let m = insertions_merge Node parent index (inserted_tree parent index new) old in
    record { old = m.old; new = m.new ∙ ap (λ t. inserted_at parent index t old) put.tree ∙ sym put.is }
edits_merge (Remove path) old new done = let m = removals_merge Node path old in record { old = m.old; new = m.new ∙ sym done.edited.keys }
edits_merge (Move from parent index) old new done = let m = moves_merge Node from parent index old in record { old = m.old; new = m.new ∙ sym done.edited.keys }
edits_merge (SetAttr path name value) old new done =
    let m = relabellings_merge Node path (with_its_key (set_attr name value)) old in record { old = m.old; new = m.new ∙ sym done.edited.keys }
edits_merge (UnsetAttr path name) old new done =
    let m = relabellings_merge Node path (with_its_key (unset_attr name)) old in record { old = m.old; new = m.new ∙ sym done.edited.keys }
edits_merge (ReplaceSheet text) old new done = record { old = old-all_kept old; new = new-all_kept old ∙ sym done.edited.keys }

-- The stops.

inner-there : (path : List ℕ) (old : Forest (Keyed Node)) (long : Bool) → (long && is_node_at path (without_keys old)) ≡ true → IsThere path old
inner-there path old long h = node-there path old (both-are long (is_node_at path (without_keys old)) h).1

relabelled-stop : (path : List ℕ) (change : Node → Node) (old : Forest (Keyed Node)) → AreLeaves is_element old → HasElement path old
    → stops_of is_element 0 (relabelling path (with_its_key change) old) ≡ edit_stops (UnsetAttr path []) 0 old
relabelled-stop path change old leaves at =
    let names = named path old at.label at.children at.after at.on in
    relabellings_stop Node is_element path (with_its_key change) old (λ node. refl) names (under-named is_element path old leaves names)

moved-stop : (from parent : List ℕ) (index : ℕ) (old new : Forest (Keyed Node)) → IsDone (Move from parent index) old new
    → stops_of is_element 0 (edit_merge (Move from parent index) old new) ≡ edit_stops (Move from parent index) 0 old
moved-stop [] parent index old new done = absurd (cc ((allowed-move [] parent index (without_keys old) done.allowed).0))
moved-stop (step ∷ above) parent index old new done =
    let from : List ℕ = step ∷ above in
    let can = allowed-move from parent index (without_keys old) done.allowed in
    let leaves = leaves-sound old done.before.is_tree.sound in
    let its = inner-there from old _ can.0 in
    let parent_at = element-there parent old can.1 in
    let key : key_at old from ≡ Some its.label.key = ap first_key its.on in
    let names = named from old its.label its.children its.after its.on in
    moves_stop Node is_element step above parent index its.label.key old can.2 key
    (named parent old parent_at.label parent_at.children parent_at.after parent_at.on)
    (room-once_out from parent index old (omega arith) can.2 parent_at can.3)
    (subst HasDistinctKeys done.edited.keys done.after.distinct)
    (under-named is_element from old leaves names)
    (under-element is_element parent (old_index from parent index) old parent_at.label parent_at.children parent_at.after leaves parent_at.on parent_at.element)
    ∙ ap (λ (o : Option ℕ). moving_stops is_element from parent index (unwrap_or o 0) old) (sym key)

pub edits_stop : EditsStop
edits_stop (Insert parent index fragment) old new done =
    let put = inserted parent index fragment old new done in
    let leaves = leaves-sound old done.before.is_tree.sound in
    let key : key_at new (parent ++ index ∷ []) ≡ Some put.root.key = sym (first-alone (on_path (parent ++ index ∷ []) new)) ∙ ap first_key put.tree in
    ap (λ t. stops_of is_element 0 (insertion parent index t old)) put.tree
    ∙ insertions_stop Node is_element parent index put.root put.children old
    (named parent old put.above.label put.above.children put.above.after put.above.on, room-there parent index old put.room)
    (under-element is_element parent index old put.above.label put.above.children put.above.after leaves put.above.on put.above.element)
    ∙ ap (λ (o : Option ℕ). insertion_stops is_element (parent ++ index ∷ []) (unwrap_or o 0) old) (sym key)
edits_stop (Remove path) old new done =
    let leaves = leaves-sound old done.before.is_tree.sound in
    let its = inner-there path old _ (there-is _ done.allowed) in
    let names = named path old its.label its.children its.after its.on in
    removals_stop Node is_element path old names (under-named is_element path old leaves names)
edits_stop (Move from parent index) old new done = moved-stop from parent index old new done
edits_stop (SetAttr path name value) old new done =
    relabelled-stop path (set_attr name value) old (leaves-sound old done.before.is_tree.sound) (element-there path old (there-is _ done.allowed))
edits_stop (UnsetAttr path name) old new done =
    relabelled-stop path (unset_attr name) old (leaves-sound old done.before.is_tree.sound) (element-there path old (there-is _ done.allowed))
edits_stop (ReplaceSheet text) old new done = no-stops is_element 0 (all_kept old) (has_place-all_kept old)

-- the stops that are made before the edit, with the key of the inserted root put in behind it, are those of the merge
pub stops-named : (edit : Edit) (old new : Forest (Keyed Node)) → IsDone edit old new → (stops : List Stop) → stops ≡ edit_stops edit (inserted_key edit new) old → stops ≡ stops_of is_element 0 (edit_merge edit old new)
stops-named edit old new done stops is = is ∙ sym (edits_stop edit old new done)

-- The levels.

turns-edit : (edit : Edit) (old new : Forest (Keyed Node)) → TurnsElements is_element (edit_merge edit old new)
turns-edit (Insert parent index fragment) old new = turns-insertion is_element parent index (inserted_tree parent index new) old
turns-edit (Remove path) old new = turns-removal is_element path old
turns-edit (Move from parent index) old new = turns-moving is_element from parent index old
turns-edit (SetAttr path name value) old new = turns-relabelling is_element path (with_its_key (set_attr name value)) old
turns-edit (UnsetAttr path name) old new = turns-relabelling is_element path (with_its_key (unset_attr name)) old
turns-edit (ReplaceSheet text) old new = turns-kept is_element old

pub edits_have_leaves : EditsHaveLeaves
edits_have_leaves edit old new done =
    let m = edits_merge edit old new done in
    leaves-merged is_element (edit_merge edit old new) (turns-edit edit old new)
    (subst (AreLeaves is_element) (sym m.old) (leaves-sound old done.before.is_tree.sound))
    (subst (AreLeaves is_element) (sym m.new) (leaves-sound new done.after.is_tree.sound))

-- there is a stop
abbrev HasStop : List Stop → Type 0
HasStop [] = ⊥
HasStop (stop ∷ stops) = Unit {0}

stop-behind : (front stops : List Stop) → HasStop stops → HasStop (front ++ stops)
stop-behind [] stops h = h
stop-behind (stop ∷ front) stops h = tt

stop-joined : (is_first : Bool) (stops others : List Stop) → HasStop stops → HasStop (joined is_first stops others)
stop-joined is_first [] others h = absurd h
stop-joined is_first (stop ∷ stops) [] h = tt
stop-joined is_first (stop ∷ stops) (other ∷ others) h =
    elim (is_common stop other) as (λ b. HasStop (cond b (stop ∷ joined is_first stops others) (cond is_first ((stop ∷ stops) ++ (other ∷ others)) ((other ∷ others) ++ (stop ∷ stops))))) [
      | true ↦ tt
      | false ↦ elim is_first as (λ b. HasStop (cond b ((stop ∷ stops) ++ (other ∷ others)) ((other ∷ others) ++ (stop ∷ stops)))) [ true ↦ tt | false ↦ tt ]
    ]

stop-removal : (path : List ℕ) (old : Forest (Keyed Node)) → IsThere path old → HasStop (removal_stops is_element path old)
stop-removal path old its =
    stop-behind (stops_into 0 (on_way path old)) (gone_stop is_element (length (on_way path old)) (on_path path old))
    (subst (λ t. HasStop (gone_stop is_element (length (on_way path old)) t)) (sym its.on) tt)

stop-relabelling : (path : List ℕ) (old : Forest (Keyed Node)) → HasElement path old → HasStop (edit_stops (UnsetAttr path []) 0 old)
stop-relabelling path old its =
    stop-behind (stops_into 0 (on_way path old)) (changed_stops is_element (length (on_way path old)) (on_path path old))
    (subst (λ t. HasStop (changed_stops is_element (length (on_way path old)) t)) (sym its.on) tt)

stop-edit : (edit : Edit) (key : ℕ) (old new : Forest (Keyed Node)) → IsDone edit old new → ChangesDocument edit → HasStop (edit_stops edit key old)
stop-edit (Insert parent index fragment) key old new done changes = stop-behind (stops_into 0 (on_way (parent ++ index ∷ []) old)) _ tt
stop-edit (Remove path) key old new done changes = stop-removal path old (inner-there path old _ (there-is _ done.allowed))
stop-edit (Move from parent index) key old new done changes =
    let can = allowed-move from parent index (without_keys old) done.allowed in
    stop-joined _ (removal_stops is_element from old) _ (stop-removal from old (inner-there from old _ can.0))
stop-edit (SetAttr path name value) key old new done changes = stop-relabelling path old (element-there path old (there-is _ done.allowed))
stop-edit (UnsetAttr path name) key old new done changes = stop-relabelling path old (element-there path old (there-is _ done.allowed))
stop-edit (ReplaceSheet text) key old new done changes = absurd changes

place-stop : (m : Merge Node) → HasStop (stops_of is_element 0 m) → has_place m ≡ true
place-stop m h = by-test (has_place m) refl
  where
    by-test : (b : Bool) → has_place m ≡ b → has_place m ≡ true
    by-test true is = is
    by-test false is = absurd (subst HasStop (no-stops is_element 0 m is) h)

pub edits_lead : EditsLead
edits_lead edit old new done changes =
    let m = edits_merge edit old new done in
    let some = place-stop (edit_merge edit old new) (subst HasStop (sym (edits_stop edit old new done)) (stop-edit edit (inserted_key edit new) old new done changes)) in
    led-one (edit_merge edit old new) (subst IsOneTree (sym m.old) (one-tree old done.before)) (subst IsOneTree (sym m.new) (one-tree new done.after)) some
