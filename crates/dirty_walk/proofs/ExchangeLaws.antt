-- What an edit makes of the index and of the elements of a document.
use Rattle.std.proofs.Common.{◌≡◌, ◌≤◌, ◌+◌, ◌∙◌, ◌⊎◌, ℕ, nat_eq, false, not, ◌&&◌, List, length, is_some, refl, sym, ap, inl, inr, arith}
use Rattle.std.specs.List.{list_any}
use Rattle.std.proofs.lemmas.List.{length-map}
use Rattle.forest.specs.Forest.{Forest, Empty, labels}
use Rattle.forest.specs.Keys.{Keyed, without_keys}
use Rattle.forest.specs.Paths.{on_path}
use Rattle.forest.specs.Spots.{label_of}
use Rattle.plain_types.specs.declared.edit.Edit.{Edit}
use Rattle.plain_types.specs.declared.edit.Edit.TheVariants.{Insert, Move, Remove, ReplaceSheet, SetAttr, UnsetAttr}
use Rattle.plain_types.specs.declared.node.Node.{Node}
use Rattle.node_arena.specs.AtPaths.{relabelled_at, removed_at, with_label}
use Rattle.node_arena.specs.Changes.{alone}
use Rattle.node_arena.specs.Edits.{set_attr, unset_attr, with_its_key}
use Rattle.node_arena.specs.Nodes.{name_of, node_name}
use Rattle.node_arena.proofs.AtPathLaws.{on-changed}
use Rattle.target_index.specs.declared.index.Index.{Index}
use Rattle.target_index.specs.Changes.{holds_after_all}
use Rattle.target_index.specs.Holders.{is_holder}
use Rattle.document_walk.specs.Elements.{element_count, one_where}
use Rattle.document_walk.proofs.ElementLemmas.{weigh-without_keys}
use Rattle.dirty_walk.specs.declared.exchange.ElementId.{ElementId}
use Rattle.edit_merge.specs.Laws.{IsDone}
use Rattle.dirty_walk.specs.Exchanges.{coming, elements_in, exchanges, first_node, leaving, taken_keys}
use Rattle.referring_elements.specs.Indexes.{IsIndexOf}
use Rattle.dirty_walk.proofs.ExchangedLemmas.{AreExchanged, exchanged, exchanged-back}
use Rattle.dirty_walk.proofs.IndexLemmas.{id_exchanged}
use Rattle.kept_elements.proofs.SaidLemmas.{weigh-labels}
use Rattle.dirty_walk.proofs.PutLemmas.{put-sum}
use Rattle.dirty_walk.proofs.SplitLemmas.{removed-put}
use Rattle.dirty_walk.proofs.TakenLemmas.{count-elements, is_named, keys_there, lost_of, none_lost_of, one_element, same_name, set_name, unset_name}

-- The index.

-- an index that is changed so has holders so
abbrev pub HasAfter : Index → Index → List ElementId → List ElementId → Type 0
HasAfter before after gone come = (id : List ℕ) (key : ℕ) → is_holder after id key ≡ holds_after_all (exchanges gone come) id key (is_holder before id key)

exchanged-index : (old new gone come : Forest (Keyed Node)) → AreExchanged old new gone come → (before after : Index) → IsIndexOf before old → HasAfter before after (elements_in gone) (elements_in come) → IsIndexOf after new
exchanged-index old new gone come h before after indexed changed id key =
    changed id key
    ∙ ap (holds_after_all (exchanges (elements_in gone) (elements_in come)) id key) (indexed id key)
    ∙ id_exchanged id key old new gone come h

module _ (edit : Edit) (old new : Forest (Keyed Node)) (done : IsDone edit old new) (before after : Index) where
  -- the index of the document before an edit becomes that of the document after it
  pub index_after : IsIndexOf before old → HasAfter before after (elements_in (leaving edit old)) (elements_in (coming edit new)) → IsIndexOf after new
  index_after = exchanged-index old new (leaving edit old) (coming edit new) (exchanged edit old new done) before after

  -- and the other way round
  pub index_back : IsIndexOf before new → HasAfter before after (elements_in (coming edit new)) (elements_in (leaving edit old)) → IsIndexOf after old
  index_back = exchanged-index new old (coming edit new) (leaving edit old) (exchanged-back old new (leaving edit old) (coming edit new) (exchanged edit old new done)) before after

-- The elements that are taken.

-- an edit of attributes takes no element out
attr_takes : (change : Node → Node) → ((node : Node) → node_name (change node) ≡ node_name node) → (path : List ℕ) (old new : Forest (Keyed Node)) → new ≡ relabelled_at path (with_its_key change) old
    → AreExchanged old new (first_node (on_path path old)) (first_node (on_path path new)) → (key : ℕ) → false ≡ (is_some (name_of old key) && not (is_some (name_of new key)))
attr_takes change same path old new is h key =
    let now : on_path path new ≡ with_label (with_its_key change) (on_path path old) = ap (on_path path) is ∙ on-changed (with_label (with_its_key change)) path old refl in
    none_lost_of old new (first_node (on_path path old)) (first_node (on_path path new)) h key
    (inl (ap (λ (t : Forest (Keyed Node)). is_named (label_of (first_node t) key)) now ∙ same_name key change same (on_path path old)))

-- exactly the elements that the document has no longer are taken
pub takes_are : (edit : Edit) (old new : Forest (Keyed Node)) → IsDone edit old new → (key : ℕ) → list_any (nat_eq key) (taken_keys edit (elements_in (leaving edit old))) ≡ (is_some (name_of old key) && not (is_some (name_of new key)))
takes_are (Insert parent index fragment) old new done key = none_lost_of old new Empty (coming (Insert parent index fragment) new) (exchanged (Insert parent index fragment) old new done) key (inr refl)
takes_are (Remove path) old new done key =
    let h = exchanged (Remove path) old new done in
    keys_there key (alone (on_path path old)) h.gone_once
    ∙ lost_of old new (alone (on_path path old)) Empty h key
    ∙ ap (λ o. is_some (name_of old key) && not (is_named o)) (sym (h.is key))
takes_are (Move from parent index) old new done key = none_lost_of old new Empty Empty (exchanged (Move from parent index) old new done) key (inr refl)
takes_are (SetAttr path name value) old new done key =
    attr_takes (set_attr name value) (set_name name value) path old new done.edited.keys (exchanged (SetAttr path name value) old new done) key
takes_are (UnsetAttr path name) old new done key =
    attr_takes (unset_attr name) (unset_name name) path old new done.edited.keys (exchanged (UnsetAttr path name) old new done) key
takes_are (ReplaceSheet text) old new done key = none_lost_of old new Empty Empty (exchanged (ReplaceSheet text) old new done) key (inr refl)

-- they are no more than the document has
pub taken_count : (edit : Edit) (old : Forest (Keyed Node)) → length (taken_keys edit (elements_in (leaving edit old))) ≤ element_count (without_keys old)
taken_count (Insert parent index fragment) old = omega arith
taken_count (Remove path) old =
    let gone : Forest (Keyed Node) = alone (on_path path old) in
    omega (
      arith,
      length-map (elements_in gone) (λ (element : ElementId). element.key),
      count-elements (labels gone),
      put-sum (labels gone) (labels (removed_at path old)) (labels old) (removed-put path old) one_element,
      weigh-labels one_element old,
      weigh-without_keys (λ (node : Node). one_where (is_some (node_name node))) old,
    )
taken_count (Move from parent index) old = omega arith
taken_count (SetAttr path name value) old = omega arith
taken_count (UnsetAttr path name) old = omega arith
taken_count (ReplaceSheet text) old = omega arith

-- An edit takes out no element, or as many as the document has less than before.
taken_or_fewer : (edit : Edit) (old new : Forest (Keyed Node)) → IsDone edit old new
    → (length (taken_keys edit (elements_in (leaving edit old))) ≡ 0)
    ⊎ ((element_count (without_keys new) + length (taken_keys edit (elements_in (leaving edit old)))) ≡ element_count (without_keys old))
taken_or_fewer (Insert parent index fragment) old new done = inl refl
taken_or_fewer (Remove path) old new done =
    let gone : Forest (Keyed Node) = alone (on_path path old) in
    let rest : Forest (Keyed Node) = removed_at path old in
    inr (omega (
      arith,
      length-map (elements_in gone) (λ (element : ElementId). element.key),
      count-elements (labels gone),
      put-sum (labels gone) (labels rest) (labels old) (removed-put path old) one_element,
      weigh-labels one_element old,
      weigh-without_keys (λ (node : Node). one_where (is_some (node_name node))) old,
      weigh-labels one_element rest,
      weigh-without_keys (λ (node : Node). one_where (is_some (node_name node))) rest,
      ap (λ (trees : Forest (Keyed Node)). element_count (without_keys trees)) done.edited.keys,
    ))
taken_or_fewer (Move from parent index) old new done = inl refl
taken_or_fewer (SetAttr path name value) old new done = inl refl
taken_or_fewer (UnsetAttr path name) old new done = inl refl
taken_or_fewer (ReplaceSheet text) old new done = inl refl

-- So those that it takes out are few too, beside others that are no more than the elements before it and than those after it.
pub taken_beside : (edit : Edit) (old new : Forest (Keyed Node)) → IsDone edit old new → (passed : ℕ) → passed ≤ element_count (without_keys new) → passed ≤ element_count (without_keys old)
    → (passed + length (taken_keys edit (elements_in (leaving edit old)))) ≤ element_count (without_keys old)
taken_beside edit old new done passed fewer few = elim (taken_or_fewer edit old new done) [
  | inl none ↦ omega arith
  | inr gone ↦ omega arith
]
