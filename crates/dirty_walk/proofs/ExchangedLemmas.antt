-- What a document says before and after an edit.
use Rattle.std.proofs.Common.{◌≡◌, ◌==◌, ◌≤◌, ◌∙◌, ◌⊎◌, ℕ, true, false, ◌&&◌, Bool, cond, List, [], ◌∷◌, ◌++◌, length, Option, Some, None, is_some, refl, sym, ap, subst, inl, inr, arith}
use Rattle.std.specs.Option.{option_or}
use Rattle.std.proofs.lemmas.Bool.{leb-true}
use Rattle.std.proofs.lemmas.Option.{none-some}
use Rattle.forest.specs.Forest.{Forest, Empty, Tree, labels}
use Rattle.forest.specs.Keys.{Keyed, HasDistinctKeys, without_keys}
use Rattle.forest.specs.Paths.{on_path}
use Rattle.forest.specs.Spots.{label_of, root_keys, roots}
use Rattle.forest.proofs.PathLaws.{on_path-append}
use Rattle.plain_types.specs.Tree.{IsOne}
use Rattle.plain_types.specs.declared.edit.Edit.{Edit}
use Rattle.plain_types.specs.declared.edit.Edit.TheVariants.{Insert, Move, Remove, ReplaceSheet, SetAttr, UnsetAttr}
use Rattle.plain_types.specs.declared.node.Node.{Node}
use Rattle.node_arena.specs.declared.place_fault.PlaceFault.TheVariants.{NoPlace}
use Rattle.node_arena.specs.AtPaths.{child_count_at, first_children, first_label, inserted_at, moved, once_out, relabelled_at, removed_at, with_children, with_tree}
use Rattle.node_arena.specs.Changes.{alone}
use Rattle.node_arena.specs.Copies.{is_element}
use Rattle.node_arena.specs.Edits.{has_room_at, is_element_at, no_place_unless, set_attr, unset_attr, with_its_key}
use Rattle.node_arena.proofs.AtPathLaws.{on-changed, stays}
use Rattle.node_arena.proofs.CutLaws.{spliced-there}
use Rattle.node_arena.proofs.KeyAtLaws.{count-map, on-map}
use Rattle.node_arena.proofs.MoveLaws.{inner-long}
use Rattle.node_arena.proofs.PrepareLaws.{allowed-move}
use Rattle.node_arena.proofs.TakeLaws.{length-roots}
use Rattle.edit_merge.specs.Laws.{IsDone}
use Rattle.dirty_walk.specs.Exchanges.{coming, first_node, leaving}
use Rattle.kept_elements.proofs.SaidLemmas.{label-said, often, said, times-often}
use Rattle.dirty_walk.proofs.PutLemmas.{put-apart, put-said, put-sum}
use Rattle.dirty_walk.proofs.SplitLemmas.{IsPut, around-label, inserted-put, label-in, label-out, others, put-first, removed-put}

-- of each key two documents say the same, but for the nodes that go from the first and come into the second
pub record AreExchanged (old new gone come : Forest (Keyed Node)) : Type 0 where
  pub stays_as : ℕ → Option Node
  pub was : (key : ℕ) → label_of old key ≡ option_or (label_of gone key) (stays_as key)
  pub is : (key : ℕ) → label_of new key ≡ option_or (label_of come key) (stays_as key)
  pub gone_apart : (key : ℕ) → (label_of gone key ≡ None) ⊎ (stays_as key ≡ None)
  pub come_apart : (key : ℕ) → (label_of come key ≡ None) ⊎ (stays_as key ≡ None)
  pub gone_once : HasDistinctKeys gone
  pub come_once : HasDistinctKeys come

-- and the other way round
pub exchanged-back : (old new gone come : Forest (Keyed Node)) → AreExchanged old new gone come → AreExchanged new old come gone
exchanged-back old new gone come h = record {
  stays_as = h.stays_as;
  was = h.is;
  is = h.was;
  gone_apart = h.come_apart;
  come_apart = h.gone_apart;
  gone_once = h.come_once;
  come_once = h.gone_once;
}

once : (f : Forest (Keyed Node)) → HasDistinctKeys f → (key : ℕ) → often key (labels f) ≤ 1
once f d key = omega (arith, d key, times-often key f)

-- One side: trees are put into what stays.
module _ (f put : Forest (Keyed Node)) (rest : List (Keyed Node)) (d : HasDistinctKeys f) (h : IsPut (labels put) rest (labels f)) where
  put-label : (key : ℕ) → label_of f key ≡ option_or (label_of put key) (said rest key)
  put-label key =
      label-said f key ∙ put-said (labels put) rest (labels f) h (once f d) key ∙ ap (λ o. option_or o (said rest key)) (sym (label-said put key))

  put-silent : (key : ℕ) → (label_of put key ≡ None) ⊎ (said rest key ≡ None)
  put-silent key = elim (put-apart (labels put) rest (labels f) h (once f d) key) [
    | inl e ↦ inl (label-said put key ∙ e)
    | inr e ↦ inr e
  ]

  put-once : HasDistinctKeys put
  put-once key =
      omega (arith, d key, times-often key f, times-often key put, put-sum (labels put) rest (labels f) h (λ (n : Keyed Node). cond (n.key == key) 1 0))

module _ (old new gone come : Forest (Keyed Node)) (before : HasDistinctKeys old) (after : HasDistinctKeys new) where
  by-put : (rest : List (Keyed Node)) → IsPut (labels gone) rest (labels old) → IsPut (labels come) rest (labels new) → AreExchanged old new gone come
  by-put rest out into = record {
    stays_as = said rest;
    was = put-label old gone rest before out;
    is = put-label new come rest after into;
    gone_apart = put-silent old gone rest before out;
    come_apart = put-silent new come rest after into;
    gone_once = put-once old gone rest before out;
    come_once = put-once new come rest after into;
  }

-- all stays
by-same : (old new : Forest (Keyed Node)) → ((key : ℕ) → label_of new key ≡ label_of old key) → AreExchanged old new Empty Empty
by-same old new same = record {
  stays_as = λ key. label_of old key;
  was = λ key. refl;
  is = same;
  gone_apart = λ key. inl refl;
  come_apart = λ key. inl refl;
  gone_once = λ key. omega arith;
  come_once = λ key. omega arith;
}

element-there : (f : Forest (Keyed Node)) (path : List ℕ) → is_element_at path (without_keys f) ≡ true → is_some (first_label (on_path path f)) ≡ true
element-there f path e =
    there (on_path path f) (subst (λ (g : Forest Node). (elim (first_label g) [ None ↦ false | Some node ↦ is_element node ]) ≡ true) (on-map (λ (n : Keyed Node). n.label) path f) e)
  where
    there : (t : Forest (Keyed Node)) → (elim (first_label (without_keys t)) [ None ↦ false | Some node ↦ is_element node ]) ≡ true → is_some (first_label t) ≡ true
    there Empty e = absurd (cc e)
    there (Tree n c r) e = refl

-- what makes an insertion possible
allowed-insert : (parent : List ℕ) (index : ℕ) (g : Forest Node) → no_place_unless (is_element_at parent g && has_room_at parent index g) ≡ None → (is_element_at parent g ≡ true) × (has_room_at parent index g ≡ true)
allowed-insert parent index g none = both (is_element_at parent g) (has_room_at parent index g) none
  where
    both : (a b : Bool) → no_place_unless (a && b) ≡ None → (a ≡ true) × (b ≡ true)
    both true true e = (refl, refl)
    both true false e = absurd (none-some NoPlace (sym e))
    both false b e = absurd (none-some NoPlace (sym e))

-- the inserted tree stands where it was put
stands : (index : ℕ) (tree here : Forest (Keyed Node)) → IsOne (without_keys tree) → is_some (first_label here) ≡ true → index ≤ length (root_keys (first_children here))
    → alone (on_path (index ∷ []) (with_children (with_tree index tree) here)) ≡ alone tree
stands index tree Empty one some low = absurd (cc some)
stands index Empty (Tree n c r) one some low = absurd one
stands index (Tree m t s) (Tree n c r) one some low = ap alone (spliced-there index m t c low)

room-there : (f : Forest (Keyed Node)) (parent : List ℕ) (index : ℕ) → has_room_at parent index (without_keys f) ≡ true → index ≤ length (root_keys (first_children (on_path parent f)))
room-there f parent index e =
    let label : Keyed Node → Node = λ n. n.label in
    let low : index ≤ child_count_at parent (without_keys f) = leb-true index (child_count_at parent (without_keys f)) e in
    let here : child_count_at parent (without_keys f) ≡ length (roots (first_children (without_keys (on_path parent f)))) =
    ap (λ (g : Forest Node). length (roots (first_children g))) (on-map label parent f) in
    omega (arith, low, here, same (on_path parent f), length-roots (first_children (on_path parent f)))
  where
    same : (t : Forest (Keyed Node)) → length (roots (first_children (without_keys t))) ≡ length (roots (first_children t))
    same Empty = refl
    same (Tree n c r) = count-map (λ (m : Keyed Node). m.label) c

inserted-there : (parent : List ℕ) (index : ℕ) (tree old : Forest (Keyed Node)) → IsOne (without_keys tree) → is_some (first_label (on_path parent old)) ≡ true → index ≤ length (root_keys (first_children (on_path parent old)))
    → alone (on_path (parent ++ index ∷ []) (inserted_at parent index tree old)) ≡ alone tree
inserted-there parent index tree old one some low =
    ap alone (on_path-append parent (index ∷ []) (inserted_at parent index tree old) ∙ ap (on_path (index ∷ [])) (on-changed (with_children (with_tree index tree)) parent old refl))
    ∙ stands index tree (on_path parent old) one some low

label-changed : (change : Keyed Node → Keyed Node) (path : List ℕ) (old new : Forest (Keyed Node)) → HasDistinctKeys old → HasDistinctKeys new → new ≡ relabelled_at path change old
    → AreExchanged old new (first_node (on_path path old)) (first_node (on_path path new))
label-changed change path old new before after is =
    let now : Forest (Keyed Node) = relabelled_at path change old in
    subst (λ g. AreExchanged old g (first_node (on_path path old)) (first_node (on_path path g))) (sym is)
    (by-put old now (first_node (on_path path old)) (first_node (on_path path now)) before (subst HasDistinctKeys is after)
    (others change path old (around-label change path old)) (label-out change path old) (label-in change path old))

pub exchanged : (edit : Edit) (old new : Forest (Keyed Node)) → IsDone edit old new → AreExchanged old new (leaving edit old) (coming edit new)
exchanged (Insert parent index fragment) old new done =
    let h = done.edited.keys in
    let tree : Forest (Keyed Node) = h.0 in
    let now : Forest (Keyed Node) = inserted_at parent index tree old in
    let can = allowed-insert parent index (without_keys old) done.allowed in
    let some = element-there old parent can.0 in
    let come : alone (on_path (parent ++ index ∷ []) now) ≡ alone tree =
    inserted-there parent index tree old (subst IsOne (sym h.1) done.fragment) some (room-there old parent index can.1) in
    subst (λ g. AreExchanged old g Empty (alone (on_path (parent ++ index ∷ []) g))) (sym h.3)
    (by-put old now Empty (alone (on_path (parent ++ index ∷ []) now)) done.before.distinct (subst HasDistinctKeys h.3 done.after.distinct)
    (labels old) (put-first [] (labels old)) (subst (λ t. IsPut (labels t) (labels old) (labels now)) (sym come) (inserted-put parent index tree old some)))
exchanged (Remove path) old new done =
    let is : new ≡ removed_at path old = done.edited.keys in
    by-put old new (alone (on_path path old)) Empty done.before.distinct done.after.distinct
    (labels new) (subst (λ g. IsPut (labels (alone (on_path path old))) (labels g) (labels old)) (sym is) (removed-put path old)) (put-first [] (labels new))
exchanged (Move from parent index) old new done =
    let is : new ≡ moved from parent index old = done.edited.keys in
    let tree : Forest (Keyed Node) = on_path from old in
    let mid : Forest (Keyed Node) = removed_at from old in
    let can = allowed-move from parent index (without_keys old) done.allowed in
    let same = (stays from parent old (inner-long from (without_keys old) can.0) can.2).0 in
    let some : is_some (first_label (on_path (once_out from parent) mid)) ≡ true = ap (λ o. is_some o) same ∙ element-there old parent can.1 in
    let into : IsPut (labels (alone tree)) (labels mid) (labels new) =
    subst (λ g. IsPut (labels (alone tree)) (labels mid) (labels g)) (sym is) (inserted-put (once_out from parent) index tree mid some) in
    by-same old new (λ key.
    put-label new (alone tree) (labels mid) done.after.distinct into key
    ∙ sym (put-label old (alone tree) (labels mid) done.before.distinct (removed-put from old) key))
exchanged (SetAttr path name value) old new done = label-changed (with_its_key (set_attr name value)) path old new done.before.distinct done.after.distinct done.edited.keys
exchanged (UnsetAttr path name) old new done = label-changed (with_its_key (unset_attr name)) path old new done.before.distinct done.after.distinct done.edited.keys
exchanged (ReplaceSheet text) old new done = by-same old new (λ key. ap (λ g. label_of g key) done.edited.keys)
