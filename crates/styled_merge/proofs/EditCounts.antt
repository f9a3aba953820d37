-- The node that an edit takes out, moves or changes goes, and no node is turned. Throughout, n is a node, c what is under
-- it, r what is after it, g trees, q a key, and m a merge; z is a node that comes with zs under it.
use Rattle.std.proofs.Common.{◌≡◌, ◌<◌, ◌+◌, ℕ, zero, suc, List, [], ◌∷◌, Some, None, refl, sym, ap, subst, ◌∙◌, arith, eq-eqb}
use Rattle.std.proofs.lemmas.Option.{none-some, same_Some}
use Rattle.forest.specs.Forest.{Forest, Empty, Tree}
use Rattle.forest.specs.Keys.{Keyed, times}
use Rattle.forest.specs.Paths.{on_path, trees_from}
use Rattle.forest.specs.Spots.{first_key}
use Rattle.plain_types.specs.declared.edit.Edit.{Edit}
use Rattle.plain_types.specs.declared.edit.Edit.TheVariants.{Insert, Remove, Move, SetAttr, UnsetAttr, ReplaceSheet}
use Rattle.plain_types.specs.declared.node.Node.{Node}
use Rattle.node_arena.specs.AtPaths.{once_out}
use Rattle.node_arena.specs.Edits.{set_attr, unset_attr, with_its_key}
use Rattle.merged_walk.specs.Merges.{Merge, End, Kept, Turned, Gone, Come, all_kept}
use Rattle.merged_walk.specs.Edits.{come_among, first_changed, first_gone, from_new, merged_at, merged_from, put_at, put_fragment, removal}
use Rattle.merged_walk.proofs.JoinWords.{without_come}
use Rattle.edit_merge.specs.EditMerges.{edit_merge, inserted_tree}
use Rattle.style_reach.specs.Laws.{edited_node}
use Rattle.styled_merge.specs.Stays.{IsUnturned}
use Rattle.styled_merge.proofs.KeptCounts.{gone_times}

-- Merges at a path.

nothing-on : (path : List ℕ) → let none : Forest (Keyed Node) = Empty in first_key (on_path path none) ≡ None
nothing-on [] = refl
nothing-on (position ∷ path) = refl

module _ (q : ℕ) where
  -- where the first tree has the key, a tree with the key goes
  abbrev Takes : (Forest (Keyed Node) → Merge Node) → List ℕ → Type 0
  Takes change path = (g : Forest (Keyed Node)) → first_key (on_path path g) ≡ Some q → 0 < gone_times q (change g)

  gone-from : (change : Forest (Keyed Node) → Merge Node) (path : List ℕ) → Takes change path → (position : ℕ) (g : Forest (Keyed Node))
      → first_key (on_path path (trees_from position g)) ≡ Some q → 0 < gone_times q (merged_from change position g)
  gone-from change path takes zero g at = takes g at
  gone-from change path takes (suc position) Empty at = absurd (none-some q (sym (nothing-on path) ∙ at))
  gone-from change path takes (suc position) (Tree n c r) at = omega (arith, gone-from change path takes position r at)

  gone-at : (change : Forest (Keyed Node) → Merge Node) → Takes change [] → (path : List ℕ) → Takes (merged_at change path) path
  gone-at change takes [] g at = takes g at
  gone-at change takes (position ∷ path) Empty at = absurd (none-some q at)
  gone-at change takes (position ∷ path) (Tree n c r) at = omega (arith, gone-from (merged_at change path) path (gone-at change takes path) position c at)

  is-first : (n : Keyed Node) (c r : Forest (Keyed Node)) → first_key (Tree n c r) ≡ Some q → 0 < times q (Tree n c Empty)
  is-first n c r at = rw (eq-eqb n.key q (same_Some n.key q at)) (omega arith)

  takes-gone : Takes first_gone []
  takes-gone Empty at = absurd (none-some q at)
  takes-gone (Tree n c r) at = omega (arith, is-first n c r at)

  takes-changed : (change : Keyed Node → Keyed Node) → Takes (first_changed change) []
  takes-changed change Empty at = absurd (none-some q at)
  takes-changed change (Tree n c r) at = omega (arith, is-first n c r at)

-- A tree that comes changes nothing else.

module _ (z : Keyed Node) (zs : Forest (Keyed Node)) where
  without-come_among : (index : ℕ) (m : Merge Node) → without_come (come_among index z zs m) ≡ without_come m
  without-come_among zero m = refl
  without-come_among (suc index) End = refl
  without-come_among (suc index) (Kept n c r) = ap (Kept n (without_come c)) (without-come_among index r)
  without-come_among (suc index) (Turned was n c r) = ap (Turned was n (without_come c)) (without-come_among index r)
  without-come_among (suc index) (Gone n c r) = ap (Gone n c) (without-come_among (suc index) r)
  without-come_among (suc index) (Come n c r) = without-come_among index r

  without-from_new : (change : Merge Node → Merge Node) → ((m : Merge Node) → without_come (change m) ≡ without_come m) → (position : ℕ) (m : Merge Node)
      → without_come (from_new change position m) ≡ without_come m
  without-from_new change same zero End = same End
  without-from_new change same zero (Kept n c r) = same (Kept n c r)
  without-from_new change same zero (Turned was n c r) = same (Turned was n c r)
  without-from_new change same zero (Gone n c r) = ap (Gone n c) (without-from_new change same zero r)
  without-from_new change same zero (Come n c r) = same (Come n c r)
  without-from_new change same (suc position) End = refl
  without-from_new change same (suc position) (Kept n c r) = ap (Kept n (without_come c)) (without-from_new change same position r)
  without-from_new change same (suc position) (Turned was n c r) = ap (Turned was n (without_come c)) (without-from_new change same position r)
  without-from_new change same (suc position) (Gone n c r) = ap (Gone n c) (without-from_new change same (suc position) r)
  without-from_new change same (suc position) (Come n c r) = without-from_new change same position r

  without-put_at : (path : List ℕ) (index : ℕ) (m : Merge Node) → without_come (put_at path index z zs m) ≡ without_come m
  without-put_at [] index End = refl
  without-put_at [] index (Kept n c r) = ap (λ c. Kept n c (without_come r)) (without-come_among index c)
  without-put_at [] index (Turned was n c r) = ap (λ c. Turned was n c (without_come r)) (without-come_among index c)
  without-put_at [] index (Gone n c r) = ap (Gone n c) (without-put_at [] index r)
  without-put_at [] index (Come n c r) = refl
  without-put_at (position ∷ path) index End = refl
  without-put_at (position ∷ path) index (Kept n c r) =
      ap (λ c. Kept n c (without_come r)) (without-from_new (put_at path index z zs) (without-put_at path index) position c)
  without-put_at (position ∷ path) index (Turned was n c r) =
      ap (λ c. Turned was n c (without_come r)) (without-from_new (put_at path index z zs) (without-put_at path index) position c)
  without-put_at (position ∷ path) index (Gone n c r) = ap (Gone n c) (without-put_at (position ∷ path) index r)
  without-put_at (position ∷ path) index (Come n c r) = refl

without-fragment : (path : List ℕ) (index : ℕ) (g : Forest (Keyed Node)) (m : Merge Node) → without_come (put_fragment path index g m) ≡ without_come m
without-fragment path index Empty m = refl
without-fragment path index (Tree z zs r) m = without-put_at z zs path index m

gone-without : (q : ℕ) (m : Merge Node) → gone_times q (without_come m) ≡ gone_times q m
gone-without q End = refl
gone-without q (Kept n c r) = let below = gone-without q c in let beside = gone-without q r in λ x. below x + beside x
gone-without q (Turned was n c r) = let below = gone-without q c in let beside = gone-without q r in λ x. below x + beside x
gone-without q (Gone n c r) = ap (λ k. times q (Tree n c Empty) + k) (gone-without q r)
gone-without q (Come n c r) = omega (arith, gone-without q r)

gone-fragment : (q : ℕ) (path : List ℕ) (index : ℕ) (g : Forest (Keyed Node)) (m : Merge Node) → gone_times q (put_fragment path index g m) ≡ gone_times q m
gone-fragment q path index g m = sym (gone-without q (put_fragment path index g m)) ∙ ap (gone_times q) (without-fragment path index g m) ∙ gone-without q m

pub edited-gone : (edit : Edit) (old new : Forest (Keyed Node)) (top : ℕ) → edited_node edit old ≡ Some top → 0 < gone_times top (edit_merge edit old new)
edited-gone (Insert parent index fragment) old new top at = absurd (none-some top at)
edited-gone (Remove path) old new top at = gone-at top first_gone (takes-gone top) path old at
edited-gone (Move from parent index) old new top at =
    let goes = gone-at top first_gone (takes-gone top) from old at in
    omega (arith, gone-fragment top (once_out from parent) index (on_path from old) (removal from old))
edited-gone (SetAttr path name value) old new top at =
    let change = with_its_key (set_attr name value) in gone-at top (first_changed change) (takes-changed top change) path old at
edited-gone (UnsetAttr path name) old new top at =
    let change = with_its_key (unset_attr name) in gone-at top (first_changed change) (takes-changed top change) path old at
edited-gone (ReplaceSheet text) old new top at = absurd (none-some top at)

-- No node is turned.

unturned-kept : (g : Forest (Keyed Node)) → IsUnturned (all_kept g)
unturned-kept Empty = tt
unturned-kept (Tree n c r) = (unturned-kept c, unturned-kept r)

unturned-from : (change : Forest (Keyed Node) → Merge Node) → ((g : Forest (Keyed Node)) → IsUnturned (change g)) → (position : ℕ) (g : Forest (Keyed Node)) → IsUnturned (merged_from change position g)
unturned-from change same zero g = same g
unturned-from change same (suc position) Empty = tt
unturned-from change same (suc position) (Tree n c r) = (unturned-kept c, unturned-from change same position r)

unturned-at : (change : Forest (Keyed Node) → Merge Node) → ((g : Forest (Keyed Node)) → IsUnturned (change g)) → (path : List ℕ) (g : Forest (Keyed Node)) → IsUnturned (merged_at change path g)
unturned-at change same [] g = same g
unturned-at change same (position ∷ path) Empty = tt
unturned-at change same (position ∷ path) (Tree n c r) = (unturned-from (merged_at change path) (unturned-at change same path) position c, unturned-kept r)

unturned-gone : (g : Forest (Keyed Node)) → IsUnturned (first_gone g)
unturned-gone Empty = tt
unturned-gone (Tree n c r) = unturned-kept r

unturned-changed : (change : Keyed Node → Keyed Node) (g : Forest (Keyed Node)) → IsUnturned (first_changed change g)
unturned-changed change Empty = tt
unturned-changed change (Tree n c r) = unturned-kept r

unturned-without : (m : Merge Node) → IsUnturned m → IsUnturned (without_come m)
unturned-without End h = tt
unturned-without (Kept n c r) h = (unturned-without c h.0, unturned-without r h.1)
unturned-without (Turned was n c r) h = absurd h.0
unturned-without (Gone n c r) h = unturned-without r h
unturned-without (Come n c r) h = unturned-without r h

unturned-with : (m : Merge Node) → IsUnturned (without_come m) → IsUnturned m
unturned-with End h = tt
unturned-with (Kept n c r) h = (unturned-with c h.0, unturned-with r h.1)
unturned-with (Turned was n c r) h = absurd h.0
unturned-with (Gone n c r) h = unturned-with r h
unturned-with (Come n c r) h = unturned-with r h

unturned-fragment : (path : List ℕ) (index : ℕ) (g : Forest (Keyed Node)) (m : Merge Node) → IsUnturned m → IsUnturned (put_fragment path index g m)
unturned-fragment path index g m h =
    unturned-with (put_fragment path index g m) (subst IsUnturned (sym (without-fragment path index g m)) (unturned-without m h))

pub unturned-edit : (edit : Edit) (old new : Forest (Keyed Node)) → IsUnturned (edit_merge edit old new)
unturned-edit (Insert parent index fragment) old new = unturned-fragment parent index (inserted_tree parent index new) (all_kept old) (unturned-kept old)
unturned-edit (Remove path) old new = unturned-at first_gone unturned-gone path old
unturned-edit (Move from parent index) old new =
    unturned-fragment (once_out from parent) index (on_path from old) (removal from old) (unturned-at first_gone unturned-gone from old)
unturned-edit (SetAttr path name value) old new = let change = with_its_key (set_attr name value) in unturned-at (first_changed change) (unturned-changed change) path old
unturned-edit (UnsetAttr path name) old new = let change = with_its_key (unset_attr name) in unturned-at (first_changed change) (unturned-changed change) path old
unturned-edit (ReplaceSheet text) old new = unturned-kept old
