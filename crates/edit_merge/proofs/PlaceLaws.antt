-- The places of an edit that a document allows. Throughout, n is a node, c what is under it, r what is after it, and g
-- trees.
use Rattle.std.proofs.Common.{◌≡◌, ◌≤◌, ◌<◌, ◌+◌, ◌^◌, ◌&&◌, ℕ, zero, suc, Bool, true, false, List, [], ◌∷◌, ◌++◌, length, Option, Some, None, is_some, refl, sym, ap, subst, ◌∙◌, arith}
use Rattle.std.proofs.lemmas.Bool.{leb-true}
use Rattle.std.proofs.lemmas.Option.{none-some}
use Rattle.forest.specs.Forest.{Forest, Empty, Tree, size}
use Rattle.forest.specs.Keys.{Keyed, without_keys}
use Rattle.forest.specs.Paths.{key_at, on_path, trees_from}
use Rattle.forest.specs.Spots.{first_key, root_keys, roots}
use Rattle.forest.proofs.PathLaws.{first-tree, on_path-append}
use Rattle.plain_types.specs.Tree.{IsOne}
use Rattle.plain_types.specs.declared.node.Node.{Node}
use Rattle.plain_types.specs.declared.node.Node.TheVariants.{Element, Text}
use Rattle.node_arena.specs.declared.place_fault.PlaceFault.TheVariants.{NoPlace}
use Rattle.node_arena.specs.AtPaths.{child_count_at, first_children, first_label, from_position, inserted_at, leads_into, once_out, removed_at, with_children, with_tree}
use Rattle.node_arena.specs.Changes.{alone}
use Rattle.node_arena.specs.Copies as copies
use Rattle.node_arena.specs.Document.{IsKeyedDocument}
use Rattle.node_arena.specs.Edits.{has_room_at, is_element_at, is_node_at, move_fault, no_place_unless}
use Rattle.node_arena.proofs.AtPathLaws.{on-changed, stays}
use Rattle.node_arena.proofs.CutLaws.{spliced-there}
use Rattle.node_arena.proofs.EditLaws.{removed-natural}
use Rattle.node_arena.proofs.KeyAtLaws.{count-map, node-found, on-map}
use Rattle.node_arena.proofs.MoveLaws.{inner-long}
use Rattle.node_arena.proofs.PrepareLaws.{allowed-move}
use Rattle.node_arena.proofs.TakeLaws.{length-roots}
use Rattle.merged_walk.specs.EditStops.{HasRoom, IsUnderElements, NamesNode}
use Rattle.edit_merge.specs.EditMerges.{is_element}
use Rattle.surroundings.specs.MergedLevels.{AreLeaves}

module _ {L : Type 0} where
  -- a tree stands at a path
  pub record IsThere (path : List ℕ) (g : Forest L) : Type 0 where
    pub label : L
    pub children : Forest L
    pub after : Forest L
    pub on : on_path path g ≡ Tree label children after

module _ {L : Type 0} where
  pub named : (path : List ℕ) (g : Forest (Keyed L)) (n : Keyed L) (c r : Forest (Keyed L)) → on_path path g ≡ Tree n c r → NamesNode path g
  named [] Empty n c r is = absurd (cc)
  named [] (Tree m d s) n c r is = tt
  named (position ∷ path) Empty n c r is = absurd (cc)
  named (position ∷ path) (Tree m d s) n c r is = named path (trees_from position d) n c r is

  there-named : (path : List ℕ) (g : Forest (Keyed L)) → IsThere path g → NamesNode path g
  there-named path g t = named path g t.label t.children t.after t.on

  -- Above a node there are elements.

  module _ (element : L → Bool) where
    leaves-from : (i : ℕ) (g : Forest (Keyed L)) → AreLeaves element g → AreLeaves element (trees_from i g)
    leaves-from zero g h = h
    leaves-from (suc i) Empty h = tt
    leaves-from (suc i) (Tree n c r) h = leaves-from i r h.2

    none-named : (path : List ℕ) (i : ℕ) (g : Forest (Keyed L)) → g ≡ Empty → NamesNode path (trees_from i g) → ⊥
    none-named [] zero Empty is names = names
    none-named [] (suc i) Empty is names = names
    none-named (position ∷ path) zero Empty is names = names
    none-named (position ∷ path) (suc i) Empty is names = names
    none-named path i (Tree n c r) is names = absurd (cc)

    parent-element : (b : Bool) (path : List ℕ) (i : ℕ) (g : Forest (Keyed L)) → (b ≡ false → g ≡ Empty) → NamesNode path (trees_from i g) → b ≡ true
    parent-element true path i g leaf names = refl
    parent-element false path i g leaf names = absurd (none-named path i g (leaf refl) names)

    pub under-named : (path : List ℕ) (g : Forest (Keyed L)) → AreLeaves element g → NamesNode path g → IsUnderElements element path g
    under-named [] g leaves names = tt
    under-named (position ∷ path) Empty leaves names = absurd names
    under-named (position ∷ path) (Tree n c r) leaves names =
        (parent-element (element n.label) path position c leaves.0 names, under-named path (trees_from position c) (leaves-from position c leaves.1) names)

    -- and above a child of an element, if there is one or not
    pub under-element : (parent : List ℕ) (index : ℕ) (g : Forest (Keyed L)) (n : Keyed L) (c r : Forest (Keyed L)) → AreLeaves element g → on_path parent g ≡ Tree n c r → element n.label ≡ true
        → IsUnderElements element (parent ++ index ∷ []) g
    under-element [] index Empty n c r leaves is h = absurd (cc)
    under-element [] index (Tree m d s) n c r leaves is h = let same : m ≡ n = cc in (ap (λ (k : Keyed L). element k.label) same ∙ h, tt)
    under-element (position ∷ path) index Empty n c r leaves is h = absurd (cc)
    under-element (position ∷ path) index (Tree m d s) n c r leaves is h = (
      parent-element (element m.label) path position d leaves.0 (named path (trees_from position d) n c r is),
      under-element path index (trees_from position d) n c r (leaves-from position d leaves.1) is h,
    )

  -- The tree that is inserted.

  pub first-alone : (t : Forest (Keyed L)) → first_key (alone t) ≡ first_key t
  first-alone Empty = refl
  first-alone (Tree n c r) = refl

  stands : (index : ℕ) (z : Keyed L) (zs here : Forest (Keyed L)) → is_some (first_label here) ≡ true → index ≤ length (root_keys (first_children here))
      → alone (on_path (index ∷ []) (with_children (with_tree index (Tree z zs Empty)) here)) ≡ Tree z zs Empty
  stands index z zs Empty some low = absurd (cc some)
  stands index z zs (Tree n c r) some low = ap alone (spliced-there index z zs c low)

  pub inserted-there : (parent : List ℕ) (index : ℕ) (z : Keyed L) (zs g : Forest (Keyed L)) → is_some (first_label (on_path parent g)) ≡ true → index ≤ length (root_keys (first_children (on_path parent g)))
      → alone (on_path (parent ++ index ∷ []) (inserted_at parent index (Tree z zs Empty) g)) ≡ Tree z zs Empty
  inserted-there parent index z zs g some low =
      ap alone (on_path-append parent (index ∷ []) (inserted_at parent index (Tree z zs Empty) g) ∙ ap (on_path (index ∷ [])) (on-changed (with_children (with_tree index (Tree z zs Empty))) parent g refl))
      ∙ stands index z zs (on_path parent g) some low

-- What an edit that is allowed names.

no-labels : (g : Forest (Keyed Node)) → without_keys g ≡ Empty → g ≡ Empty
no-labels Empty is = refl
no-labels (Tree n c r) is = absurd (let same : Tree n.label (without_keys c) (without_keys r) ≡ Empty = is in cc)

pub one-root : (t : Forest (Keyed Node)) → IsOne (without_keys t) → (z : Keyed Node) × (zs : Forest (Keyed Node)) × (t ≡ Tree z zs Empty)
one-root Empty one = absurd one
one-root (Tree n c r) one = (n, c, ap (Tree n c) (no-labels r one))

pub there-is : (b : Bool) → no_place_unless b ≡ None → b ≡ true
there-is true none = refl
there-is false none = absurd (none-some NoPlace (sym none))

pub both-are : (a b : Bool) → (a && b) ≡ true → (a ≡ true) × (b ≡ true)
both-are true b h = (refl, h)
both-are false b h = absurd (cc h)

same-kind : (node : Node) → copies.is_element node ≡ true → is_element node ≡ true
same-kind (Element name attrs) h = refl
same-kind (Text characters) h = absurd (cc h)

pub record HasElement (path : List ℕ) (g : Forest (Keyed Node)) : Type 0 where
  pub label : Keyed Node
  pub children : Forest (Keyed Node)
  pub after : Forest (Keyed Node)
  pub on : on_path path g ≡ Tree label children after
  pub element : is_element label.label ≡ true

element-first : (t : Forest (Keyed Node)) → (elim (first_label (without_keys t)) [ None ↦ false | Some node ↦ copies.is_element node ]) ≡ true
    → (n : Keyed Node) × (c : Forest (Keyed Node)) × (r : Forest (Keyed Node)) × (t ≡ Tree n c r) × (is_element n.label ≡ true)
element-first Empty h = absurd (cc h)
element-first (Tree n c r) h = (n, c, r, refl, same-kind n.label h)

pub element-there : (path : List ℕ) (g : Forest (Keyed Node)) → is_element_at path (without_keys g) ≡ true → HasElement path g
element-there path g h =
    let t = element-first (on_path path g) (subst (λ (f : Forest Node). (elim (first_label f) [ None ↦ false | Some node ↦ copies.is_element node ]) ≡ true) (on-map (λ (n : Keyed Node). n.label) path g) h) in
    record { label = t.0; children = t.1; after = t.2; on = t.3; element = t.4 }

some-key : (o : Option ℕ) → is_some o ≡ true → (q : ℕ) × (o ≡ Some q)
some-key None h = absurd (cc h)
some-key (Some q) h = (q, refl)

pub node-there : (path : List ℕ) (g : Forest (Keyed Node)) → is_node_at path (without_keys g) ≡ true → IsThere path g
node-there path g h =
    let q = some-key (key_at g path) (sym (node-found g path) ∙ h) in
    let t = first-tree (on_path path g) q.0 q.1 in
    record { label = t.0; children = t.1; after = t.2; on = t.3 }

-- How many children there are, with keys and without.

same-count : (t : Forest (Keyed Node)) → length (roots (first_children (without_keys t))) ≡ length (roots (first_children t))
same-count Empty = refl
same-count (Tree n c r) = count-map (λ (m : Keyed Node). m.label) c

pub count-labels : (path : List ℕ) (g : Forest (Keyed Node)) → child_count_at path (without_keys g) ≡ child_count_at path g
count-labels path g = ap (λ (t : Forest Node). length (roots (first_children t))) (on-map (λ (n : Keyed Node). n.label) path g) ∙ same-count (on_path path g)

pub room-there : (parent : List ℕ) (index : ℕ) (g : Forest (Keyed Node)) → has_room_at parent index (without_keys g) ≡ true → index ≤ child_count_at parent g
room-there parent index g h = let low : index ≤ child_count_at parent (without_keys g) = leb-true index _ h in omega (arith, low, count-labels parent g)

pub keys-there : (parent : List ℕ) (index : ℕ) (g : Forest (Keyed Node)) → has_room_at parent index (without_keys g) ≡ true → index ≤ length (root_keys (first_children (on_path parent g)))
keys-there parent index g h = omega (arith, room-there parent index g h, length-roots (first_children (on_path parent g)))

-- Once the node that moves is out.

first-named : (path : List ℕ) (g : Forest (Keyed Node)) (n : Keyed Node) → first_label (on_path path g) ≡ Some n → NamesNode path g
first-named path g n h = by-tree (on_path path g) refl h
  where
    by-tree : (t : Forest (Keyed Node)) → on_path path g ≡ t → first_label t ≡ Some n → NamesNode path g
    by-tree Empty is h = absurd (none-some n h)
    by-tree (Tree m c r) is h = named path g m c r is

pub room-once_out : (from parent : List ℕ) (index : ℕ) (g : Forest (Keyed Node)) → 0 < length from → leads_into from parent ≡ false → HasElement parent g
    → has_room_at (once_out from parent) index (removed_at from (without_keys g)) ≡ true → HasRoom (once_out from parent) index (removed_at from g)
room-once_out from parent index g long apart above room =
    let path = once_out from parent in
    let rest : Forest (Keyed Node) = removed_at from g in
    let label : first_label (on_path path rest) ≡ Some above.label = (stays from parent g long apart).0 ∙ ap first_label above.on in
    let there : has_room_at path index (without_keys rest) ≡ true = ap (has_room_at path index) (removed-natural (λ (n : Keyed Node). n.label) from g) ∙ room in
    (first-named path rest above.label label, room-there path index rest there)

-- How large an index may be.

module _ {L : Type 0} where
  roots-size : (t : Forest L) → length (roots t) ≤ size t
  roots-size Empty = omega arith
  roots-size (Tree n c r) = omega (arith, roots-size r)

  children-size : (t : Forest L) → length (roots (first_children t)) ≤ size t
  children-size Empty = omega arith
  children-size (Tree n c r) = omega (arith, roots-size c)

  from-size : (i : ℕ) (t : Forest L) → size (trees_from i t) ≤ size t
  from-size zero t = omega arith
  from-size (suc i) Empty = omega arith
  from-size (suc i) (Tree n c r) = omega (arith, from-size i r)

  on-size : (path : List ℕ) (t : Forest L) → size (on_path path t) ≤ size t
  on-size [] t = omega arith
  on-size (position ∷ path) Empty = omega arith
  on-size (position ∷ path) (Tree n c r) = omega (arith, on-size path (trees_from position c), from-size position c)

  count-size : (path : List ℕ) (t : Forest L) → child_count_at path t ≤ size t
  count-size path t = omega (arith, children-size (on_path path t), on-size path t)

  module _ (path : List ℕ) (change : Forest L → Forest L) (label : L) (children after : Forest L) (less : (t : Forest L) → on_path path t ≡ Tree label children after → size (change t) < size t) where
    from-less : (i : ℕ) (t : Forest L) → on_path path (trees_from i t) ≡ Tree label children after → size (from_position change i t) < size t
    from-less zero t is = less t is
    from-less (suc i) Empty is = absurd (no-tree path is)
      where
        no-tree : (path : List ℕ) → on_path path Empty ≡ Tree label children after → ⊥
        no-tree [] is = absurd (cc)
        no-tree (position ∷ path) is = absurd (cc)
    from-less (suc i) (Tree n c r) is = omega (arith, from-less i r is)

  out-less : (path : List ℕ) (t : Forest L) (label : L) (children after : Forest L) → on_path path t ≡ Tree label children after → size (removed_at path t) < size t
  out-less [] Empty label children after is = absurd (cc)
  out-less [] (Tree n c r) label children after is = omega arith
  out-less (position ∷ path) Empty label children after is = absurd (cc)
  out-less (position ∷ path) (Tree n c r) label children after is =
      omega (arith, from-less path (removed_at path) label children after (λ t here. out-less path t label children after here) position c is)

pub index-fits : (from parent : List ℕ) (index : ℕ) (f : Forest (Keyed Node)) → IsKeyedDocument f → move_fault from parent index (without_keys f) ≡ None → index + 1 < 2 ^ 64
index-fits from parent index f document allowed =
    let can = allowed-move from parent index (without_keys f) allowed in
    let its : IsThere from f = node-there from f (both-are _ _ can.0).1 in
    let room = room-once_out from parent index f (inner-long from (without_keys f) can.0) can.2 (element-there parent f can.1) can.3 in
    omega (arith, room.1, count-size (once_out from parent) (removed_at from f), out-less from f its.label its.children its.after its.on, document.few)
