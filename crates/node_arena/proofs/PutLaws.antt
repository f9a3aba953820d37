-- A node that was kept aside and is put in as a child.
use Rattle.std.proofs.Common.{◌≡◌, ◌≢◌, ◌==◌, ◌<◌, ◌≤◌, ◌+◌, ◌^◌, ℕ, cond, IsTrue, [], ◌∷◌, length, insert, Some, None, option_map, slice_get, refl, sym, ap, subst, ◌∙◌, arith, eq-eqb}
use Rattle.forest.specs.Forest.{Forest, Empty, Tree, weigh}
use Rattle.forest.specs.Keys.{Keyed, times, HasDistinctKeys, without_keys}
use Rattle.forest.specs.Spots.{Spot, keyed, root_keys, first_key, spot_of, IsLive, children_of, child_of, on_link}
use Rattle.forest.specs.Paths.{trees_from}
use Rattle.forest.specs.Changes.{put_children, splice}
use Rattle.forest.proofs.SpotLaws.{weigh-spot}
use Rattle.forest.proofs.ChangeLaws.{weigh-put_children, weigh-splice}
use Rattle.forest.proofs.PathLaws.{first-from}
use Rattle.forest.proofs.SiblingLaws.{child-is}
use Rattle.slab.specs.Slab.{Slab, slab_len}
use Rattle.plain_types.specs.Tree.{AreSound}
use Rattle.plain_types.specs.declared.node.Node.{Node}
use Rattle.node_arena.specs.declared.change.ChildPlace.{ChildPlace}
use Rattle.node_arena.specs.declared.entry.Entry.{Entry}
use Rattle.node_arena.specs.Changes.{hung, cut, IsFreePlace, HasPlace, HasBodies, alone, IsAside, IsPutIn}
use Rattle.node_arena.specs.Children.{listed, AreOnce, KeepsRooms, with_place, Hangs}
use Rattle.node_arena.specs.Copies.{is_element}
use Rattle.node_arena.specs.Document.{IsKeyedDocument}
use Rattle.node_arena.specs.Entries.{links_in, tree_in, Holds}
use Rattle.node_arena.proofs.CutLaws.{splice-roots, before-splice, spliced-there, cut-splice, put_children-twice, put_children-own, spot-put_children, child-tree, bodies-entries, bodies-splice, entries-placed}
use Rattle.node_arena.proofs.EntryLaws.{entries-children}
use Rattle.node_arena.proofs.HangLaws.{root-counted, roots-once, holds-hung}
use Rattle.node_arena.proofs.SoundLaws.{sound-around, sound-splice, document-put_children, element-spot}
use Rattle.node_arena.proofs.TakeLaws.{listed-spot, keeps-rooms-but, keeps-entries}
use Rattle.node_arena.proofs.ToTree.{IsSoundAt, sound-root}

-- What is put in, and where.
pub record Fits (nodes : Slab Entry) (f : Forest (Keyed Node)) (key : ℕ) (place : ChildPlace) : Type 0 where
  pub above : Spot Node
  pub above_at : spot_of f place.parent ≡ Some above
  pub element : IsTrue (is_element above.label)
  pub within : place.index ≤ length (root_keys above.children)
  pub label : Node
  pub inside : Forest (Keyed Node)
  pub branch : tree_in nodes key ≡ Tree (keyed key label) inside Empty
  pub sound : IsSoundAt label inside × AreSound (without_keys inside)

-- one root
one-root : (t : Forest (Keyed Node)) (key : ℕ) → root_keys t ≡ key ∷ [] → (label : Node) × (inside : Forest (Keyed Node)) × (t ≡ Tree (keyed key label) inside Empty)
one-root Empty key e = absurd (cc)
one-root (Tree n c Empty) key e = (n.label, c, ap (λ k. Tree (keyed k n.label) c Empty) (let same : n.key ≡ key = cc in same))
one-root (Tree n c (Tree m d r)) key e = absurd (let long : n.key ∷ (m.key ∷ root_keys r) ≡ key ∷ [] = e in cc)

pub fits : (nodes : Slab Entry) (f : Forest (Keyed Node)) (key : ℕ) (place : ChildPlace) → IsAside (record { tree = f; entries = nodes }) key → IsFreePlace f place → Fits nodes f key place
fits nodes f key place kept free =
    let e = element-spot f place.parent free.element in
    let t = one-root (tree_in nodes key) key kept.root in
    let sound = sound-root t.0 t.1 Empty (subst (λ g. AreSound (without_keys g)) t.2 kept.sound) in
    let children : children_of f place.parent ≡ e.0.children = rw e.1 refl in
    record {
      above = e.0;
      above_at = e.1;
      element = e.2;
      within = subst (λ g. place.index ≤ length (root_keys g)) children free.within;
      label = t.0;
      inside = t.1;
      branch = t.2;
      sound = (sound.0, sound.1);
    }

-- what the step needs
pub record CanList (nodes : Slab Entry) (key : ℕ) (place : ChildPlace) : Type 0 where
  pub within : place.index ≤ length (listed (links_in nodes) place.parent)
  pub once : AreOnce (insert (listed (links_in nodes) place.parent) place.index key)
  pub below : (at : ℕ) → slice_get (insert (listed (links_in nodes) place.parent) place.index key) at ≢ Some place.parent

module _ (nodes : Slab Entry) (root : ℕ) (f : Forest (Keyed Node)) (key : ℕ) (place : ChildPlace) (h : Holds nodes root f) (d : IsKeyedDocument f) (kept : IsAside (record { tree = f; entries = nodes }) key) (t : Fits nodes f key place) where
  abbrev more : Forest (Keyed Node)
  more = splice place.index (keyed key t.label) t.inside t.above.children

  lists : insert (listed (links_in nodes) place.parent) place.index key ≡ root_keys more
  lists = ap (λ ks. insert ks place.index key) (listed-spot nodes root f place.parent t.above h t.above_at) ∙ sym (splice-roots place.index (keyed key t.label) t.inside t.above.children t.within)

  weigh-more : (w : Keyed Node → ℕ) → weigh w more ≡ weigh w t.above.children + weigh w (tree_in nodes key)
  weigh-more w = omega (arith, weigh-splice w place.index (keyed key t.label) t.inside t.above.children, ap (weigh w) t.branch)

  weigh-put : (w : Keyed Node → ℕ) → weigh w (put_children place.parent more f) ≡ weigh w f + weigh w (tree_in nodes key)
  weigh-put w = omega (arith, weigh-put_children w f None [] place.parent more t.above d.distinct t.above_at, weigh-more w)

  distinct-put : HasDistinctKeys (put_children place.parent more f)
  distinct-put x = omega (arith, weigh-put (λ (n : Keyed Node). cond (n.key == x) 1 0), kept.apart x)

  distinct-more : HasDistinctKeys more
  distinct-more x =
      let w : Keyed Node → ℕ = λ (n : Keyed Node). cond (n.key == x) 1 0 in
      let low = weigh-spot w f None [] place.parent t.above t.above_at in
      let sum = weigh-more w in
      let once = kept.apart x in
      omega arith

  none-own : times place.parent more ≡ 0
  none-own =
      let q : ℕ = place.parent in
      let w : Keyed Node → ℕ = λ (n : Keyed Node). cond (n.key == q) 1 0 in
      let own : (1 + (times q t.above.children + times q t.above.after)) ≤ times q f = subst (λ b. (cond b 1 0 + (times q t.above.children + times q t.above.after)) ≤ times q f) (eq-eqb q q refl) (weigh-spot w f None [] q t.above t.above_at) in
      let sum = weigh-more w in
      let once = kept.apart q in
      omega arith

  pub can-list : CanList nodes key place
  can-list = record {
    within = subst (λ ks. place.index ≤ length ks) (sym (listed-spot nodes root f place.parent t.above h t.above_at)) t.within;
    once = subst AreOnce (sym lists) (roots-once more distinct-more);
    below = λ at e. absurd (let there : 0 < times place.parent more = root-counted more at place.parent (subst (λ ks. slice_get ks at ≡ Some place.parent) lists e) in let none = none-own in omega arith);
  }

  pub hung-is : hung place (tree_in nodes key) f ≡ put_children place.parent more f
  hung-is =
      let children : children_of f place.parent ≡ t.above.children = rw t.above_at refl in
      rw (children, t.branch) refl

  now-at : spot_of (put_children place.parent more f) place.parent ≡ Some (record { parent = t.above.parent; earlier = t.above.earlier; label = t.above.label; children = more; after = t.above.after })
  now-at = spot-put_children f None [] place.parent more t.above d.distinct t.above_at

  children-now : children_of (put_children place.parent more f) place.parent ≡ more
  children-now = rw now-at refl

  module _ (new : Slab Entry) (hangs : Hangs (links_in nodes) (links_in new) place.parent (insert (listed (links_in nodes) place.parent) place.index key) place.index) where
    hangs-more : Hangs (links_in nodes) (links_in new) place.parent (root_keys more) place.index
    hangs-more = subst (λ ks. Hangs (links_in nodes) (links_in new) place.parent ks place.index) lists hangs

    before-more : (index child : ℕ) → index < place.index → slice_get (root_keys more) index ≡ Some child → option_map (with_place place.parent index) (links_in nodes child) ≡ links_in nodes child
    before-more index child low e =
        let there : slice_get (root_keys t.above.children) index ≡ Some child = sym (before-splice place.index index (keyed key t.label) t.inside t.above.children t.within low) ∙ e in
        let zero_index : 0 + index ≡ index = omega arith in
        rw zero_index at (entries-placed (links_in nodes) t.above.children place.parent 0 index child (entries-children (links_in nodes) f None [] 0 place.parent t.above h.entries t.above_at) there)

    bodies-more : HasBodies (links_in nodes) more
    bodies-more =
        let at = links_in nodes in
        bodies-splice at place.index (keyed key t.label) t.inside Empty t.above.children (subst (HasBodies at) t.branch kept.bodies) (bodies-entries at t.above.children (Some place.parent) 0 (entries-children at f None [] 0 place.parent t.above h.entries t.above_at))

    holds-put : Holds new root (put_children place.parent more f)
    holds-put = holds-hung nodes new root f place.parent more place.index t.above h t.above_at bodies-more hangs-more before-more distinct-put

    pub holds-more : Holds new root (hung place (tree_in nodes key) f)
    holds-more = subst (Holds new root) (sym hung-is) holds-put

    document-put : slab_len new < 2 ^ 64 → IsKeyedDocument (put_children place.parent more f)
    document-put few =
        document-put_children f place.parent more t.above d t.above_at t.element
        (sound-splice place.index (keyed key t.label) t.inside t.above.children t.sound.0 t.sound.1 (sound-around f None [] place.parent t.above d.is_tree.sound t.above_at).0)
        distinct-put (omega (arith, holds-put.small))

    pub document-more : slab_len new < 2 ^ 64 → IsKeyedDocument (hung place (tree_in nodes key) f)
    document-more few = subst IsKeyedDocument (sym hung-is) (document-put few)

    pub is-put-in : slab_len new < 2 ^ 64 → KeepsRooms nodes new → IsPutIn (record { tree = f; entries = nodes }) (record { tree = hung place (tree_in nodes key) f; entries = new }) key place
    is-put-in few rooms =
        let q : ℕ = place.parent in
        let g : Forest (Keyed Node) = put_children q more f in
        let doc : IsKeyedDocument g = document-put few in
        let live_q : IsLive g q = rw now-at refl in
        let there : trees_from place.index more ≡ Tree (keyed key t.label) t.inside (trees_from place.index t.above.children) = spliced-there place.index (keyed key t.label) t.inside t.above.children t.within in
        let child : child_of g q place.index ≡ Some key = ap (λ c. slice_get (root_keys c) place.index) children-now ∙ sym (first-from place.index more) ∙ ap first_key there in
        let is = child-is g q doc.distinct place.index key live_q child in
        let link : Tree (keyed key t.label) t.inside (trees_from place.index t.above.children) ≡ on_link g (Some key) =
        sym there ∙ ap (trees_from place.index) (sym children-now) ∙ ap (λ i. trees_from i (children_of g q)) (sym is.2) ∙ child-tree g key q doc is.0 is.1 in
        let stands : HasPlace g key place = record { live = is.0; parent = is.1; index = is.2; element = rw now-at t.element } in
        record {
          tree = refl;
          stands = subst (λ x. HasPlace x key place) (sym hung-is) stands;
          nodes = ap (λ x. alone (on_link x (Some key))) hung-is ∙ ap alone (sym link) ∙ sym t.branch;
          rooms = keeps-rooms-but nodes new place.parent place.index (root_keys more) f (hung place (tree_in nodes key) f) hangs-more rooms;
          back =
              ap (cut place) hung-is
              ∙ rw children-now (ap (λ c. put_children q c g) (cut-splice place.index (keyed key t.label) t.inside t.above.children t.within))
              ∙ put_children-twice f q t.above.children more
              ∙ put_children-own f None [] q t.above d.distinct t.above_at;
          entries = keeps-entries nodes new f (hung place (tree_in nodes key) f) rooms;
        }
