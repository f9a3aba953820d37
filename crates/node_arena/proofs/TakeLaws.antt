-- A child that is taken out and kept aside.
use Rattle.std.proofs.Common.{◌≡◌, ◌≢◌, ◌==◌, ◌<◌, ◌≤◌, ◌+◌, ◌^◌, ◌⊎◌, ℕ, zero, suc, true, false, cond, IsTrue, List, [], ◌∷◌, length, remove, Option, Some, None, is_some, IsSomeAnd, option_map, slice_get, vec_capacity, refl, sym, ap, subst, ◌∙◌, inl, inr, arith, eqb-true, eq-eqb}
use Rattle.std.proofs.lemmas.Bool.{cases_lt}
use Rattle.std.proofs.lemmas.List.{length-map}
use Rattle.std.proofs.lemmas.Option.{none-some, same_Some}
use Rattle.forest.specs.Forest.{Forest, Empty, Tree, size, weigh}
use Rattle.forest.specs.Keys.{Keyed, times, HasDistinctKeys, without_keys}
use Rattle.forest.specs.Spots.{Spot, keyed, roots, root_keys, spot_of, children_of, on_link, label_of}
use Rattle.forest.specs.Paths.{trees_from}
use Rattle.forest.specs.Changes.{put_children}
use Rattle.forest.proofs.SpotLaws.{live-spot, weigh-spot}
use Rattle.forest.proofs.ChangeLaws.{weigh-put_children}
use Rattle.forest.proofs.SiblingLaws.{index-within}
use Rattle.slab.specs.Slab.{Slab, get, slab_len}
use Rattle.plain_types.specs.Tree.{AreSound}
use Rattle.plain_types.specs.declared.node.Node.{Node}
use Rattle.node_arena.specs.declared.change.ChildPlace.{ChildPlace}
use Rattle.node_arena.specs.declared.entry.Entry.{Entry}
use Rattle.node_arena.specs.AtPaths.{from_position, without_first}
use Rattle.node_arena.specs.Changes.{hung, cut, HasPlace, HasBodies, alone, IsTakenOut, KeepsRoomsBut, KeepsEntries}
use Rattle.node_arena.specs.Children.{list_of, listed, AreOnce, KeepsRooms, HasRoom, with_place, Hangs}
use Rattle.node_arena.specs.Copies.{is_element}
use Rattle.node_arena.specs.Document.{IsKeyedDocument}
use Rattle.node_arena.specs.Entries.{Links, links_of, links_in, grown, tree_in, Holds}
use Rattle.node_arena.proofs.AtPathLaws.{count-without}
use Rattle.node_arena.proofs.ChildLaws.{same-or-other}
use Rattle.node_arena.proofs.CountLaws.{node-there, there-small}
use Rattle.node_arena.proofs.CutLaws.{cut-roots, before-cut, splice-cut, weigh-cut, put_children-twice, put_children-own, spot-put_children, child-tree, bodies-entries, bodies-cut, bodies-from, bodies-alone, entries-placed}
use Rattle.node_arena.proofs.EntryLaws.{entries-spot, entries-children, entries-frame, grown-is}
use Rattle.node_arena.proofs.HangLaws.{root-counted, roots-once, holds-hung}
use Rattle.node_arena.proofs.SoundLaws.{sound-around, sound-cut, sound-tree, document-put_children, element-spot}
use Rattle.node_arena.proofs.ToTree.{sound-spot}

-- What is kept aside.

module _ (at : ℕ → Option Links) where
  -- the links lead to it
  pub grown-bodies : (most : ℕ) (t : Forest (Keyed Node)) → HasBodies at t → size t ≤ most → grown most at (root_keys t) ≡ t
  grown-bodies zero Empty h small = refl
  grown-bodies zero (Tree n c r) h small = absurd (omega arith)
  grown-bodies (suc most) Empty h small = refl
  grown-bodies (suc most) (Tree n c r) h small = let own = h.0 in rw (own.2, grown-is at most c (Some n.key) 0 h.1 (omega arith), grown-bodies most r h.2 (omega arith)) refl

  pub bodies-there : (t : Forest (Keyed Node)) (q : ℕ) → HasBodies at t → 0 < times q t → is_some (at q) ≡ true
  bodies-there Empty q h more = absurd (omega arith)
  bodies-there (Tree n c r) q h more =
      elim (n.key == q) as (λ b. (n.key == q) ≡ b → 0 < cond b 1 0 + (times q c + times q r) → is_some (at q) ≡ true) [
        | true ↦ λ is _. let own = h.0 in ap (λ k. is_some (at k)) (sym (eqb-true n.key q is)) ∙ ap (λ o. is_some o) own.2
        | false ↦ λ is more. elim (cases_lt 0 (times q c)) [
          | inl some ↦ node-there at c (Some n.key) 0 q h.1 some
          | inr none ↦ bodies-there r q h.2 (omega arith)
        ]
      ] refl more

  pub bodies-frame : (new : ℕ → Option Links) (t : Forest (Keyed Node)) → ((x : ℕ) → 0 < times x t → new x ≡ at x) → HasBodies at t → HasBodies new t
  bodies-frame new Empty same h = tt
  bodies-frame new (Tree n c r) same h =
      let own = h.0 in (
        (own.0, own.1, same n.key (rw (eq-eqb n.key n.key refl) (omega arith)) ∙ own.2),
        entries-frame new at c (Some n.key) 0 (λ x more. same x (omega arith)) h.1,
        bodies-frame new r (λ x more. same x (omega arith)) h.2,
      )

-- a tree whose entries are there under this key
pub aside-is : (nodes : Slab Entry) (key : ℕ) (t : Forest (Keyed Node)) → HasBodies (links_in nodes) t → root_keys t ≡ key ∷ [] → HasDistinctKeys t → tree_in nodes key ≡ t
unfolding tree_in
aside-is nodes key t bodies root d = rw (← root) (grown-bodies (links_in nodes) (slab_len nodes) t bodies (there-small nodes t (λ q more. bodies-there (links_in nodes) t q bodies more) d))

-- The tree without a child.

pub record Taken (f : Forest (Keyed Node)) (key : ℕ) (place : ChildPlace) : Type 0 where
  pub above : Spot Node
  pub above_at : spot_of f place.parent ≡ Some above
  pub element : IsTrue (is_element above.label)
  pub own : Spot Node
  pub own_at : spot_of f key ≡ Some own
  pub here : trees_from place.index above.children ≡ Tree (keyed key own.label) own.children own.after
  pub within : place.index < length (root_keys above.children)
  pub rest : cut place f ≡ put_children place.parent (from_position without_first place.index above.children) f

pub taken : (f : Forest (Keyed Node)) (key : ℕ) (place : ChildPlace) → IsKeyedDocument f → HasPlace f key place → Taken f key place
taken f key place d h =
    let e = element-spot f place.parent h.element in
    let s = live-spot f key h.live in
    let children : children_of f place.parent ≡ e.0.children = rw e.1 refl in
    let link : on_link f (Some key) ≡ Tree (keyed key s.0.label) s.0.children s.0.after = rw s.1 refl in
    record {
      above = e.0;
      above_at = e.1;
      element = e.2;
      own = s.0;
      own_at = s.1;
      here = ap (trees_from place.index) (sym children) ∙ ap (λ i. trees_from i (children_of f place.parent)) (sym h.index) ∙ child-tree f key place.parent d h.live h.parent ∙ link;
      within = omega (arith, index-within f key place.parent d.distinct h.live h.parent, h.index, ap (λ c. length (root_keys c)) children);
      rest = ap (λ c. put_children place.parent (from_position without_first place.index c) f) children;
    }

-- what was taken out
abbrev pub branch : (f : Forest (Keyed Node)) (key : ℕ) (place : ChildPlace) → Taken f key place → Forest (Keyed Node)
branch f key place t = Tree (keyed key t.own.label) t.own.children Empty

pub branch-is : (f : Forest (Keyed Node)) (key : ℕ) (place : ChildPlace) → (t : Taken f key place) → alone (on_link f (Some key)) ≡ branch f key place t
branch-is f key place t = rw t.own_at refl

pub weigh-taken : (w : Keyed Node → ℕ) (f : Forest (Keyed Node)) (key : ℕ) (place : ChildPlace) → HasDistinctKeys f → (t : Taken f key place) → weigh w (cut place f) + weigh w (branch f key place t) ≡ weigh w f
weigh-taken w f key place d t =
    let g : Forest (Keyed Node) = from_position without_first place.index t.above.children in
    let less = weigh-put_children w f None [] place.parent g t.above d t.above_at in
    let one = weigh-cut w place.index t.above.children in
    let here : weigh w (alone (trees_from place.index t.above.children)) ≡ weigh w (branch f key place t) = ap (λ x. weigh w (alone x)) t.here in
    let rest : weigh w (cut place f) ≡ weigh w (put_children place.parent g f) = ap (weigh w) t.rest in
    omega arith

-- the way back
pub back-in : (f : Forest (Keyed Node)) (key : ℕ) (place : ChildPlace) (trees : Forest (Keyed Node)) → HasDistinctKeys f → (t : Taken f key place) → trees ≡ branch f key place t → hung place trees (cut place f) ≡ f
back-in f key place trees d t is =
    let q : ℕ = place.parent in
    let g : Forest (Keyed Node) = from_position without_first place.index t.above.children in
    let now = spot-put_children f None [] q g t.above d t.above_at in
    let children : children_of (put_children q g f) q ≡ g = rw now refl in
    ap (hung place trees) t.rest
    ∙ rw (children, is) (ap (λ c. put_children q c (put_children q g f)) (splice-cut place.index (keyed key t.own.label) t.own.children t.own.after t.above.children t.here))
    ∙ put_children-twice f q t.above.children g
    ∙ put_children-own f None [] q t.above d t.above_at

-- The entries.

pub listed-spot : (nodes : Slab Entry) (root : ℕ) (f : Forest (Keyed Node)) (q : ℕ) (s : Spot Node) → Holds nodes root f → spot_of f q ≡ Some s → listed (links_in nodes) q ≡ root_keys s.children
listed-spot nodes root f q s h is = ap list_of (entries-spot (links_in nodes) f None [] 0 q s refl h.entries is)

some-room : (o p : Option Entry) (keys : List ℕ) → option_map (λ (entry : Entry). vec_capacity entry.children) p ≡ option_map (λ (entry : Entry). vec_capacity entry.children) o → list_of (option_map links_of p) ≡ list_of (option_map links_of o) → IsSomeAnd o (λ (entry : Entry). length entry.children.items < vec_capacity entry.children) → IsSomeAnd p (λ (entry : Entry). length entry.children.items < vec_capacity entry.children)
some-room None p keys rooms lists h = absurd h
some-room (Some entry) None keys rooms lists h = absurd (cc)
some-room (Some entry) (Some now) keys rooms lists h = let room : vec_capacity now.children ≡ vec_capacity entry.children = same_Some _ _ rooms in let list : now.children.items ≡ entry.children.items = lists in omega (arith, ap length list)

-- an entry whose list and its room stay has the room that it had
pub keeps-room : (nodes new : Slab Entry) (key : ℕ) → KeepsRooms nodes new → listed (links_in new) key ≡ listed (links_in nodes) key → HasRoom nodes key → HasRoom new key
keeps-room nodes new key rooms lists h = some-room (get nodes key) (get new key) [] (rooms key) lists h

placed-list : (o p : Option Links) (parent position : ℕ) → p ≡ option_map (with_place parent position) o → list_of p ≡ list_of o
placed-list None p parent position e = rw e refl
placed-list (Some links) p parent position e = rw e refl

-- a key stands in a list from an index on, or nowhere there
look : (ks : List ℕ) (key from : ℕ) → ((index : ℕ) × (from ≤ index) × (slice_get ks index ≡ Some key)) ⊎ ((index : ℕ) → from ≤ index → slice_get ks index ≢ Some key)
look [] key from = inr (λ index high e. none-some key e)
look (k ∷ ks) key zero = elim (same-or-other k key) [
  | inl e ↦ inl (0, omega arith, ap (λ x. Some x) e)
  | inr ne ↦ elim (look ks key zero) [
    | inl found ↦ inl (suc found.0, omega arith, found.2)
    | inr none ↦ inr (first k ks key ne none)
  ]
]
  where
    first : (k : ℕ) (ks : List ℕ) (key : ℕ) → k ≢ key → ((index : ℕ) → 0 ≤ index → slice_get ks index ≢ Some key) → (index : ℕ) → 0 ≤ index → slice_get (k ∷ ks) index ≢ Some key
    first k ks key ne none zero high e = ne (same_Some _ _ e)
    first k ks key ne none (suc index) high e = none index (omega arith) e
look (k ∷ ks) key (suc from) = elim (look ks key from) [
  | inl found ↦ inl (suc found.0, omega arith, found.2)
  | inr none ↦ inr (later k ks key from none)
]
  where
    later : (k : ℕ) (ks : List ℕ) (key from : ℕ) → ((index : ℕ) → from ≤ index → slice_get ks index ≢ Some key) → (index : ℕ) → suc from ≤ index → slice_get (k ∷ ks) index ≢ Some key
    later k ks key from none zero high e = absurd (omega arith)
    later k ks key from none (suc index) high e = none index (omega arith) e

-- another entry's list stays
pub hangs-listed : (at new : ℕ → Option Links) (parent from : ℕ) (ks : List ℕ) (key : ℕ) → Hangs at new parent ks from → key ≢ parent → listed new key ≡ listed at key
hangs-listed at new parent from ks key h ne = elim (look ks key from) [
  | inl found ↦ placed-list (at key) (new key) parent found.0 (h.placed found.0 key found.1 found.2)
  | inr none ↦ ap list_of (h.others key ne none)
]

pub keeps-rooms-but : (nodes new : Slab Entry) (parent from : ℕ) (ks : List ℕ) (f g : Forest (Keyed Node)) → Hangs (links_in nodes) (links_in new) parent ks from → KeepsRooms nodes new → KeepsRoomsBut parent (record { tree = f; entries = nodes }) (record { tree = g; entries = new })
keeps-rooms-but nodes new parent from ks f g h rooms key ne room = keeps-room nodes new key rooms (hangs-listed (links_in nodes) (links_in new) parent from ks key h ne) room

some-same : {A B C : Type 0} (f : A → C) (g : B → C) (o : Option A) (p : Option B) → option_map f o ≡ option_map g p → is_some o ≡ is_some p
some-same f g None None e = refl
some-same f g None (Some y) e = absurd (none-some (g y) e)
some-same f g (Some x) None e = absurd (none-some (f x) (sym e))
some-same f g (Some x) (Some y) e = refl

pub keeps-entries : (nodes new : Slab Entry) (f g : Forest (Keyed Node)) → KeepsRooms nodes new → KeepsEntries (record { tree = f; entries = nodes }) (record { tree = g; entries = new })
keeps-entries nodes new f g rooms key = some-same (λ (entry : Entry). vec_capacity entry.children) (λ (entry : Entry). vec_capacity entry.children) (get new key) (get nodes key) (rooms key)

pub length-roots : {L : Type 0} (c : Forest (Keyed L)) → length (root_keys c) ≡ length (roots c)
length-roots {L = L} c = length-map (roots c) (λ (n : Keyed L). n.key)

-- what the step needs
pub record CanUnlist (nodes : Slab Entry) (place : ChildPlace) : Type 0 where
  pub within : place.index < length (listed (links_in nodes) place.parent)
  pub once : AreOnce (remove (listed (links_in nodes) place.parent) place.index)
  pub below : (at : ℕ) → slice_get (remove (listed (links_in nodes) place.parent) place.index) at ≢ Some place.parent

module _ (nodes : Slab Entry) (root : ℕ) (f : Forest (Keyed Node)) (key : ℕ) (place : ChildPlace) (h : Holds nodes root f) (d : IsKeyedDocument f) (t : Taken f key place) where
  abbrev left : Forest (Keyed Node)
  left = from_position without_first place.index t.above.children

  lists : remove (listed (links_in nodes) place.parent) place.index ≡ root_keys left
  lists = ap (λ ks. remove ks place.index) (listed-spot nodes root f place.parent t.above h t.above_at) ∙ sym (cut-roots place.index t.above.children)

  -- the parent is none of its own children
  none-own : times place.parent left ≡ 0
  none-own =
      let q : ℕ = place.parent in
      let w : Keyed Node → ℕ = λ (n : Keyed Node). cond (n.key == q) 1 0 in
      let own : (1 + (times q t.above.children + times q t.above.after)) ≤ times q f = subst (λ b. (cond b 1 0 + (times q t.above.children + times q t.above.after)) ≤ times q f) (eq-eqb q q refl) (weigh-spot w f None [] q t.above t.above_at) in
      let less = weigh-cut w place.index t.above.children in
      let once = d.distinct q in
      omega arith

  distinct-left : HasDistinctKeys left
  distinct-left x =
      let w : Keyed Node → ℕ = λ (n : Keyed Node). cond (n.key == x) 1 0 in
      let low = weigh-spot w f None [] place.parent t.above t.above_at in
      let less = weigh-cut w place.index t.above.children in
      let once = d.distinct x in
      omega arith

  pub can-unlist : CanUnlist nodes place
  can-unlist = record {
    within = subst (λ ks. place.index < length ks) (sym (listed-spot nodes root f place.parent t.above h t.above_at)) t.within;
    once = subst AreOnce (sym lists) (roots-once left distinct-left);
    below = λ at e. absurd (let there : 0 < times place.parent left = root-counted left at place.parent (subst (λ ks. slice_get ks at ≡ Some place.parent) lists e) in let none = none-own in omega arith);
  }

  -- what is under the taken child is nowhere else
  apart-branch : (x : ℕ) → (times x (cut place f) + times x (branch f key place t)) ≡ times x f
  apart-branch x = weigh-taken (λ (n : Keyed Node). cond (n.key == x) 1 0) f key place d.distinct t

  distinct-rest : HasDistinctKeys (put_children place.parent left f)
  distinct-rest x = omega (arith, apart-branch x, d.distinct x, ap (times x) t.rest)

  bodies-branch : HasBodies (links_in nodes) (branch f key place t)
  bodies-branch =
      let at : ℕ → Option Links = links_in nodes in
      subst (HasBodies at) (ap alone t.here) (bodies-alone at (trees_from place.index t.above.children) (bodies-from at place.index t.above.children (bodies-entries at t.above.children (Some place.parent) 0 (entries-children at f None [] 0 place.parent t.above h.entries t.above_at))))

  -- the parent stays where the child goes
  parent-stays : times place.parent (branch f key place t) ≡ 0
  parent-stays =
      let q : ℕ = place.parent in
      let w : Keyed Node → ℕ = λ (n : Keyed Node). cond (n.key == q) 1 0 in
      let own : (1 + (times q t.above.children + times q t.above.after)) ≤ times q f = subst (λ b. (cond b 1 0 + (times q t.above.children + times q t.above.after)) ≤ times q f) (eq-eqb q q refl) (weigh-spot w f None [] q t.above t.above_at) in
      let less : weigh w (from_position without_first place.index t.above.children) + weigh w (alone (trees_from place.index t.above.children)) ≡ weigh w t.above.children = weigh-cut w place.index t.above.children in
      let here : weigh w (alone (trees_from place.index t.above.children)) ≡ times q (branch f key place t) = ap (λ x. weigh w (alone x)) t.here in
      let once = d.distinct q in
      omega arith

  distinct-branch : HasDistinctKeys (branch f key place t)
  distinct-branch x = omega (arith, apart-branch x, d.distinct x)

  module _ (new : Slab Entry) (hangs : Hangs (links_in nodes) (links_in new) place.parent (remove (listed (links_in nodes) place.parent) place.index) place.index) where
    hangs-left : Hangs (links_in nodes) (links_in new) place.parent (root_keys left) place.index
    hangs-left = subst (λ ks. Hangs (links_in nodes) (links_in new) place.parent ks place.index) lists hangs

    before-left : (index child : ℕ) → index < place.index → slice_get (root_keys left) index ≡ Some child → option_map (with_place place.parent index) (links_in nodes child) ≡ links_in nodes child
    before-left index child low e =
        let there : slice_get (root_keys t.above.children) index ≡ Some child = sym (before-cut place.index index t.above.children low) ∙ e in
        let zero_index : 0 + index ≡ index = omega arith in
        rw zero_index at (entries-placed (links_in nodes) t.above.children place.parent 0 index child (entries-children (links_in nodes) f None [] 0 place.parent t.above h.entries t.above_at) there)

    holds-put : Holds new root (put_children place.parent left f)
    holds-put = holds-hung nodes new root f place.parent left place.index t.above h t.above_at (bodies-cut (links_in nodes) place.index t.above.children (bodies-entries (links_in nodes) t.above.children (Some place.parent) 0 (entries-children (links_in nodes) f None [] 0 place.parent t.above h.entries t.above_at))) hangs-left before-left distinct-rest

    pub holds-rest : Holds new root (cut place f)
    holds-rest = subst (Holds new root) (sym t.rest) holds-put

    pub document-rest : IsKeyedDocument (cut place f)
    document-rest =
        let less = weigh-taken (λ (n : Keyed Node). 1) f key place d.distinct t in
        let few : size (put_children place.parent left f) < 2 ^ 64 = omega (arith, less, d.few, ap size t.rest) in
        subst IsKeyedDocument (sym t.rest) (document-put_children f place.parent left t.above d t.above_at t.element (sound-cut place.index t.above.children (sound-around f None [] place.parent t.above d.is_tree.sound t.above_at).0) distinct-rest few)

    -- the entries of what was taken out stay
    bodies-now : HasBodies (links_in new) (branch f key place t)
    bodies-now = bodies-frame (links_in nodes) (links_in new) (branch f key place t) (λ x more.
        hangs-left.others x
        (λ e. absurd (let there : 0 < times place.parent (branch f key place t) = subst (λ y. 0 < times y (branch f key place t)) e more in let none = parent-stays in omega arith))
        (λ index high e. absurd (
        let there : 0 < times x left = root-counted left index x e in
        let low : times x left ≤ times x (put_children place.parent left f) = (let more = weigh-put_children (λ (n : Keyed Node). cond (n.key == x) 1 0) f None [] place.parent left t.above d.distinct t.above_at in let inside = weigh-spot (λ (n : Keyed Node). cond (n.key == x) 1 0) f None [] place.parent t.above t.above_at in omega arith) in
        omega (arith, apart-branch x, d.distinct x, ap (times x) t.rest)
        ))) bodies-branch

    aside-branch : tree_in new key ≡ branch f key place t
    aside-branch = aside-is new key (branch f key place t) bodies-now refl distinct-branch

    pub is-taken-out : KeepsRooms nodes new → HasRoom new place.parent → IsTakenOut (record { tree = f; entries = nodes }) (record { tree = cut place f; entries = new }) key place
    is-taken-out rooms room =
        let now = spot-put_children f None [] place.parent left t.above d.distinct t.above_at in
        let label : label_of (cut place f) place.parent ≡ Some t.above.label = ap (λ g. label_of g place.parent) t.rest ∙ rw now refl in
        let children : children_of (cut place f) place.parent ≡ left = ap (λ g. children_of g place.parent) t.rest ∙ rw now refl in
        let long : length (root_keys left) + 1 ≡ length (root_keys t.above.children) = omega (arith, ap length (cut-roots place.index t.above.children), length-roots t.above.children, length-roots left, count-without place.index t.above.children (omega (arith, t.within, length-roots t.above.children))) in
        record {
          tree = refl;
          kept = record {
            bodies = subst (HasBodies (links_in new)) (sym aside-branch) bodies-now;
            root = ap root_keys aside-branch;
            apart = λ x. omega (arith, apart-branch x, d.distinct x, ap (times x) aside-branch);
            sound = subst (λ g. AreSound (without_keys g)) (sym aside-branch) (sound-tree t.own.label t.own.children Empty (sound-spot f None [] key t.own d.is_tree.sound t.own_at) (sound-around f None [] key t.own d.is_tree.sound t.own_at).0 tt);
          };
          nodes = aside-branch ∙ sym (branch-is f key place t);
          free = record {
            element = rw label t.element;
            within = omega (arith, t.within, ap (λ g. length (root_keys g)) children, long);
          };
          room = room;
          rooms = keeps-rooms-but nodes new place.parent place.index (root_keys left) f (cut place f) hangs-left rooms;
          back = back-in f key place (tree_in new key) d.distinct t aside-branch;
          entries = keeps-entries nodes new f (cut place f) rooms;
        }
