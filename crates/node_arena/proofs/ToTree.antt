-- A tree that is read from links, in tree order.
use Rattle.std.proofs.Common.{◌≡◌, ◌==◌, ◌<◌, ◌+◌, ◌-◌, ◌*◌, IfSome, ℕ, Bool, true, false, IsTrue, List, [], ◌∷◌, ◌++◌, length, map, Option, Some, None, refl, sym, ap, ap₂, subst, ◌∙◌, inl, inr, arith, append_assoc, append-nil}
use Rattle.std.proofs.lemmas.Option.{none-some, same_Some}
use Rattle.std.proofs.lemmas.Bool.Decides.{nat_tests}
use Rattle.forest.specs.Forest.{Forest, Empty, Tree}
use Rattle.forest.specs.Keys.{Keyed, without_keys, HasDistinctKeys}
use Rattle.forest.specs.Spots.{Spot, keyed, first_key, spot, spot_of, on_link, IsLive, label_of, parent_of, children_of, after_of, first_child_of, next_sibling_of}
use Rattle.forest.specs.Paths.{route_of}
use Rattle.forest.proofs.SpotLaws.{chosen, first_found, live-spot, the_spot, spot-child, spot-next, spot-root, on_first, on_next, on_key}
use Rattle.forest.proofs.StandLaws.{with_depths, follow-root}
use Rattle.forest.proofs.PathLaws.{parent-live}
use Rattle.forest.proofs.SiblingLaws.{root-alone}
use Rattle.forest.proofs.WalkLaws.{after_tree, left-under, left-nothing}
use Rattle.forest.proofs.LevelLaws.{child-level, root-level, route-some}
use Rattle.plain_types.specs.Rows.{row, rows}
use Rattle.plain_types.specs.Tree.{IsTree, AreSound, HasDistinctNames}
use Rattle.plain_types.specs.declared.attr.Attr.{Attr}
use Rattle.plain_types.specs.declared.node.Node.{Node}
use Rattle.plain_types.specs.declared.node.Node.TheVariants.{Element, Text}
use Rattle.plain_types.specs.Building.{Building, accepts_node, is_inside, is_whole}
use Rattle.node_arena.specs.Document.{IsKeyedDocument, HasElementRoot}
use Rattle.node_arena.specs.Copies.{PutsNode, inside_after}
use Rattle.node_arena.proofs.EntryLaws.{one-tree}
use Rattle.node_arena.proofs.RowFacts.{row_of, rows-with_depths}

-- what is so of a node in a sound tree
abbrev pub IsSoundAt : Node → Forest (Keyed Node) → Type 0
IsSoundAt (Element name attrs) children = HasDistinctNames attrs
IsSoundAt (Text characters) children = children ≡ Empty

no-labels : (f : Forest (Keyed Node)) → without_keys f ≡ Empty → f ≡ Empty
no-labels Empty e = refl
no-labels (Tree n c r) e = absurd (let e' : Tree n.label (without_keys c) (without_keys r) ≡ Empty = e in cc)

pub sound-root : (node : Node) (c : Forest (Keyed Node)) (r : Forest Node) → AreSound (Tree node (without_keys c) r) → IsSoundAt node c × AreSound (without_keys c) × AreSound r
sound-root (Element name attrs) c r h = (h.0, h.1, h.2)
sound-root (Text characters) c r h = (no-labels c h.0, subst AreSound (sym h.0) tt, h.1)

pub sound-spot : (f : Forest (Keyed Node)) (p : Option ℕ) (e : List (Keyed Node)) (q : ℕ) (s : Spot Node) → AreSound (without_keys f) → spot p e f q ≡ Some s → IsSoundAt s.label s.children
sound-spot Empty p e q s h is = absurd (none-some s is)
sound-spot (Tree n c r) p e q s h is =
    let parts = sound-root n.label c (without_keys r) h in
    elim (chosen (n.key == q) _ _ _ is) [
      | inl a ↦ subst (λ (t : Spot Node). IsSoundAt t.label t.children) (same_Some _ _ a.1) parts.0
      | inr a ↦ elim (first_found _ _ s a.1) [
        | inl b ↦ sound-spot c (Some n.key) [] q s parts.1 b
        | inr b ↦ sound-spot r p (e ++ n ∷ []) q s parts.2 b.1
      ]
    ]

pub sound-at : (f : Forest (Keyed Node)) (q : ℕ) (node : Node) → IsKeyedDocument f → IsLive f q → Some node ≡ label_of f q → IsSoundAt node (children_of f q)
sound-at f q node d live is =
    let s = live-spot f q live in
    let same : node ≡ s.0.label = same_Some _ _ (rw s.1 at is) in
    rw (s.1, same) (sound-spot f None [] q s.0 d.is_tree.sound s.1)

-- Links among the children of a node.

abbrev pub IsChildLink : Forest (Keyed Node) → ℕ → Option ℕ → Type 0
IsChildLink f inside None = Unit {0}
IsChildLink f inside (Some key) = IsLive f key × (parent_of f key ≡ Some inside)

child-link : (f : Forest (Keyed Node)) (q : ℕ) (s : Spot Node) (g : Forest (Keyed Node)) → HasDistinctKeys f → spot_of f q ≡ Some s → s.children ≡ g → IsChildLink f q (first_key g)
child-link f q s Empty d at is = tt
child-link f q s (Tree m c r) d at is = let e = spot-child f None [] q s m c r d at is in (rw e refl, rw e refl)

next-link : (f : Forest (Keyed Node)) (q x : ℕ) (s : Spot Node) (g : Forest (Keyed Node)) → HasDistinctKeys f → spot_of f q ≡ Some s → s.parent ≡ Some x → s.after ≡ g → IsChildLink f x (first_key g)
next-link f q x s Empty d at up is = tt
next-link f q x s (Tree m c r) d at up is = let e = spot-next f None [] q s m c r d at is in (rw e refl, rw e up)

pub first-link : (f : Forest (Keyed Node)) (q : ℕ) → HasDistinctKeys f → IsLive f q → IsChildLink f q (first_child_of f q)
first-link f q d live = let s = live-spot f q live in rw s.1 (child-link f q s.0 s.0.children d s.1 refl)

pub sibling-link : (f : Forest (Keyed Node)) (q x : ℕ) → HasDistinctKeys f → IsLive f q → parent_of f q ≡ Some x → IsChildLink f x (next_sibling_of f q)
sibling-link f q x d live up = let s = live-spot f q live in rw s.1 (next-link f q x s.0 s.0.after d s.1 (rw s.1 at up) refl)

-- what is left to do: the trees on a link among the children of a node, and what is left after that node's tree
abbrev pub left_of : Forest (Keyed Node) → ℕ → Option ℕ → List (ℕ × Keyed Node)
left_of f inside link = with_depths (length (route_of f inside)) (on_link f link) ++ after_tree f inside

-- the nodes so far are in, and a node is begun
pub record IsBuilt (f : Forest (Keyed Node)) (built : Building) (inside : ℕ) (link : Option ℕ) : Type 0 where
  pub live : IsLive f inside
  pub begun : built.inside ≡ length (route_of f inside)
  pub under : IsChildLink f inside link
  pub all : built.rows ++ map row_of (left_of f inside link) ≡ rows 0 (without_keys f)

-- how much is left to do
abbrev pub to_do : Forest (Keyed Node) → ℕ → Option ℕ → ℕ
to_do f inside link = 2 * length (left_of f inside link) + length (route_of f inside)

module _ (f : Forest (Keyed Node)) (d : IsKeyedDocument f) where
  -- a node of what is left, and the rest
  left-key : (inside key : ℕ) (node : Node) → IsLive f key → parent_of f key ≡ Some inside → Some node ≡ label_of f key
      → left_of f inside (Some key) ≡ (length (route_of f inside), keyed key node) ∷ (with_depths (length (route_of f inside) + 1) (children_of f key) ++ after_tree f key)
  left-key inside key node live up is =
      let b = length (route_of f inside) in
      let inner : List (ℕ × Keyed Node) = with_depths (b + 1) (children_of f key) in
      ap (λ g. with_depths b g ++ after_tree f inside) (on_key f key node live is)
      ∙ ap (λ rest. (b, keyed key node) ∷ rest)
      (append_assoc inner (with_depths b (after_of f key)) (after_tree f inside) ∙ ap (λ rest. inner ++ rest) (sym (left-under f key inside d.distinct live up)))

  pub left-element : (inside key : ℕ) (node : Node) → IsLive f key → parent_of f key ≡ Some inside → Some node ≡ label_of f key → left_of f inside (Some key) ≡ (length (route_of f inside), keyed key node) ∷ left_of f key (first_child_of f key)
  left-element inside key node live up is =
      left-key inside key node live up is
      ∙ ap₂ (λ (depth : ℕ) (g : Forest (Keyed Node)). (length (route_of f inside), keyed key node) ∷ (with_depths depth g ++ after_tree f key))
      (sym (child-level f key inside d.distinct live up)) (sym (on_first f key d.distinct live).0)

  pub left-text : (inside key : ℕ) (node : Node) → IsLive f key → parent_of f key ≡ Some inside → Some node ≡ label_of f key → children_of f key ≡ Empty → left_of f inside (Some key) ≡ (length (route_of f inside), keyed key node) ∷ left_of f inside (next_sibling_of f key)
  left-text inside key node live up is none =
      left-key inside key node live up is
      ∙ ap (λ (g : Forest (Keyed Node)). (length (route_of f inside), keyed key node) ∷ (with_depths (length (route_of f inside) + 1) g ++ after_tree f key)) none
      ∙ ap (λ rest. (length (route_of f inside), keyed key node) ∷ rest)
      (left-under f key inside d.distinct live up ∙ ap (λ g. with_depths (length (route_of f inside)) g ++ after_tree f inside) (sym (on_next f key d.distinct live).0))

  pub left-end : (inside parent : ℕ) → IsLive f inside → parent_of f inside ≡ Some parent → left_of f inside None ≡ left_of f parent (next_sibling_of f inside)
  left-end inside parent live up = left-under f inside parent d.distinct live up ∙ ap (λ g. with_depths (length (route_of f parent)) g ++ after_tree f parent) (sym (on_next f inside d.distinct live).0)

  -- a node is put
  module _ (built new : Building) (inside key : ℕ) (so_far : IsBuilt f built inside (Some key)) where
    put-all : (node : Node) (element : Bool) (link : Option ℕ) (below : ℕ) → PutsNode built new node element → left_of f inside (Some key) ≡ (length (route_of f inside), keyed key node) ∷ left_of f below link → new.rows ++ map row_of (left_of f below link) ≡ rows 0 (without_keys f)
    put-all node element link below puts is =
        ap (λ b. b.rows ++ map row_of (left_of f below link)) puts.built
        ∙ append_assoc built.rows (row built.inside node ∷ []) (map row_of (left_of f below link))
        ∙ ap (λ depth. built.rows ++ row depth node ∷ map row_of (left_of f below link)) so_far.begun
        ∙ ap (λ rest. built.rows ++ map row_of rest) (sym is)
        ∙ so_far.all

    abbrev pub Begins : Type 0
    Begins = IsBuilt f new key (first_child_of f key) × (to_do f key (first_child_of f key) < to_do f inside (Some key))

    abbrev pub Passes : Type 0
    Passes = IsBuilt f new inside (next_sibling_of f key) × (to_do f inside (next_sibling_of f key) < to_do f inside (Some key))

    begins : (name : List ℕ) (attrs : List Attr) (element : Bool) → Some (Element name attrs) ≡ label_of f key → PutsNode built new (Element name attrs) element → Begins
    begins name attrs element is puts =
        let live = so_far.under.0 in
        let up = so_far.under.1 in
        let left = left-element inside key (Element name attrs) live up is in
        let level = child-level f key inside d.distinct live up in (
          record {
            live = live;
            begun = ap (λ b. b.inside) puts.built ∙ ap (λ b. b + 1) so_far.begun ∙ sym level;
            under = first-link f key d.distinct live;
            all = put-all (Element name attrs) element (first_child_of f key) key puts left;
          },
          omega (arith, ap length left, level),
        )

    passes : (characters : List ℕ) (element : Bool) → Some (Text characters) ≡ label_of f key → PutsNode built new (Text characters) element → Passes
    passes characters element is puts =
        let live = so_far.under.0 in
        let up = so_far.under.1 in
        let left = left-text inside key (Text characters) live up is (sound-at f key (Text characters) d live is) in (
          record {
            live = so_far.live;
            begun = ap (λ b. b.inside) puts.built ∙ so_far.begun;
            under = sibling-link f key inside d.distinct live up;
            all = put-all (Text characters) element (next_sibling_of f key) inside puts left;
          },
          omega (arith, ap length left),
        )

    turn-node : (node : Node) (element : Bool) → Some node ≡ label_of f key → PutsNode built new node element → (element ≡ true → Begins) × (element ≡ false → Passes)
    turn-node (Element name attrs) element is puts = ((λ e. begins name attrs element is puts), (λ e. absurd (let h : element ≡ true = puts.kind in cc)))
    turn-node (Text characters) element is puts = ((λ e. absurd (let h : element ≡ false = puts.kind in cc)), (λ e. passes characters element is puts))

    pub turn : (element : Bool) → IfSome (label_of f key) (λ node. PutsNode built new node element) → (element ≡ true → Begins) × (element ≡ false → Passes)
    turn element puts =
        let s = live-spot f key so_far.under.0 in
        let label : label_of f key ≡ Some s.0.label = rw s.1 refl in
        turn-node s.0.label element (sym label) (subst (λ (o : Option Node). IfSome o (λ node. PutsNode built new node element)) label puts)

  -- an element ends
  pub ends : (built new : Building) (inside parent : ℕ) → IsBuilt f built inside None → parent_of f inside ≡ Some parent → new ≡ record { rows = built.rows; inside = built.inside - 1 } → IsBuilt f new parent (next_sibling_of f inside) × (to_do f parent (next_sibling_of f inside) < to_do f inside None)
  ends built new inside parent so_far up is =
      let left = left-end inside parent so_far.live up in
      let level = child-level f inside parent d.distinct so_far.live up in (
        record {
          live = parent-live f inside parent d.distinct so_far.live up;
          begun = ap (λ b. b.inside) is ∙ omega (arith, so_far.begun, level);
          under = sibling-link f inside parent d.distinct so_far.live up;
          all = ap (λ b. b.rows ++ map row_of (left_of f parent (next_sibling_of f inside))) is ∙ ap (λ rest. built.rows ++ map row_of rest) (sym left) ∙ so_far.all;
        },
        omega (arith, ap length left, level),
      )

  -- the root ends
  pub finished : (built : Building) (inside : ℕ) → IsBuilt f built inside None → parent_of f inside ≡ None → (built.rows ≡ rows 0 (without_keys f)) × (built.inside ≡ 1)
  finished built inside so_far top =
      let alone = root-alone f inside d.distinct (one-tree f d) so_far.live top in
      let none : left_of f inside None ≡ [] = left-nothing f inside d.distinct so_far.live alone.1 top in
      (sym (append-nil built.rows) ∙ ap (λ rest. built.rows ++ map row_of rest) (sym none) ∙ so_far.all, so_far.begun ∙ root-level f inside d.distinct so_far.live top)

some-rows : (g : Forest Node) → IsTree g → 0 < length (rows 0 g)
some-rows Empty is = absurd is.one
some-rows (Tree node children after) is = omega arith

pub is-whole : (f : Forest (Keyed Node)) (built new : Building) → IsKeyedDocument f → (built.rows ≡ rows 0 (without_keys f)) × (built.inside ≡ 1) → new ≡ record { rows = built.rows; inside = built.inside - 1 } → IsTrue (is_whole new)
is-whole f built new d all is =
    let some : 0 < length (rows 0 (without_keys f)) = some-rows (without_keys f) d.is_tree in
    let long : length new.rows ≡ length (rows 0 (without_keys f)) = ap (λ b. length b.rows) is ∙ ap length all.0 in
    let none : new.inside ≡ 0 = ap (λ b. b.inside) is ∙ omega (arith, all.1) in
    grind (arith, nat_tests)

pub does-accept : (built : Building) → 0 < built.inside → IsTrue (accepts_node built)
does-accept built some = grind (arith, nat_tests)

pub is-begun : (built : Building) → 0 < built.inside → IsTrue (is_inside built)
is-begun built some = grind (arith, nat_tests)

pub some-begun : (f : Forest (Keyed Node)) (built : Building) (inside : ℕ) (link : Option ℕ) → IsBuilt f built inside link → 0 < built.inside
some-begun f built inside link so_far = omega (arith, so_far.begun, route-some f inside so_far.live)

element-begun : (node : Node) (children after : Forest Node) → HasElementRoot (Tree node children after) → inside_after node 0 ≡ 1
element-begun (Element name attrs) children after h = omega arith
element-begun (Text characters) children after h = absurd h

-- the root is put
root-node : (f : Forest (Keyed Node)) (built new : Building) (root : ℕ) (node : Node) (element : Bool) → IsKeyedDocument f → Some root ≡ first_key f → built ≡ record { rows = []; inside = 0 } → Some node ≡ label_of f root → PutsNode built new node element → IsBuilt f new root (first_child_of f root)
root-node Empty built new root node element d is none label puts = absurd d.is_tree.one
root-node (Tree n c (Tree m i r)) built new root node element d is none label puts = absurd (let e : Tree m i r ≡ Empty = one-tree (Tree n c (Tree m i r)) d in cc)
root-node (Tree n c Empty) built new root node element d is none label puts =
    let f : Forest (Keyed Node) = Tree n c Empty in
    let key : n.key ≡ root = sym (same_Some _ _ is) in
    let at : spot_of f n.key ≡ Some (the_spot None [] n.label c Empty) = spot-root None [] n c Empty in
    let live : IsLive f n.key = rw at refl in
    let same : node ≡ n.label = same_Some _ _ (label ∙ ap (label_of f) (sym key) ∙ rw at refl) in
    let level : length (route_of f n.key) ≡ 1 = root-level f n.key d.distinct live (rw at refl) in
    subst (λ k. IsBuilt f new k (first_child_of f k)) key (record {
      live = live;
      begun = ap (λ b. b.inside) puts.built ∙ ap (inside_after node) (ap (λ b. b.inside) none) ∙ ap (λ m. inside_after m 0) same ∙ element-begun n.label (without_keys c) Empty d.element ∙ sym level;
      under = first-link f n.key d.distinct live;
      all =
          ap (λ b. b.rows ++ map row_of (left_of f n.key (first_child_of f n.key))) (puts.built ∙ ap (λ (b : Building). record { rows = b.rows ++ row b.inside node ∷ []; inside = inside_after node b.inside }) none)
          ∙ ap₂ (λ (depth : ℕ) (g : Forest (Keyed Node)). row 0 node ∷ map row_of (with_depths depth g ++ after_tree f n.key)) level ((on_first f n.key d.distinct live).0 ∙ rw at refl)
          ∙ ap (λ rest. row 0 node ∷ map row_of (with_depths 1 c ++ rest)) (rw (follow-root 0 n c Empty) refl)
          ∙ ap (λ m. row 0 m ∷ map row_of (with_depths 1 c ++ [])) same
          ∙ sym (rows-with_depths 0 f);
    })

pub begun-root : (f : Forest (Keyed Node)) (built new : Building) (root : ℕ) (element : Bool) → IsKeyedDocument f → Some root ≡ first_key f → IsLive f root → built ≡ record { rows = []; inside = 0 } → IfSome (label_of f root) (λ node. PutsNode built new node element) → IsBuilt f new root (first_child_of f root)
begun-root f built new root element d is live none puts =
    let s = live-spot f root live in
    let label : label_of f root ≡ Some s.0.label = rw s.1 refl in
    root-node f built new root s.0.label element d is none (sym label) (subst (λ (o : Option Node). IfSome o (λ node. PutsNode built new node element)) label puts)
