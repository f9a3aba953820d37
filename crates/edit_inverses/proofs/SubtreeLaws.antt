-- The tree of a node that is read from links, in tree order.
use Rattle.std.proofs.Common.{◌≡◌, ◌≢◌, ◌<◌, ◌≤◌, ◌+◌, ◌-◌, ◌⊎◌, IfSome, ℕ, Bool, true, false, IsTrue, List, [], ◌∷◌, ◌++◌, length, map, Option, Some, None, refl, sym, ap, ap₂, subst, ◌∙◌, inl, inr, arith, append_assoc, append-nil, length-append}
use Rattle.std.proofs.lemmas.Option.{none-some, same_Some}
use Rattle.std.proofs.lemmas.Bool.Decides.{nat_tests}
use Rattle.std.proofs.lemmas.List.{append_cancel_right, map-append}
use Rattle.forest.specs.Forest.{Forest, Empty, Tree}
use Rattle.forest.specs.Keys.{Keyed, without_keys}
use Rattle.forest.specs.Spots.{keyed, on_link, IsLive, label_of, parent_of, index_of, children_of, first_child_of, next_sibling_of}
use Rattle.forest.specs.Paths.{route_of}
use Rattle.forest.proofs.SpotLaws.{live-spot, on_first}
use Rattle.forest.proofs.StandLaws.{with_depths}
use Rattle.forest.proofs.PathLaws.{parent-live, route-child}
use Rattle.forest.proofs.WalkLaws.{after_tree}
use Rattle.forest.proofs.LevelLaws.{child-level, root-level, route-some, same-route_of}
use Rattle.plain_types.specs.Rows.{forest_of, row, rows}
use Rattle.plain_types.specs.declared.attr.Attr.{Attr}
use Rattle.plain_types.specs.declared.node.Node.{Node}
use Rattle.plain_types.specs.declared.node.Node.TheVariants.{Element, Text}
use Rattle.plain_types.specs.declared.row.Row.{Row}
use Rattle.plain_types.specs.Building.{Building, accepts_node, is_inside, is_whole}
use Rattle.node_arena.specs.Changes.{alone}
use Rattle.node_arena.specs.Copies.{PutsNode, inside_after}
use Rattle.node_arena.specs.Document.{IsKeyedDocument}
use Rattle.node_arena.proofs.RowFacts.{row_of, rows-with_depths}
use Rattle.node_arena.proofs.ToTree.{IsChildLink, first-link, left-element, left-end, left-text, left_of, sibling-link, sound-at, to_do}

-- Rows that are so many levels deeper.

abbrev pub deeper : ℕ → Row → Row
deeper levels one = row (levels + one.depth) one.node

deeper-rows : (levels depth : ℕ) (g : Forest Node) → map (deeper levels) (rows depth g) ≡ rows (levels + depth) g
deeper-rows levels depth Empty = refl
deeper-rows levels depth (Tree node children after) =
    let next : levels + (depth + 1) ≡ levels + depth + 1 = omega arith in
    ap (λ rest. row (levels + depth) node ∷ rest)
    (map-append (deeper levels) (rows (depth + 1) children) (rows depth after)
    ∙ ap₂ (λ front back. front ++ back) (deeper-rows levels (depth + 1) children ∙ ap (λ d. rows d children) next) (deeper-rows levels depth after))

same-depths : (levels : ℕ) (xs ys : List Row) → map (deeper levels) xs ≡ map (deeper levels) ys → xs ≡ ys
same-depths levels [] [] e = refl
same-depths levels [] (y ∷ ys) e = absurd (cc)
same-depths levels (x ∷ xs) [] e = absurd (cc)
same-depths levels (x ∷ xs) (y ∷ ys) e =
    let heads : deeper levels x ≡ deeper levels y = cc in
    let depths : levels + x.depth ≡ levels + y.depth = ap (λ (r : Row). r.depth) heads in
    let depth : x.depth ≡ y.depth = omega arith in
    let node : x.node ≡ y.node = ap (λ (r : Row). r.node) heads in
    let tails : map (deeper levels) xs ≡ map (deeper levels) ys = cc in
    ap₂ (λ (r : Row) (rest : List Row). r ∷ rest) (ap₂ row depth node) (same-depths levels xs ys tails)

-- Routes.

-- the way to a node, and then further
abbrev LeadsOn : List ℕ → List ℕ → Type 0
LeadsOn way longer = (more : List ℕ) × (longer ≡ way ++ more)

-- one step less of a longer way
shorter : (xs ys more : List ℕ) (last : ℕ) → xs ++ last ∷ [] ≡ ys ++ more → 0 < length more → LeadsOn ys xs
shorter xs [] more last e long = (xs, refl)
shorter [] (y ∷ ys) more last e long =
    let tails : [] ≡ ys ++ more = cc in
    absurd (omega (arith, ap length tails, length-append ys more))
shorter (x ∷ xs) (y ∷ ys) more last e long =
    let tails : xs ++ last ∷ [] ≡ ys ++ more = cc in
    let heads : x ≡ y = cc in
    let h = shorter xs ys more last tails long in
    (h.0, ap₂ (λ z rest. z ∷ rest) heads h.1)

module _ (f : Forest (Keyed Node)) (top : ℕ) where
  -- how deep the node is
  abbrev pub base : ℕ
  base = length (route_of f top) - 1

  -- its tree
  abbrev pub under : Forest Node
  under = without_keys (alone (on_link f (Some top)))

  -- its nodes so far are in, and a node is begun
  pub record IsBuiltUnder (built : Building) (inside : ℕ) (link : Option ℕ) : Type 0 where
    pub live : IsLive f inside
    pub below : IsChildLink f inside link
    pub within : LeadsOn (route_of f top) (route_of f inside)
    pub begun : base + built.inside ≡ length (route_of f inside)
    pub all : map (deeper base) built.rows ++ map row_of (left_of f inside link) ≡ rows base under ++ map row_of (after_tree f top)

  module _ (d : IsKeyedDocument f) (top_live : IsLive f top) where
    -- how long the way there is
    long : base + 1 ≡ length (route_of f top)
    long = omega (arith, route-some f top top_live)

    -- its rows, and what is left
    under-is : (label : Node) → Some label ≡ label_of f top → under ≡ Tree label (without_keys (children_of f top)) Empty
    under-is label is =
        let s = live-spot f top top_live in
        let same : label ≡ s.0.label = same_Some _ _ (rw s.1 at is) in
        rw (s.1, same) refl

    begin-all : (label : Node) → Some label ≡ label_of f top → row base label ∷ map row_of (left_of f top (first_child_of f top)) ≡ rows base under ++ map row_of (after_tree f top)
    begin-all label is =
        let inner : List (ℕ × Keyed Node) = with_depths (base + 1) (children_of f top) in
        let rest : List (ℕ × Keyed Node) = after_tree f top in
        ap₂ (λ (depth : ℕ) (g : Forest (Keyed Node)). row base label ∷ map row_of (with_depths depth g ++ rest)) (sym long) (on_first f top d.distinct top_live).0
        ∙ ap (λ rs. row base label ∷ rs) (map-append row_of inner rest)
        ∙ ap (λ rs. row base label ∷ (rs ++ map row_of rest)) (sym (rows-with_depths (base + 1) (children_of f top)) ∙ sym (append-nil (rows (base + 1) (without_keys (children_of f top)))))
        ∙ ap (λ g. rows base g ++ map row_of rest) (sym (under-is label is))

    -- the node itself is put
    module _ (built new : Building) (none : built ≡ record { rows = []; inside = 0 }) where
      put-top : (label : Node) (element : Bool) → Some label ≡ label_of f top → PutsNode built new label element → new ≡ record { rows = row 0 label ∷ []; inside = inside_after label 0 }
      put-top label element is puts = puts.built ∙ ap (λ (b : Building). record { rows = b.rows ++ row b.inside label ∷ []; inside = inside_after label b.inside }) none

      abbrev pub Begun : Type 0
      Begun = IsBuiltUnder new top (first_child_of f top)

      abbrev pub Whole : Type 0
      Whole = (new.rows ≡ rows 0 under) × (new.inside ≡ 0)

      top-node : (label : Node) (element : Bool) → Some label ≡ label_of f top → PutsNode built new label element → (element ≡ true → Begun) × (element ≡ false → Whole)
      top-node (Element name attrs) element is puts =
          let own = put-top (Element name attrs) element is puts in
          let zero : base + 0 ≡ base = omega arith in (
            (λ e. record {
              live = top_live;
              below = first-link f top d.distinct top_live;
              within = ([], sym (append-nil (route_of f top)));
              begun = ap (λ (b : Building). base + b.inside) own ∙ long;
              all =
                  ap (λ (b : Building). map (deeper base) b.rows ++ map row_of (left_of f top (first_child_of f top))) own
                  ∙ ap (λ depth. row depth (Element name attrs) ∷ map row_of (left_of f top (first_child_of f top))) zero
                  ∙ begin-all (Element name attrs) is;
            }),
            (λ e. absurd (let h : element ≡ true = puts.kind in cc)),
          )
      top-node (Text characters) element is puts =
          let own = put-top (Text characters) element is puts in
          let childless = sound-at f top (Text characters) d top_live is in (
            (λ e. absurd (let h : element ≡ false = puts.kind in cc)),
            (λ e. (
              ap (λ (b : Building). b.rows) own ∙ ap (λ g. rows 0 g) (sym (under-is (Text characters) is ∙ ap (λ g. Tree (Text characters) (without_keys g) Empty) childless)),
              ap (λ (b : Building). b.inside) own,
            )),
          )

      pub begin : (element : Bool) → IfSome (label_of f top) (λ node. PutsNode built new node element) → (element ≡ true → Begun) × (element ≡ false → Whole)
      begin element puts =
          let s = live-spot f top top_live in
          let label : label_of f top ≡ Some s.0.label = rw s.1 refl in
          top-node s.0.label element (sym label) (subst (λ (o : Option Node). IfSome o (λ node. PutsNode built new node element)) label puts)

    -- a node is put
    module _ (built new : Building) (inside key : ℕ) (so_far : IsBuiltUnder built inside (Some key)) where
      put-all : (node : Node) (element : Bool) (link : Option ℕ) (below : ℕ) → PutsNode built new node element
          → left_of f inside (Some key) ≡ (length (route_of f inside), keyed key node) ∷ left_of f below link
          → map (deeper base) new.rows ++ map row_of (left_of f below link) ≡ rows base under ++ map row_of (after_tree f top)
      put-all node element link below puts is =
          let rest : List Row = map row_of (left_of f below link) in
          ap (λ (b : Building). map (deeper base) b.rows ++ rest) puts.built
          ∙ ap (λ rs. rs ++ rest) (map-append (deeper base) built.rows (row built.inside node ∷ []))
          ∙ append_assoc (map (deeper base) built.rows) (row (base + built.inside) node ∷ []) rest
          ∙ ap (λ depth. map (deeper base) built.rows ++ row depth node ∷ rest) so_far.begun
          ∙ ap (λ left. map (deeper base) built.rows ++ map row_of left) (sym is)
          ∙ so_far.all

      abbrev pub Begins : Type 0
      Begins = IsBuiltUnder new key (first_child_of f key) × (to_do f key (first_child_of f key) < to_do f inside (Some key))

      abbrev pub Passes : Type 0
      Passes = IsBuiltUnder new inside (next_sibling_of f key) × (to_do f inside (next_sibling_of f key) < to_do f inside (Some key))

      begins : (name : List ℕ) (attrs : List Attr) (element : Bool) → Some (Element name attrs) ≡ label_of f key → PutsNode built new (Element name attrs) element → Begins
      begins name attrs element is puts =
          let live = so_far.below.0 in
          let up = so_far.below.1 in
          let left = left-element f d inside key (Element name attrs) live up is in
          let level = child-level f key inside d.distinct live up in
          let more = so_far.within.0 in (
            record {
              live = live;
              below = first-link f key d.distinct live;
              within = (
                more ++ index_of f key ∷ [],
                route-child f key inside d.distinct live up ∙ ap (λ way. way ++ index_of f key ∷ []) so_far.within.1 ∙ append_assoc (route_of f top) more (index_of f key ∷ []),
              );
              begun = ap (λ (b : Building). base + b.inside) puts.built ∙ omega (arith, so_far.begun, level);
              all = put-all (Element name attrs) element (first_child_of f key) key puts left;
            },
            omega (arith, ap length left, level),
          )

      passes : (characters : List ℕ) (element : Bool) → Some (Text characters) ≡ label_of f key → PutsNode built new (Text characters) element → Passes
      passes characters element is puts =
          let live = so_far.below.0 in
          let up = so_far.below.1 in
          let left = left-text f d inside key (Text characters) live up is (sound-at f key (Text characters) d live is) in (
            record {
              live = so_far.live;
              below = sibling-link f key inside d.distinct live up;
              within = so_far.within;
              begun = ap (λ (b : Building). base + b.inside) puts.built ∙ so_far.begun;
              all = put-all (Text characters) element (next_sibling_of f key) inside puts left;
            },
            omega (arith, ap length left),
          )

      turn-node : (node : Node) (element : Bool) → Some node ≡ label_of f key → PutsNode built new node element → (element ≡ true → Begins) × (element ≡ false → Passes)
      turn-node (Element name attrs) element is puts = ((λ e. begins name attrs element is puts), (λ e. absurd (let h : element ≡ true = puts.kind in cc)))
      turn-node (Text characters) element is puts = ((λ e. absurd (let h : element ≡ false = puts.kind in cc)), (λ e. passes characters element is puts))

      pub turn : (element : Bool) → IfSome (label_of f key) (λ node. PutsNode built new node element) → (element ≡ true → Begins) × (element ≡ false → Passes)
      turn element puts =
          let s = live-spot f key so_far.below.0 in
          let label : label_of f key ≡ Some s.0.label = rw s.1 refl in
          turn-node s.0.label element (sym label) (subst (λ (o : Option Node). IfSome o (λ node. PutsNode built new node element)) label puts)

    -- an element is begun
    pub some-begun : (built : Building) (inside : ℕ) (link : Option ℕ) → IsBuiltUnder built inside link → 0 < built.inside
    some-begun built inside link so_far = omega (arith, so_far.begun, long, ap length so_far.within.1, length-append (route_of f top) so_far.within.0)

    -- it ends, and isn't the node itself
    pub ends : (built new : Building) (inside parent : ℕ) → IsBuiltUnder built inside None → inside ≢ top → parent_of f inside ≡ Some parent → new ≡ record { rows = built.rows; inside = built.inside - 1 }
        → IsBuiltUnder new parent (next_sibling_of f inside) × (to_do f parent (next_sibling_of f inside) < to_do f inside None)
    ends built new inside parent so_far other up is =
        let left = left-end f d inside parent so_far.live up in
        let level = child-level f inside parent d.distinct so_far.live up in
        let some = some-begun built inside None so_far in (
          record {
            live = parent-live f inside parent d.distinct so_far.live up;
            below = sibling-link f inside parent d.distinct so_far.live up;
            within =
                shorter (route_of f parent) (route_of f top) so_far.within.0 (index_of f inside)
                (sym (route-child f inside parent d.distinct so_far.live up) ∙ so_far.within.1) (further so_far.within.0 so_far.within.1);
            begun = ap (λ (b : Building). base + b.inside) is ∙ omega (arith, so_far.begun, level, some);
            all = ap (λ (b : Building). map (deeper base) b.rows ++ map row_of (left_of f parent (next_sibling_of f inside))) is ∙ ap (λ rest. map (deeper base) built.rows ++ map row_of rest) (sym left) ∙ so_far.all;
          },
          omega (arith, ap length left, level),
        )
      where
        further : (more : List ℕ) → route_of f inside ≡ route_of f top ++ more → 0 < length more
        further [] way = absurd (other (same-route_of f inside top so_far.live top_live (way ∙ append-nil (route_of f top))))
        further (m ∷ more) way = omega arith

    -- the node itself ends
    pub ends-top : (inside : ℕ) → IsLive f inside → LeadsOn (route_of f top) (route_of f inside) → (inside ≡ top) ⊎ (parent_of f inside ≡ None) → inside ≡ top
    ends-top inside live within (inl same) = same
    ends-top inside live within (inr none) = here within.0 within.1
      where
        here : (more : List ℕ) → route_of f inside ≡ route_of f top ++ more → inside ≡ top
        here [] way = same-route_of f inside top live top_live (way ∙ append-nil (route_of f top))
        here (m ∷ more) way = absurd (omega (arith, root-level f inside d.distinct live none, ap length way, length-append (route_of f top) (m ∷ more), route-some f top top_live))

    pub finished : (built new : Building) (inside : ℕ) → IsBuiltUnder built inside None → (inside ≡ top) ⊎ (parent_of f inside ≡ None) → new ≡ record { rows = built.rows; inside = built.inside - 1 } → (new.rows ≡ rows 0 under) × (new.inside ≡ 0)
    finished built new inside so_far done is =
        let same = ends-top inside so_far.live so_far.within done in
        let none : map row_of (left_of f inside None) ≡ map row_of (after_tree f top) = ap (λ k. map row_of (after_tree f k)) same in
        let all : map (deeper base) built.rows ≡ rows base under =
        append_cancel_right (map (deeper base) built.rows) (rows base under) (map row_of (after_tree f top)) (ap (λ rest. map (deeper base) built.rows ++ rest) (sym none) ∙ so_far.all) in
        let zero : base + 0 ≡ base = omega arith in
        let level : length (route_of f inside) ≡ length (route_of f top) = ap (λ k. length (route_of f k)) same in (
          ap (λ (b : Building). b.rows) is ∙ same-depths base built.rows (rows 0 under) (all ∙ sym (deeper-rows base 0 under ∙ ap (λ depth. rows depth under) zero)),
          ap (λ (b : Building). b.inside) is ∙ omega (arith, so_far.begun, long, level),
        )

    -- the tree is whole then
    pub is-whole : (built : Building) → (built.rows ≡ rows 0 under) × (built.inside ≡ 0) → IsTrue (is_whole built)
    is-whole built all =
        let s = live-spot f top top_live in
        let label : Some s.0.label ≡ label_of f top = rw s.1 refl in
        let some : 0 < length built.rows = rw (all.0, under-is s.0.label label) (omega arith) in
        let none : built.inside ≡ 0 = all.1 in
        grind (arith, nat_tests)

pub does-accept : (built : Building) → 0 < built.inside → IsTrue (accepts_node built)
does-accept built some = grind (arith, nat_tests)

pub is-begun : (built : Building) → 0 < built.inside → IsTrue (is_inside built)
is-begun built some = grind (arith, nat_tests)
