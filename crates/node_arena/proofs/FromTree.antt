-- A tree that is put into entries from its first node to its last.
use Rattle.std.proofs.Common.{◌≡◌, ◌==◌, ◌<◌, ◌≤◌, ◌+◌, ℕ, zero, suc, true, false, cond, List, [], ◌∷◌, ◌++◌, length, map, take, get_or, Some, None, option_map, slice_get, refl, sym, ap, ap₂, subst, ◌∙◌, arith, take_all, Bor}
use Rattle.std.proofs.lemmas.List.{map-append, length-map, take_more, take-map}
use Rattle.forest.specs.Forest.{Forest, Empty, Tree}
use Rattle.forest.specs.Keys.{Keyed, without_keys, keys, times}
use Rattle.forest.specs.Spots.{keyed}
use Rattle.forest.proofs.StandLaws.{with_depths}
use Rattle.forest.proofs.GrowLaws.{grow, spine, depths-grow, spine-grow, grow-under}
use Rattle.slab.specs.Slab.{Slab, ContainsKey, slab_len, Updates}
use Rattle.plain_types.specs.Rows.{row, rows}
use Rattle.plain_types.specs.Tree.{IsTree}
use Rattle.plain_types.specs.View.{Shows}
use Rattle.plain_types.specs.declared.attr.Attr.{Attr}
use Rattle.plain_types.specs.declared.node.Node.{Node}
use Rattle.plain_types.specs.declared.node.Node.TheVariants.{Element, Text}
use Rattle.plain_types.specs.declared.node.NodeView.{NodeView}
use Rattle.plain_types.specs.declared.node.NodeView.TheVariants as view
use Rattle.plain_types.specs.declared.row.Row.{Row}
use Rattle.plain_types.proofs.ForestLemmas.{rows_same}
use Rattle.node_arena.specs.declared.entry.Entry.{Entry}
use Rattle.node_arena.specs.Copies.{shown_node}
use Rattle.node_arena.specs.Document.{HasElementRoot}
use Rattle.node_arena.specs.Entries.{links_of, links_in, Holds, Appends}
use Rattle.node_arena.proofs.EntryLaws.{holds-appended, entry-there}
use Rattle.node_arena.proofs.RowFacts.{row_of, rows-with_depths, not-root-row, row-within, length-spine}
use Rattle.forest.proofs.WalkLaws.{names, names-with_depths}
use Rattle.forest.proofs.SpotLaws.{spot-counted}
use Rattle.node_arena.proofs.CountLaws.{found, found-keys}

abbrev pub keys_of : List (Keyed Node) → List ℕ
keys_of nodes = map (λ (node : Keyed Node). node.key) nodes

-- the nodes before this place are in, under these keys, and the open keys are those on the way to the last
pub record IsSoFar (nodes : Slab Entry) (root : ℕ) (open_keys all_keys : List ℕ) (place : ℕ) (tree : Forest Node) : Type 0 where
  pub so_far : Forest (Keyed Node)
  pub holds : Holds nodes root so_far
  pub shown : rows 0 (without_keys so_far) ≡ take place (rows 0 tree)
  pub way : open_keys ≡ keys_of (spine so_far)
  pub listed : all_keys ≡ keys so_far

-- what a view shows
pub shown-is : (node : Node) (view : NodeView) → Shows node view → shown_node view ≡ node
shown-is (Element name attrs) (view.Element shown_name shown_attrs) h = ap₂ (λ (n : List ℕ) (a : List Attr). Element n a) h.0.read h.1
shown-is (Element name attrs) (view.Text shown) h = absurd h
shown-is (Text characters) (view.Element shown_name shown_attrs) h = absurd h
shown-is (Text characters) (view.Text shown) h = ap (λ c. Text c) h.read

-- the node that a key on the way names
pub on-way : (way : List (Keyed Node)) (d k parent : ℕ) → d ≡ k + 1 → d ≤ length way → parent ≡ get_or (take d (keys_of way)) k parent → (node : Keyed Node) × (slice_get way k ≡ Some node) × (node.key ≡ parent)
on-way [] d k parent is long e = absurd (omega arith)
on-way (n ∷ rest) zero k parent is long e = absurd (omega arith)
on-way (n ∷ rest) (suc d) zero parent is long e = (n, refl, sym e)
on-way (n ∷ rest) (suc d) (suc k) parent is long e = on-way rest d k parent (omega arith) (omega arith) e

-- a place behind the root is in a node on the way
pub deep : (nodes : Slab Entry) (root : ℕ) (open_keys all_keys : List ℕ) (place : ℕ) (tree : Forest Node) (d : ℕ) (one : Row) → (s : IsSoFar nodes root open_keys all_keys place tree) → IsTree tree → 1 ≤ place → place < length (rows 0 tree) → d ≡ (get_or (rows 0 tree) place one).depth → (1 ≤ d) × (d ≤ length open_keys) × (d ≤ length (spine s.so_far))
deep nodes root open_keys all_keys place tree d one s is some within depth =
    let low : 1 ≤ (get_or (rows 0 tree) place one).depth = not-root-row tree place one is.one some within in
    let high : (get_or (rows 0 tree) place one).depth ≤ length (spine (without_keys s.so_far)) = row-within tree (without_keys s.so_far) place one s.shown within in
    (omega arith, omega (arith, length-spine s.so_far, ap length s.way, length-map (spine s.so_far) (λ (node : Keyed Node). node.key)), omega (arith, length-spine s.so_far))

pub rows-some : (tree : Forest Node) → IsTree tree → 0 < length (rows 0 tree)
rows-some Empty is = absurd is.one
rows-some (Tree n c r) is = omega arith

-- the keys of a tree with one leaf more
keys-grow : (k : ℕ) (x : Keyed Node) (f : Forest (Keyed Node)) → k ≤ length (spine f) → keys (grow k x f) ≡ keys f ++ x.key ∷ []
keys-grow k x f fits =
    sym (names-with_depths 0 (grow k x f))
    ∙ ap names (depths-grow 0 k k x f fits (omega arith))
    ∙ map-append (λ (one : ℕ × Keyed Node). one.1.key) (with_depths 0 f) ((k, x) ∷ [])
    ∙ ap (λ ks. ks ++ x.key ∷ []) (names-with_depths 0 f)

-- the root is in
pub started : (nodes new : Slab Entry) (root : ℕ) (entry : Entry) (tree : Forest Node) → Updates nodes new root (Some entry) → slab_len new ≡ slab_len nodes + 1 → entry.parent ≡ None → entry.position ≡ 0 → entry.children.items ≡ [] → 0 < length (rows 0 tree) → ((one : Row) → entry.node ≡ (get_or (rows 0 tree) 0 one).node) → IsSoFar new root (root ∷ []) (root ∷ []) 1 tree
started nodes new root entry Empty updates len parent position children some node = absurd (omega arith)
started nodes new root entry (Tree n c r) updates len parent position children some node =
    record {
      so_far = Tree (keyed root entry.node) Empty Empty;
      holds = record {
        entries = (ap (option_map links_of) updates.changed ∙ (λ i. Some (record { parent = parent i; position = position i; children = children i; node = entry.node })), tt, tt);
        roots = refl;
        distinct = λ x. elim (root == x) as (λ b. (cond b 1 0 + (0 + 0)) ≤ 1) [ true ↦ omega arith | false ↦ omega arith ];
        small = omega arith;
      };
      shown = ap (λ m. row 0 m ∷ []) (node (row 0 n));
      way = refl;
      listed = refl;
    }

-- the parent of the next node is in
pub parent-there : (nodes : Slab Entry) (root : ℕ) (open_keys all_keys : List ℕ) (place : ℕ) (tree : Forest Node) (d k parent : ℕ) (one : Row)
    → (s : IsSoFar nodes root open_keys all_keys place tree) → IsTree tree → 1 ≤ place → place < length (rows 0 tree) → d ≡ (get_or (rows 0 tree) place one).depth → d ≡ k + 1 → parent ≡ get_or (take d open_keys) k parent
    → ContainsKey nodes parent
parent-there nodes root open_keys all_keys place tree d k parent one s is some within depth next above =
    let low = deep nodes root open_keys all_keys place tree d one s is some within depth in
    let n = on-way (spine s.so_far) d k parent next low.2 (above ∙ ap (λ ks. get_or (take d ks) k parent) s.way) in
    let g = grow-under s.so_far None [] k n.0 n.0 s.holds.distinct n.1 in
    subst (ContainsKey nodes) n.2 (entry-there nodes root s.so_far n.0.key s.holds (rw g.spot refl))

-- under one of these keys
pub parent-listed : (nodes : Slab Entry) (root : ℕ) (open_keys all_keys : List ℕ) (place : ℕ) (tree : Forest Node) (d k parent : ℕ) (one : Row)
    → (s : IsSoFar nodes root open_keys all_keys place tree) → IsTree tree → 1 ≤ place → place < length (rows 0 tree) → d ≡ (get_or (rows 0 tree) place one).depth → d ≡ k + 1 → parent ≡ get_or (take d open_keys) k parent
    → 0 < found parent all_keys
parent-listed nodes root open_keys all_keys place tree d k parent one s is some within depth next above =
    let low = deep nodes root open_keys all_keys place tree d one s is some within depth in
    let n = on-way (spine s.so_far) d k parent next low.2 (above ∙ ap (λ ks. get_or (take d ks) k parent) s.way) in
    let g = grow-under s.so_far None [] k n.0 n.0 s.holds.distinct n.1 in
    let there : 0 < times n.0.key s.so_far = spot-counted s.so_far None [] n.0.key g.above g.spot in
    let same : times parent s.so_far ≡ times n.0.key s.so_far = ap (λ x. times x s.so_far) (sym n.2) in
    omega (arith, found-keys parent s.so_far, ap (found parent) s.listed)

-- one node more is in
pub goes-on : (nodes new : Slab Entry) (root : ℕ) (open_keys all_keys : List ℕ) (place : ℕ) (tree : Forest Node) (d k parent key : ℕ) (node : Node) (one : Row)
    → (s : IsSoFar nodes root open_keys all_keys place tree) → IsTree tree → 1 ≤ place → place < length (rows 0 tree) → d ≡ (get_or (rows 0 tree) place one).depth → d ≡ k + 1 → parent ≡ get_or (take d open_keys) k parent → node ≡ (get_or (rows 0 tree) place one).node
    → Appends (links_in nodes) (links_in new) parent node key → slab_len new ≡ slab_len nodes + 1
    → IsSoFar new root (take d open_keys ++ key ∷ []) (all_keys ++ key ∷ []) (place + 1) tree
goes-on nodes new root open_keys all_keys place tree d k parent key node one s is some within depth next above shows adds len =
    let f : Forest (Keyed Node) = s.so_far in
    let x : Keyed Node = keyed key node in
    let low = deep nodes root open_keys all_keys place tree d one s is some within depth in
    let n = on-way (spine f) d k parent next low.2 (above ∙ ap (λ ks. get_or (take d ks) k parent) s.way) in
    let g = grow-under f None [] k x n.0 s.holds.distinct n.1 in
    let adds_n : Appends (links_in nodes) (links_in new) n.0.key node key = subst (λ p. Appends (links_in nodes) (links_in new) p node key) (sym n.2) adds in
    let fits : suc k ≤ length (spine f) = omega arith in
    let same_depth : d ≡ suc k = omega arith in
    record {
      so_far = grow (suc k) x f;
      holds = subst (Holds new root) (sym g.grown) (holds-appended nodes new root f n.0.key key node g.above s.holds g.spot adds_n len);
      shown =
          rows-with_depths 0 (grow (suc k) x f)
          ∙ ap (map row_of) (depths-grow 0 (suc k) d x f fits (omega arith))
          ∙ map-append row_of (with_depths 0 f) ((d, x) ∷ [])
          ∙ ap (λ front. front ++ row d node ∷ []) (sym (rows-with_depths 0 f) ∙ s.shown)
          ∙ ap (λ next. take place (rows 0 tree) ++ next ∷ []) (λ i. row (depth i) (shows i))
          ∙ sym (take_more (rows 0 tree) place one within);
      way =
          ap (λ ks. take d ks ++ key ∷ []) s.way
          ∙ ap (λ m. take m (keys_of (spine f)) ++ key ∷ []) same_depth
          ∙ ap (λ ks. ks ++ key ∷ []) (take-map (λ (m : Keyed Node). m.key) (suc k) (spine f))
          ∙ sym (ap keys_of (spine-grow (suc k) x f fits) ∙ map-append (λ (m : Keyed Node). m.key) (take (suc k) (spine f)) (x ∷ []));
      listed = ap (λ ks. ks ++ key ∷ []) s.listed ∙ sym (keys-grow (suc k) x f fits);
    }

-- all nodes are in
pub whole : (nodes : Slab Entry) (root : ℕ) (open_keys all_keys : List ℕ) (place : ℕ) (tree : Forest Node) → (s : IsSoFar nodes root open_keys all_keys place tree) → length (rows 0 tree) ≤ place → without_keys s.so_far ≡ tree
whole nodes root open_keys all_keys place tree s all =
    rows_same (without_keys s.so_far) tree (s.shown ∙ take_all place (rows 0 tree) all)

-- the first node of a tree is its root
pub shown-element : (tree : Forest Node) (name : Bor (List ℕ)) (attrs : Bor (List Attr)) (one : Row) → IsTree tree → Shows (get_or (rows 0 tree) 0 one).node (view.Element name attrs) → HasElementRoot tree
shown-element Empty name attrs one is h = absurd is.one
shown-element (Tree (Element its_name its_attrs) c r) name attrs one is h = tt
shown-element (Tree (Text characters) c r) name attrs one is h = absurd h

pub shown-text : (tree : Forest Node) (shown : Bor (List ℕ)) (one : Row) → IsTree tree → Shows (get_or (rows 0 tree) 0 one).node (view.Text shown) → HasElementRoot tree → ⊥
shown-text Empty shown one is h root = is.one
shown-text (Tree (Element its_name its_attrs) c r) shown one is h root = h
shown-text (Tree (Text characters) c r) shown one is h root = root
