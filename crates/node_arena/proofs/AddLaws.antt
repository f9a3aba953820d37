-- Entries that are added.
use Rattle.std.proofs.Common.{◌≡◌, ◌≢◌, ◌<◌, ℕ, List, [], ◌∷◌, ◌++◌, length, Option, Some, None, Contains, option_map, refl, sym, ap, subst, ◌∙◌, inl, inr, arith, ◌≤◌, ◌^◌}
use Rattle.std.proofs.lemmas.List.Elements.{Contains-push, Contains-push_cases, Contains-append_left}
use Rattle.std.proofs.lemmas.Option.{none-some}
use Rattle.forest.specs.Forest.{Forest, size}
use Rattle.forest.specs.Keys.{keys, without_keys, times, Keyed}
use Rattle.slab.specs.Slab.{Slab, get}
use Rattle.plain_types.specs.Rows.{rows}
use Rattle.plain_types.specs.Tree.{IsTree}
use Rattle.plain_types.specs.declared.node.Node.{Node}
use Rattle.node_arena.specs.declared.entry.Entry.{Entry}
use Rattle.node_arena.specs.Added.{AddsOnly, IsAdded}
use Rattle.node_arena.specs.Entries.{links_of, HasEntries, tree_in, Holds, IsArena, links_in}
use Rattle.node_arena.proofs.CountLaws.{found, found-keys, entries-small}
use Rattle.node_arena.proofs.FreeLaws.{contains-or-not, count-found, found-contains}
use Rattle.node_arena.proofs.FromTree.{IsSoFar, whole}
use Rattle.node_arena.specs.Document.{HasElementRoot, IsKeyedDocument}
use Rattle.node_arena.proofs.RowFacts.{size-without_keys, length-rows}
use Rattle.node_arena.proofs.EntryLaws.{tree_in-is, closed, entries-absent, entries-frame}

none-contained : (keys : List ℕ) (key : ℕ) → keys ≡ [] → Contains keys key → ⊥
none-contained keys key empty h = let low = h.1 in let none = ap length empty in absurd (omega arith)

-- none yet
pub adds-none : (old : Slab Entry) (keys : List ℕ) → keys ≡ [] → AddsOnly old old keys
adds-none old keys empty = record { fresh = λ key h. absurd (none-contained keys key empty h); others = λ key h. refl }

-- a key without an entry was fresh from the start
was-fresh : (old now : Slab Entry) (keys : List ℕ) (key : ℕ) → AddsOnly old now keys → get now key ≡ None → get old key ≡ None
was-fresh old now keys key h none = elim (contains-or-not keys key) [
  | inl there ↦ h.fresh key there
  | inr not_there ↦ sym (h.others key not_there) ∙ none
]

-- one entry more, at this key; among those that were added another may change
pub adds-more : (old now new : Slab Entry) (keys : List ℕ) (key : ℕ) → AddsOnly old now keys → get now key ≡ None → ((other : ℕ) → other ≢ key → (Contains keys other → ⊥) → get new other ≡ get now other) → AddsOnly old new (keys ++ key ∷ [])
adds-more old now new keys key h none others = record {
  fresh = λ other there. elim (Contains-push_cases keys key other there) [
    | inl before ↦ h.fresh other before
    | inr e ↦ subst (λ k. get old k ≡ None) e (was-fresh old now keys key h none)
  ];
  others = λ other none.
      let outside : Contains keys other → ⊥ = λ there. none (Contains-append_left keys (key ∷ []) other there) in
      others other (λ e. none (subst (λ k. Contains (keys ++ key ∷ []) k) (sym e) (Contains-push keys key))) outside ∙ h.others other outside;
}

-- no entry more; among those that were added another may change
pub adds-same : (old now new : Slab Entry) (keys : List ℕ) → AddsOnly old now keys → ((other : ℕ) → (Contains keys other → ⊥) → get new other ≡ get now other) → AddsOnly old new keys
adds-same old now new keys h others = record { fresh = h.fresh; others = λ other none. others other none ∙ h.others other none }

pub no-links : (o : Option Entry) → option_map links_of o ≡ None → o ≡ None
no-links None e = refl
no-links (Some entry) e = absurd (none-some (links_of entry) (sym e))

-- a parent that is among them is none of the others
pub parent-among : (keys : List ℕ) (parent other : ℕ) → 0 < found parent keys → (Contains keys other → ⊥) → other ≢ parent
parent-among keys parent other there none e = none (subst (Contains keys) (sym e) (found-contains parent keys there))

-- all are in
pub is-added : (old new : Slab Entry) (root : ℕ) (open_keys all_keys : List ℕ) (place : ℕ) (tree : Forest Node) → (s : IsSoFar new root open_keys all_keys place tree) → AddsOnly old new all_keys → length (rows 0 tree) ≤ place → IsTree tree → IsAdded old new tree all_keys root
is-added old new root open_keys all_keys place tree s only all is = record {
  added = s.so_far;
  holds = s.holds;
  tree_is = whole new root open_keys all_keys place tree s all;
  sound = is;
  listed = λ key. count-found key all_keys ∙ ap (found key) s.listed ∙ found-keys key s.so_far;
  only = only;
}

-- a tree of its own
pub added-document : (old new : Slab Entry) (tree : Forest Node) (all_keys : List ℕ) (root : ℕ) → (h : IsAdded old new tree all_keys root) → HasElementRoot tree → length (rows 0 tree) < 2 ^ 64 → IsKeyedDocument h.added
added-document old new tree all_keys root h element few =
    let same : tree ≡ without_keys h.added = sym h.tree_is in
    record {
      distinct = h.holds.distinct;
      is_tree = subst IsTree same h.sound;
      element = subst HasElementRoot same element;
      few = omega (arith, few, size-without_keys h.added, ap size same, length-rows 0 tree);
    }

-- beside a tree of an arena
module _ (nodes new : Slab Entry) (root : ℕ) (arena : IsArena nodes root) (tree : Forest Node) (all_keys : List ℕ) (key : ℕ) (h : IsAdded nodes new tree all_keys key) where
  stays : (x : ℕ) → 0 < times x (tree_in nodes root) → get new x ≡ get nodes x
  stays x more = h.only.others x (λ there. absurd (
      let none : times x (tree_in nodes root) ≡ 0 = entries-absent (links_in nodes) (tree_in nodes root) None 0 x arena.holds.entries (ap (option_map links_of) (h.only.fresh x there)) in
      omega arith
      ))

  holds-beside : Holds new root (tree_in nodes root)
  holds-beside =
      let f : Forest (Keyed Node) = tree_in nodes root in
      let entries : HasEntries (links_in new) None 0 f = entries-frame (links_in new) (links_in nodes) f None 0 (λ x more. ap (option_map links_of) (stays x more)) arena.holds.entries in
      record {
        entries = entries;
        roots = arena.holds.roots;
        distinct = arena.holds.distinct;
        small = entries-small new f None 0 entries arena.holds.distinct;
      }

  pub arena-added : IsArena new root
  arena-added = closed new root (tree_in nodes root) holds-beside arena.document

  pub tree-added : tree_in new root ≡ tree_in nodes root
  tree-added = tree_in-is new root (tree_in nodes root) holds-beside
