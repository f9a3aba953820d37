-- Nodes that are given up.
use Rattle.std.proofs.Common.{◌≡◌, ◌==◌, ◌<◌, ◌+◌, ℕ, zero, suc, true, false, cond, List, [], ◌∷◌, length, get_or, count_by, Contains, None, option_map, refl, sym, ap, subst, ◌∙◌, arith, eqb-true, eq-eqb, ◌⊎◌, inl, inr}
use Rattle.std.proofs.lemmas.List.Sums.{sum_by-cons}
use Rattle.forest.specs.Forest.{Forest}
use Rattle.forest.specs.Keys.{Keyed, times}
use Rattle.slab.specs.Slab.{Slab, get}
use Rattle.plain_types.specs.declared.node.Node.{Node}
use Rattle.node_arena.specs.declared.change.ChildPlace.{ChildPlace}
use Rattle.node_arena.specs.declared.entry.Entry.{Entry}
use Rattle.node_arena.specs.Changes.{aside, AreKeysOf, CanPutIn}
use Rattle.node_arena.specs.Document.{Document}
use Rattle.node_arena.specs.Entries.{links_of, links_in, HasEntries, tree_in, Holds, IsArena}
use Rattle.node_arena.proofs.CountLaws.{found, entries-small}
use Rattle.node_arena.proofs.EntryLaws.{tree_in-is, closed, entries-frame}
use Rattle.node_arena.proofs.StepLaws.{seen}
use Rattle.std.proofs.lemmas.Bool.{cases_lt}

pub count-found : (key : ℕ) (keys : List ℕ) → count_by (λ (other : ℕ). other == key) keys ≡ found key keys
count-found key [] = refl
count-found key (k ∷ keys) = sum_by-cons (λ (other : ℕ). cond (other == key) 1 0) k keys ∙ ap (λ n. cond (k == key) 1 0 + n) (count-found key keys)

pub found-contains : (key : ℕ) (keys : List ℕ) → 0 < found key keys → Contains keys key
found-contains key [] more = absurd (omega arith)
found-contains key (k ∷ keys) more =
    elim (k == key) as (λ b. (k == key) ≡ b → 0 < cond b 1 0 + found key keys → Contains (k ∷ keys) key) [
      | true ↦ λ is _. (0, omega arith, eqb-true k key is)
      | false ↦ λ is more. let h = found-contains key keys (omega arith) in (suc h.0, (let low = h.1 in omega arith), h.2)
    ] refl more

pub contains-found : (key : ℕ) (keys : List ℕ) (at : ℕ) → at < length keys → get_or keys at key ≡ key → 0 < found key keys
contains-found key [] at low is = absurd (omega arith)
contains-found key (k ∷ keys) zero low is = rw (eq-eqb k key is) (omega arith)
contains-found key (k ∷ keys) (suc at) low is = omega (arith, contains-found key keys at (omega arith) is)

-- a list has a key, or it hasn't
pub contains-or-not : (keys : List ℕ) (key : ℕ) → Contains keys key ⊎ (Contains keys key → ⊥)
contains-or-not keys key = elim (cases_lt 0 (found key keys)) [
  | inl some ↦ inl (found-contains key keys some)
  | inr none ↦ inr (λ h. absurd (let some = contains-found key keys h.0 h.1 h.2 in omega arith))
]

-- a key is in the list of a forest's keys where one of its nodes has it
pub listed-contains : (keys : List ℕ) (t : Forest (Keyed Node)) (key : ℕ) → AreKeysOf keys t → 0 < times key t → Contains keys key
listed-contains keys t key all more = found-contains key keys (omega (arith, all key, count-found key keys))

pub contains-listed : (keys : List ℕ) (t : Forest (Keyed Node)) (key : ℕ) → AreKeysOf keys t → Contains keys key → 0 < times key t
contains-listed keys t key all h = omega (arith, contains-found key keys h.0 h.1 h.2, all key, count-found key keys)

module _ (nodes : Slab Entry) (root : ℕ) (arena : IsArena nodes root) (top : ℕ) (keys : List ℕ) (place : ChildPlace) (can : CanPutIn (seen nodes root) top keys place) (new : Slab Entry)
    (gone : (key : ℕ) → Contains keys key → get new key ≡ None) (others : (key : ℕ) → (Contains keys key → ⊥) → get new key ≡ get nodes key) where
  abbrev before : Forest (Keyed Node)
  before = tree_in nodes root

  -- the nodes of the tree stay
  stays : (x : ℕ) → 0 < times x before → get new x ≡ get nodes x
  stays x more = others x (λ h. absurd (let there : 0 < times x (tree_in nodes top) = contains-listed keys (tree_in nodes top) x can.listed h in let once = can.kept.apart x in omega arith))

  holds-free : Holds new root before
  holds-free =
      let entries : HasEntries (links_in new) None 0 before = entries-frame (links_in new) (links_in nodes) before None 0 (λ x more. ap (option_map links_of) (stays x more)) arena.holds.entries in
      record {
        entries = entries;
        roots = arena.holds.roots;
        distinct = arena.holds.distinct;
        small = entries-small new before None 0 entries arena.holds.distinct;
      }

  free-arena : IsArena new root
  free-arena = closed new root before holds-free arena.document

module _ (nodes : Slab Entry) (root : ℕ) (document : Document) (arena : IsArena nodes root) (view : seen nodes root ≡ document) (top : ℕ) (keys : List ℕ) (place : ChildPlace) (can : CanPutIn document top keys place) (new : Slab Entry)
    (gone : (key : ℕ) → Contains keys key → get new key ≡ None) (others : (key : ℕ) → (Contains keys key → ⊥) → get new key ≡ get nodes key) where
  its : CanPutIn (seen nodes root) top keys place
  its = subst (λ d. CanPutIn d top keys place) (sym view) can

  pub arena-free : IsArena new root
  arena-free = free-arena nodes root arena top keys place its new gone others

  pub tree-free : (seen new root).tree ≡ document.tree
  tree-free = tree_in-is new root (tree_in nodes root) (holds-free nodes root arena top keys place its new gone others) ∙ ap (λ (d : Document). d.tree) view

  pub freed : (key : ℕ) → 0 < times key (aside document top) → get new key ≡ None
  freed key more = gone key (listed-contains keys (aside document top) key can.listed more)

  pub others-stay : (key : ℕ) → (0 < times key (aside document top) → ⊥) → get new key ≡ get document.entries key
  others-stay key none = others key (λ h. none (contains-listed keys (aside document top) key can.listed h)) ∙ ap (λ (d : Document). get d.entries key) view
