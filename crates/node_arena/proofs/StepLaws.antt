-- The two steps of changes, on the entries of an arena.
use Rattle.std.proofs.Common.{◌≡◌, ◌<◌, ◌^◌, ℕ, insert, remove, sym, ap, subst, Option, None, Some, is_some, option_map, refl, ◌∙◌}
use Rattle.forest.specs.Forest.{Forest}
use Rattle.forest.specs.Keys.{Keyed}
use Rattle.slab.specs.Slab.{Slab, slab_len, get, ContainsKey}
use Rattle.plain_types.specs.declared.node.Node.{Node}
use Rattle.node_arena.specs.declared.change.ChildPlace.{ChildPlace}
use Rattle.node_arena.specs.declared.entry.Entry.{Entry}
use Rattle.node_arena.specs.Changes.{hung, cut, IsFreePlace, HasPlace, IsAside, IsTakenOut, IsPutIn, KeepsEntries}
use Rattle.node_arena.specs.Children.{listed, KeepsRooms, HasRoom, Hangs}
use Rattle.node_arena.specs.Document.{Document}
use Rattle.node_arena.specs.Entries.{links_in, tree_in, Holds, IsArena, links_of, HasEntries}
use Rattle.node_arena.proofs.EntryLaws.{tree_in-is, closed, entries-frame, entry-there}
use Rattle.node_arena.proofs.PutLaws.{Fits, fits, CanList, can-list, holds-more, document-more, is-put-in}
use Rattle.node_arena.proofs.TakeLaws.{Taken, taken, CanUnlist, can-unlist, holds-rest, document-rest, is-taken-out}
use Rattle.forest.specs.Spots.{IsLive}
use Rattle.node_arena.proofs.CountLaws.{entries-small}

-- what contracts see of these entries
abbrev pub seen : Slab Entry → ℕ → Document
seen nodes root = record { tree = tree_in nodes root; entries = nodes }

pub seen-is : (nodes : Slab Entry) (root : ℕ) (f : Forest (Keyed Node)) → Holds nodes root f → seen nodes root ≡ record { tree = f; entries = nodes }
seen-is nodes root f h = ap (λ (t : Forest (Keyed Node)). let d : Document = record { tree = t; entries = nodes } in d) (tree_in-is nodes root f h)

module _ (nodes : Slab Entry) (root : ℕ) (arena : IsArena nodes root) (key : ℕ) (place : ChildPlace) where
  abbrev before : Forest (Keyed Node)
  before = tree_in nodes root

  module _ (kept : IsAside (seen nodes root) key) (free : IsFreePlace before place) where
    its : Fits nodes before key place
    its = fits nodes before key place kept free

    put-can : CanList nodes key place
    put-can = can-list nodes root before key place arena.holds arena.document kept its

    module _ (new : Slab Entry) (hangs : Hangs (links_in nodes) (links_in new) place.parent (insert (listed (links_in nodes) place.parent) place.index key) place.index) (few : slab_len new < 2 ^ 64) where
      holds-put : Holds new root (hung place (tree_in nodes key) before)
      holds-put = holds-more nodes root before key place arena.holds arena.document kept its new hangs

      put-arena : IsArena new root
      put-arena = closed new root (hung place (tree_in nodes key) before) holds-put (document-more nodes root before key place arena.holds arena.document kept its new hangs few)

      put-is : KeepsRooms nodes new → IsPutIn (seen nodes root) (seen new root) key place
      put-is rooms = subst (λ d. IsPutIn (seen nodes root) d key place) (sym (seen-is new root (hung place (tree_in nodes key) before) holds-put)) (is-put-in nodes root before key place arena.holds arena.document kept its new hangs few rooms)

  module _ (stands : HasPlace before key place) where
    taken-out : Taken before key place
    taken-out = taken before key place arena.document stands

    take-can : CanUnlist nodes place
    take-can = can-unlist nodes root before key place arena.holds arena.document taken-out

    module _ (new : Slab Entry) (hangs : Hangs (links_in nodes) (links_in new) place.parent (remove (listed (links_in nodes) place.parent) place.index) place.index) where
      holds-take : Holds new root (cut place before)
      holds-take = holds-rest nodes root before key place arena.holds arena.document taken-out new hangs

      take-arena : IsArena new root
      take-arena = closed new root (cut place before) holds-take (document-rest nodes root before key place arena.holds arena.document taken-out new hangs)

      take-is : KeepsRooms nodes new → HasRoom new place.parent → IsTakenOut (seen nodes root) (seen new root) key place
      take-is rooms room = subst (λ d. IsTakenOut (seen nodes root) d key place) (sym (seen-is new root (cut place before) holds-take)) (is-taken-out nodes root before key place arena.holds arena.document taken-out new hangs rooms room)

-- The same of a document that is seen so.
module _ (nodes : Slab Entry) (root : ℕ) (document : Document) (arena : IsArena nodes root) (view : seen nodes root ≡ document) (key : ℕ) (place : ChildPlace) where
  pub can-put : IsAside document key → IsFreePlace document.tree place → CanList nodes key place
  can-put kept free = put-can nodes root arena key place (subst (λ d. IsAside d key) (sym view) kept) (subst (λ (d : Document). IsFreePlace d.tree place) (sym view) free)

  pub arena-put : IsAside document key → IsFreePlace document.tree place → (new : Slab Entry) → Hangs (links_in nodes) (links_in new) place.parent (insert (listed (links_in nodes) place.parent) place.index key) place.index → slab_len new < 2 ^ 64 → IsArena new root
  arena-put kept free new hangs few = put-arena nodes root arena key place (subst (λ d. IsAside d key) (sym view) kept) (subst (λ (d : Document). IsFreePlace d.tree place) (sym view) free) new hangs few

  pub put-in : IsAside document key → IsFreePlace document.tree place → (new : Slab Entry) → Hangs (links_in nodes) (links_in new) place.parent (insert (listed (links_in nodes) place.parent) place.index key) place.index → slab_len new < 2 ^ 64 → KeepsRooms nodes new → IsPutIn document (seen new root) key place
  put-in kept free new hangs few rooms =
      subst (λ d. IsPutIn d (seen new root) key place) view (put-is nodes root arena key place (subst (λ d. IsAside d key) (sym view) kept) (subst (λ (d : Document). IsFreePlace d.tree place) (sym view) free) new hangs few rooms)

  pub can-take : HasPlace document.tree key place → CanUnlist nodes place
  can-take stands = take-can nodes root arena key place (subst (λ (d : Document). HasPlace d.tree key place) (sym view) stands)

  pub arena-take : HasPlace document.tree key place → (new : Slab Entry) → Hangs (links_in nodes) (links_in new) place.parent (remove (listed (links_in nodes) place.parent) place.index) place.index → IsArena new root
  arena-take stands new hangs = take-arena nodes root arena key place (subst (λ (d : Document). HasPlace d.tree key place) (sym view) stands) new hangs

  pub take-out : HasPlace document.tree key place → (new : Slab Entry) → Hangs (links_in nodes) (links_in new) place.parent (remove (listed (links_in nodes) place.parent) place.index) place.index → KeepsRooms nodes new → HasRoom new place.parent → IsTakenOut document (seen new root) key place
  take-out stands new hangs rooms room =
      subst (λ d. IsTakenOut d (seen new root) key place) view (take-is nodes root arena key place (subst (λ (d : Document). HasPlace d.tree key place) (sym view) stands) new hangs rooms room)

-- Entries that say the same.
module _ (nodes : Slab Entry) (root : ℕ) (document : Document) (arena : IsArena nodes root) (view : seen nodes root ≡ document) (new : Slab Entry) (same : (key : ℕ) → links_in new key ≡ links_in nodes key) where
  holds-same : Holds new root (tree_in nodes root)
  holds-same =
      let f : Forest (Keyed Node) = tree_in nodes root in
      let entries : HasEntries (links_in new) None 0 f = entries-frame (links_in new) (links_in nodes) f None 0 (λ x more. same x) arena.holds.entries in
      record {
        entries = entries;
        roots = arena.holds.roots;
        distinct = arena.holds.distinct;
        small = entries-small new f None 0 entries arena.holds.distinct;
      }

  pub arena-same : IsArena new root
  arena-same = closed new root (tree_in nodes root) holds-same arena.document

  pub tree-same : (seen new root).tree ≡ document.tree
  tree-same = tree_in-is new root (tree_in nodes root) holds-same ∙ ap (λ (d : Document). d.tree) view

  some-links : (o : Option Entry) → is_some (option_map links_of o) ≡ is_some o
  some-links None = refl
  some-links (Some entry) = refl

  pub entries-same : KeepsEntries document (seen new root)
  entries-same key = sym (some-links (get new key)) ∙ ap (λ o. is_some o) (same key) ∙ some-links (get nodes key) ∙ ap (λ (d : Document). is_some (get d.entries key)) view

-- a live node has an entry
pub live-entry : (nodes : Slab Entry) (root : ℕ) (document : Document) → IsArena nodes root → seen nodes root ≡ document → (key : ℕ) → IsLive document.tree key → ContainsKey nodes key
live-entry nodes root document arena view key live = entry-there nodes root (tree_in nodes root) key arena.holds (subst (λ (d : Document). IsLive d.tree key) (sym view) live)
