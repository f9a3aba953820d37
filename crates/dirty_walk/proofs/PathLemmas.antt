-- What a path leads to, by the key there.
use Rattle.std.proofs.Common.{◌≡◌, ℕ, List, Option, Some, None, refl, sym}
use Rattle.std.proofs.lemmas.Option.{none-some}
use Rattle.forest.specs.Forest.{Forest, Empty, Tree}
use Rattle.forest.specs.Keys.{Keyed, HasDistinctKeys}
use Rattle.forest.specs.Paths.{key_at, on_path}
use Rattle.forest.specs.Spots.{first_key, on_link}
use Rattle.node_arena.proofs.KeyAtLaws.{on-link-at}

module _ {L : Type 0} where
  no-tree : (t : Forest (Keyed L)) → first_key t ≡ None → Empty ≡ t
  no-tree Empty e = refl
  no-tree (Tree n c r) e = absurd (none-some n.key (sym e))

  pub on-link-path : (f : Forest (Keyed L)) (path : List ℕ) → HasDistinctKeys f → on_link f (key_at f path) ≡ on_path path f
  on-link-path f path d = by (key_at f path) refl
    where
      by : (o : Option ℕ) → key_at f path ≡ o → on_link f o ≡ on_path path f
      by None e = no-tree (on_path path f) e
      by (Some q) e = sym (on-link-at f path q d e)
