-- Elements are counted with keys or without.
use Rattle.std.proofs.Common.{◌≡◌, ℕ, refl}
use Rattle.forest.specs.Forest.{Forest, Empty, Tree, weigh}
use Rattle.forest.specs.Keys.{Keyed, without_keys}

pub weigh-without_keys : {L : Type 0} (weight : L → ℕ) (trees : Forest (Keyed L)) → weigh weight (without_keys trees) ≡ weigh (λ (node : Keyed L). weight node.label) trees
weigh-without_keys weight Empty = refl
weigh-without_keys weight (Tree node children after) =
    let below = weigh-without_keys weight children in
    let beside = weigh-without_keys weight after in
    rw (below, beside) refl
