use Rattle.std.proofs.Common.{◌≡◌, nat_lt, length, true, is_some, Some, slice_get, subst, ap, ◌∙◌, arith}
use Rattle.forest.specs.Keys.{without_keys}
use Rattle.node_arena.specs.AtPaths.{label_at}
use Rattle.node_arena.proofs.RowFacts.{size-without_keys}
use Rattle.edit_inverses.specs.Inverses.{parent_path}
use Rattle.edit_inverses.proofs.LedPaths.{low_above}
use Rattle.edit_inverses.proofs.PlaceLaws.{both_true}
use Rattle.edit_inverses.proofs.inverse.move_back.Goals as goal

pub once_in-requires : goal.once_in-requires
once_in-requires c level position is =
    let tree = c.args.arena.now.tree in
    let from = c.args.from.now in
    let there : is_some (label_at from (without_keys tree)) ≡ true = (both_true (nat_lt 0 (length from)) (is_some (label_at from (without_keys tree))) c.requires).1 in
    let at : slice_get (parent_path from) level ≡ Some position = subst (λ path. slice_get path level ≡ Some position) (c.place_of-position.ensures.parent ∙ ap parent_path c.as_slice.ensures.steps) is in
    omega (arith, low_above from (without_keys tree) there level position at, size-without_keys tree, c.arena_holds_document.ensures.document.few)
