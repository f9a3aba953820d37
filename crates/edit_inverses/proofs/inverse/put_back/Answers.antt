use Rattle.std.proofs.Common.{◌≡◌, nat_lt, length, true, false, is_some, sym, ap, ◌∙◌}
use Rattle.forest.specs.Keys.{without_keys}
use Rattle.plain_types.specs.declared.edit.Edit.TheVariants.{Insert}
use Rattle.node_arena.specs.AtPaths.{label_at}
use Rattle.node_arena.proofs.KeyAtLaws.{node-found}
use Rattle.edit_inverses.specs.Inverses.{last_position, parent_path}
use Rattle.edit_inverses.proofs.NodeFacts.{tree_found}
use Rattle.edit_inverses.proofs.PlaceLaws.{both_true}
use Rattle.edit_inverses.proofs.inverse.put_back.Goals as goal

pub unreachable-requires : goal.unreachable-requires
unreachable-requires c =
    let document = without_keys c.args.arena.now.tree in
    let there : is_some (label_at c.args.path.now document) ≡ true = (both_true (nat_lt 0 (length c.args.path.now)) (is_some (label_at c.args.path.now document)) c.requires).1 in
    let none : is_some (label_at c.args.path.now document) ≡ false = node-found c.args.arena.now.tree c.args.path.now ∙ ap (λ o. is_some o) (sym c.in_default.ensures.link) in
    let clash : true ≡ false = sym there ∙ none in
    cc clash

pub returns : goal.returns
returns c =
    let shown = c.as_slice.ensures.steps in
    record {
      edit =
          ap (λ parent. Insert parent c.place_of-index.result.1 c.in_ok-tree_at.field-0) (c.in_ok-of.ensures.steps ∙ c.place_of-index.ensures.parent ∙ ap parent_path shown)
          ∙ ap (λ index. Insert (parent_path c.args.path.now) index c.in_ok-tree_at.field-0) (c.place_of-index.ensures.index ∙ ap last_position shown)
          ∙ ap (λ fragment. Insert (parent_path c.args.path.now) (last_position c.args.path.now) fragment)
          (c.in_ok-tree_at.ensures.tree ∙ tree_found c.args.arena.now.tree c.args.path.now c.in-Some.key c.arena_holds_document.ensures.document.distinct (sym c.in-Some.ensures.link));
    }
