use Rattle.std.proofs.Common.{◌<◌, ◌++◌, ◌∙◌, [], ap₂, ap, arith, get_or, length, sym, take}
use Rattle.std.proofs.lemmas.List.{flat_map_more, take_more}
use Rattle.plain_types.specs.Rows.{row, rows}
use Rattle.plain_types.specs.declared.node.Node.TheVariants.{Text}
use Rattle.plain_types.specs.declared.row.Row.{Row}
use Rattle.dirty_walk.specs.Exchanges.{id_of}
use Rattle.dirty_walk.specs.Machinery.FormerLists.{former_of, formers_in}
use Rattle.dirty_walk.proofs.former_targets.put_fragment.Goals as goal

-- any row
abbrev one : Row
one = row 0 (Text [])

pub loop-place-preserved : goal.loop-place-preserved
loop-place-preserved c =
    let tree = c.args.lookup.now.arena.now.tree in
    let all = rows 0 c.args.fragment.now in
    let place = c.loop-place.place in
    let within : place < length all = omega (arith, c.loop-place-test.true, c.len-place-end.ensures.nodes) in
    let next = get_or all place one in
    record {
      former =
          c.in_ok-put_node.ensures.ok next.node (c.node.ensures.shown one)
          ∙ ap₂ (λ tree former. former ++ former_of tree (id_of next.node)) c.loop-place.invariant.tree c.loop-place.invariant.former
          ∙ flat_map_more (λ (row : Row). former_of tree (id_of row.node)) c.args.former.now (take place all) next
          ∙ ap (λ some. c.args.former.now ++ formers_in tree some) (sym (take_more all place one within));
      tree = c.put_node.ensures.tree ∙ c.loop-place.invariant.tree;
    }
