use Rattle.std.proofs.Common.{◌≡◌, ◌++◌, drop}
use Rattle.std.specs.Prelude.{fold}
use Rattle.counter_sets.specs.Sets.{is_missing_in}
use Rattle.content_eval.specs.Contents.{depth_behind, pieces, set_behind}
use Rattle.content_eval.proofs.eval_items.eval_items.Given as goal

abbrev pub invariant-loop-item : goal.invariant-loop-item
invariant-loop-item l = record {
  pieces :
      l.pieces ++ pieces l.table l.attrs l.quotes (is_missing_in l.place.parent) l.place.creator l.set l.depth (drop l.item-index l.item-items)
      ≡ pieces l.table l.attrs l.quotes (is_missing_in l.place.parent) l.place.creator l.place.set l.place.depth l.item-items;
  set :
      fold (set_behind (is_missing_in l.place.parent) l.place.creator) l.set (drop l.item-index l.item-items)
      ≡ fold (set_behind (is_missing_in l.place.parent) l.place.creator) l.place.set l.item-items;
  depth : fold depth_behind l.depth (drop l.item-index l.item-items) ≡ fold depth_behind l.place.depth l.item-items;
}
