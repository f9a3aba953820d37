use Rattle.std.proofs.Common.{◌∙◌, sym, ap}
use Rattle.merged_walk.specs.EditStops.{old_index}
use Rattle.edit_merge.proofs.JoiningLaws.{index-behind, index-more, index-other, not-false, not-true}
use Rattle.edit_merge.proofs.places.old_index.Goals as goal

pub returns-then-ne : goal.returns-then-ne
returns-then-ne c = record {
  index =
      sym (ap (λ from. old_index from c.args.parent.now c.args.index) c.in-Some.ensures.cases.0
      ∙ index-other c.in-Some.above.now c.args.parent.now c.in-Some.gone.now c.args.index (not-true _ (sym c.ne.ensures ∙ c.if-ne.true)));
}

pub returns-then-gone-index : goal.returns-then-gone-index
returns-then-gone-index c = record {
  index =
      sym (ap (λ from. old_index from c.args.parent.now c.args.index) c.in-Some.ensures.cases.0
      ∙ index-more c.in-Some.above.now c.args.parent.now c.in-Some.gone.now c.args.index (not-false _ (sym c.ne.ensures ∙ c.if-ne.false)) c.if-gone-index.true);
}

pub returns : goal.returns
returns c = record {
  index =
      sym (ap (λ from. old_index from c.args.parent.now c.args.index) c.in-Some.ensures.cases.0
      ∙ index-behind c.in-Some.above.now c.args.parent.now c.in-Some.gone.now c.args.index c.if-gone-index.false);
}
