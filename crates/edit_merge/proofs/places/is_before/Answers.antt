use Rattle.std.proofs.Common.{◌∙◌, sym, arith}
use Rattle.edit_merge.proofs.JoiningLaws.{before-ends}
use Rattle.edit_merge.proofs.places.is_before.Goals as goal

pub returns : goal.returns
returns c = record {
  before = sym (c.loop-index.invariant ∙ before-ends c.args.path.now c.args.place.now c.loop-index.index (omega (arith, c.loop-index-test.false, c.min-index-end.ensures)));
}
