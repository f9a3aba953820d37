use Rattle.dirty_walk.proofs.StyleLemmas.{one_more}
use Rattle.dirty_walk.proofs.document_styles.are_same.Goals as goal

pub loop-place-preserved : goal.loop-place-preserved
loop-place-preserved c =
    one_more c.args.texts.now c.args.others.now c.loop-place.place c.index-texts-place.result c.index-others-place.result c.as_str.result.now c.as_str-in-loop-place.result.now c.ne.result
    c.loop-place-test.true c.if-texts-others.false c.loop-place.invariant c.index-texts-place.is c.index-others-place.is
    c.as_str.ensures.bytes c.as_str-in-loop-place.ensures.bytes c.ne.ensures c.if-ne.false
