use Rattle.std.proofs.Common.{◌∙◌, arith}
use Rattle.xhtml_items.proofs.Texts.{capitals_step, capitals_none, capitals_end}
use Rattle.xhtml_items.proofs.text.past_capitals.Goals as goal

pub loop-letter-preserved : goal.loop-letter-preserved
loop-letter-preserved c = record {
  utf8 = c.in_ok-rest.ensures.text;
  same = c.loop-letter.invariant.same ∙ capitals_step c.args.word.now c.loop-letter.letter-index _ _ (omega arith) c.in_ok-rest.ensures.reads;
}

pub returns-in_err-rest-clause-reads : goal.returns-in_err-rest-clause-reads
returns-in_err-rest-clause-reads c =
    rw c.from_residual.ensures (c.loop-letter.invariant.same ∙ capitals_none c.args.word.now c.loop-letter.letter-index _ (omega arith) c.in_err-rest.ensures.reads)

pub returns-clause-reads : goal.returns-clause-reads
returns-clause-reads c = c.loop-letter.invariant.same ∙ capitals_end c.args.word.now c.loop-letter.letter-index _ (omega arith)
