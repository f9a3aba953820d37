use Rattle.std.proofs.Common.{sym, ◌∙◌, []}
use Rattle.std.specs.Str.{chars}
use Rattle.css_values.proofs.Words.{ascii_here, found_here, not_here}
use Rattle.css_values.proofs.parts.is_among.Goals as goal

pub is_word-requires : goal.is_word-requires
is_word-requires c = record { ascii = (ascii_here c.args.words.now c.loop-word.word-index _ c.loop-word-test.true c.loop-word.invariant.ascii).0 }

pub returns-then-is_word : goal.returns-then-is_word
returns-then-is_word c = found_here c.args.words.now c.loop-word.word-index _ c.loop-word-test.true (chars c.args.name.now) c.loop-word.invariant.same (sym c.is_word.ensures.word ∙ c.if-is_word.true)

pub loop-word-preserved : goal.loop-word-preserved
loop-word-preserved c = record {
  ascii = (ascii_here c.args.words.now c.loop-word.word-index record { ref_ptr = (0, 0); now = [] } c.loop-word-test.true c.loop-word.invariant.ascii).1;
  same = not_here c.args.words.now c.loop-word.word-index _ c.loop-word-test.true (chars c.args.name.now) c.loop-word.invariant.same (sym c.is_word.ensures.word ∙ c.if-is_word.false);
}
