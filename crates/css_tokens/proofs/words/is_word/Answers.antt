use Rattle.std.specs.Str.{chars}
use Rattle.std.proofs.lemmas.Str.{encodes-chars}
use Rattle.css_tokens.proofs.AsciiCase.{same_test}
use Rattle.css_tokens.proofs.words.is_word.Goals as goal

pub returns : goal.returns
returns c = record {
  word = same_test c.eq_ignore_ascii_case.result (chars c.args.text.now) c.args.word.now c.requires.ascii (rw (encodes-chars c.args.text.now c.utf8.text) c.eq_ignore_ascii_case.ensures.test);
}
