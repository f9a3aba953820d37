use Rattle.std.proofs.Common.{rules}
use Rattle.xhtml_items.proofs.Texts.{split_word}
use Rattle.xhtml_items.proofs.text.split_once.Goals as goal

pub returns-clause-reads : goal.returns-clause-reads
returns-clause-reads c = split_word c.args.word.now c.args.text.now _ c.requires.ascii c.requires.filled c.utf8.text (search rules) c.split_once.ensures.cases
