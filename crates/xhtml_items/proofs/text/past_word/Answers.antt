use Rattle.xhtml_items.proofs.Texts.{strip_word}
use Rattle.xhtml_items.proofs.text.past_word.Goals as goal

pub returns-clause-reads : goal.returns-clause-reads
returns-clause-reads c = strip_word c.args.word.now c.args.text.now _ c.requires c.utf8.text c.strip_prefix.ensures.cases
