use Rattle.std.proofs.Common.{arith}
use Rattle.std.proofs.lemmas.Str.Pattern.{contains_char}
use Rattle.xhtml_reader.proofs.Keeps.{not_false, not_true}
use Rattle.xhtml_reader.proofs.Prepares.{changed_text, unchanged_text}
use Rattle.xhtml_reader.proofs.prepare.has_line_feeds_alone.Goals as goal

pub returns-clause-stays : goal.returns-clause-stays
returns-clause-stays c = λ e. unchanged_text c.args.text.now c.utf8.text (rw (not_true c.contains.result e) at c.contains.ensures.cases)

pub returns-clause-changes : goal.returns-clause-changes
returns-clause-changes c = λ e. changed_text c.args.text.now c.utf8.text ((contains_char 13 c.args.text.now c.contains.result c.contains.ensures.cases (omega arith)).0 (not_false c.contains.result e))
