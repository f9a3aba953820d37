use Rattle.xhtml_items.specs.Classes.{is_of_class}
use Rattle.xhtml_items.proofs.Numbers.{span_digits}
use Rattle.xhtml_items.proofs.references.number.Goals as goal

pub numbered-requires-clause-digits : goal.numbered-requires-clause-digits
numbered-requires-clause-digits c = span_digits (is_of_class c.args.digits) c.args.base _ _ _ c.requires.digits c.split_while.ensures.reads
