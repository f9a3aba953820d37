use Rattle.std.proofs.Common.{sym, ◌∙◌}
use Rattle.std.specs.Str.{chars}
use Rattle.std.proofs.lemmas.Str.{encodes-chars}
use Rattle.xhtml_reader.proofs.Names.{name_read, no_name}
use Rattle.xhtml_reader.proofs.Texts.{empty_same}
use Rattle.xhtml_reader.proofs.name.is_name.Goals as goal

pub returns-in-Some : goal.returns-in-Some
returns-in-Some c =
    c.is_empty.ensures ∙ empty_same c.in-Some.rest.now (chars c.in-Some.rest.now) (sym (encodes-chars c.in-Some.rest.now c.in-Some.ensures.text))
    ∙ name_read (chars c.args.text.now) (chars c.in-Some.field-0-0.now, chars c.in-Some.rest.now) c.in-Some.ensures.reads

pub returns-in-None : goal.returns-in-None
returns-in-None c = no_name (chars c.args.text.now) c.in-None.ensures.reads
