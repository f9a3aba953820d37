use Rattle.std.proofs.Common.{sym, ◌∙◌}
use Rattle.xhtml_reader.specs.Machinery.Keeping.{kept}
use Rattle.xhtml_reader.proofs.Keeps.{added_doctype}
use Rattle.xhtml_reader.proofs.open_tree.OpenTree.add_doctype.Goals as goal

pub returns-clause-adds : goal.returns-clause-adds
returns-clause-adds c = λ s keeps. added_doctype (kept c.args.self.now) s keeps (sym c.accepts_doctype.ensures ∙ c.if-not-accepts_doctype.false)
