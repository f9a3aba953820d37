use Rattle.xml_definitions.specs.Normalized.{normalized}
use Rattle.xhtml_reader.specs.declared.kind.Kind.TheVariants.{Document}
use Rattle.xhtml_reader.proofs.Places.{only_tree}
use Rattle.xhtml_reader.proofs.laws.one_document_tree.Goals as goal

pub returns : goal.returns
returns c = λ text tree other first second. only_tree Document (normalized text) tree other first second
