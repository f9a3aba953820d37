use Rattle.std.proofs.Common.{ap}
use Rattle.std.specs.Prelude.{Ok, Err}
use Rattle.std.specs.Str.{chars}
use Rattle.marker_cli.specs.Documents.{tree_of}
use Rattle.marker_cli.proofs.FaultLemmas.{no_tree, tree_caused, tree_file, tree_stops}
use Rattle.marker_cli.proofs.TreeLemmas.{document_element}
use Rattle.marker_cli.proofs.read_texts.read_tree.Goals as goal

pub returns-in_err-read_document-clause-tree : goal.returns-in_err-read_document-clause-tree
returns-in_err-read_document-clause-tree c reading reads =
    no_tree (chars c.args.text.now) reading _ c.from_residual.result c.from_residual.ensures
    (λ place fails. c.one_document_reading.ensures (chars c.args.text.now) reading (Err place) reads fails) c.in_err-read_document.ensures.fault

pub returns-in_err-read_document-clause-cause : goal.returns-in_err-read_document-clause-cause
returns-in_err-read_document-clause-cause c = tree_caused _ c.from_residual.result c.from_residual.ensures

pub returns-in_err-read_document-clause-file : goal.returns-in_err-read_document-clause-file
returns-in_err-read_document-clause-file c = tree_file _ c.from_residual.result c.from_residual.ensures

pub returns-in_err-read_document-clause-stops : goal.returns-in_err-read_document-clause-stops
returns-in_err-read_document-clause-stops c = tree_stops _ c.from_residual.result c.from_residual.ensures

pub returns-clause-tree : goal.returns-clause-tree
returns-clause-tree c reading reads =
    ap tree_of (c.one_document_reading.ensures (chars c.args.text.now) reading (Ok _) reads c.in_ok-read_document.ensures.found)

pub returns-clause-element : goal.returns-clause-element
returns-clause-element c = document_element (chars c.args.text.now) _ c.in_ok-read_document.ensures.found
