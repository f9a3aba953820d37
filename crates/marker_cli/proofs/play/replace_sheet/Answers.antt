use Rattle.std.proofs.Common.{refl}
use Rattle.marker_cli.proofs.PlayLemmas.{where_ok}
use Rattle.std.specs.Prelude.{Err}
use Rattle.marker_cli.specs.declared.status.Status.TheVariants.{Memory}
use Rattle.marker_cli.specs.Editors.{depth_of, document_of, versions_of}
use Rattle.plain_types.specs.declared.edit.Edit.TheVariants.{ReplaceSheet}
use Rattle.marker_cli.proofs.PlayedLemmas.{played_done, played_stopped}
use Rattle.marker_cli.proofs.play.replace_sheet.Goals as goal

pub returns-in-Ok-clause-ok : goal.returns-in-Ok-clause-ok
returns-in-Ok-clause-ok g c = where_ok c.apply.result c.in-Ok.is c.apply.ensures.answer.done

pub returns-in-Ok-clause-takes : goal.returns-in-Ok-clause-takes
returns-in-Ok-clause-takes g c files commands =
    played_done files (depth_of c.args.editor.now) commands c.apply.result (ReplaceSheet c.args.text) (versions_of c.args.editor.now) _ (document_of c.args.editor.now) _ _ _
    c.apply.ensures.answer c.apply.ensures.takes tt c.in-Ok.is

pub returns-clause-takes : goal.returns-clause-takes
returns-clause-takes g c files commands =
    played_stopped files (depth_of c.args.editor.now) commands c.apply.result (ReplaceSheet c.args.text) (versions_of c.args.editor.now) _ (document_of c.args.editor.now) _ _ _
    c.apply.ensures.answer c.apply.ensures.takes (Err Memory) refl c.in-Err.is
