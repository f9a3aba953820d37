use Rattle.std.proofs.Common.{◌≡◌, refl}
use Rattle.std.specs.Prelude.{Err, Some}
use Rattle.marker_cli.specs.declared.status.Status.TheVariants.{Memory}
use Rattle.node_arena.specs.Edits.{place_fault}
use Rattle.node_arena.specs.declared.place_fault.PlaceFault.TheVariants.{NoPlace, IntoItself}
use Rattle.marker_cli.specs.Editors.{depth_of, document_of, versions_of}
use Rattle.marker_cli.proofs.PlayLemmas.{edit_done, edit_untold, goes_on_so, goes_stopped, refused_so, where_err, where_ok}
use Rattle.marker_cli.proofs.StepLemmas.{left_done, left_refused}
use Rattle.marker_cli.proofs.PlayedLemmas.{played_done, played_refused, played_stopped, version_there}
use Rattle.marker_cli.proofs.play.play_edit.Goals as goal

pub returns-in-Ok-clause-told : goal.returns-in-Ok-clause-told
returns-in-Ok-clause-told g c next alike =
    goes_on_so _ refl
    (edit_done (depth_of c.args.editor.now) _ c.args.edit.now (versions_of c.args.editor.now) _ next _ alike (where_ok c.apply.result c.in-Ok.is c.apply.ensures.answer.place) (where_ok c.apply.result c.in-Ok.is c.apply.ensures.answer.done))

pub returns-in_err-put_numbered-in-Err-NoPlace-clause-told : goal.returns-in_err-put_numbered-in-Err-NoPlace-clause-told
returns-in_err-put_numbered-in-Err-NoPlace-clause-told g c next alike =
    let is : place_fault c.args.edit.now (versions_of c.args.editor.now).present.document ≡ Some NoPlace =
    refused_so _ c.apply.result _ NoPlace c.in-Err-NoPlace.is c.in-Err-NoPlace.field-0-is c.apply.ensures.answer.refused c.apply.ensures.answer.memory in
    goes_stopped c.from_residual.result c.from_residual.ensures
    (edit_untold (depth_of c.args.editor.now) _ c.args.edit.now (versions_of c.args.editor.now) _ next _ is refl c.in_err-put_numbered-in-Err-NoPlace.ensures.cause.failed c.in_err-put_numbered-in-Err-NoPlace.ensures.failed)

pub returns-in_err-put_numbered-in-Err-IntoItself-clause-told : goal.returns-in_err-put_numbered-in-Err-IntoItself-clause-told
returns-in_err-put_numbered-in-Err-IntoItself-clause-told g c next alike =
    let is : place_fault c.args.edit.now (versions_of c.args.editor.now).present.document ≡ Some IntoItself =
    refused_so _ c.apply.result _ IntoItself c.in-Err-IntoItself.is c.in-Err-IntoItself.field-0-is c.apply.ensures.answer.refused c.apply.ensures.answer.memory in
    goes_stopped c.from_residual-in_err-put_numbered-in-Err-IntoItself.result c.from_residual-in_err-put_numbered-in-Err-IntoItself.ensures
    (edit_untold (depth_of c.args.editor.now) _ c.args.edit.now (versions_of c.args.editor.now) _ next _ is refl c.in_err-put_numbered-in-Err-IntoItself.ensures.cause.failed c.in_err-put_numbered-in-Err-IntoItself.ensures.failed)

pub returns-in-Ok-clause-left : goal.returns-in-Ok-clause-left
returns-in-Ok-clause-left g c =
    left_done (depth_of c.args.editor.now) c.args.edit.now (versions_of c.args.editor.now) _ _ (where_ok c.apply.result c.in-Ok.is c.apply.ensures.answer.place)
    (where_ok c.apply.result c.in-Ok.is c.apply.ensures.answer.done)

pub returns-in_ok-put_numbered-in-Err-NoPlace-clause-left : goal.returns-in_ok-put_numbered-in-Err-NoPlace-clause-left
returns-in_ok-put_numbered-in-Err-NoPlace-clause-left g c =
    left_refused (depth_of c.args.editor.now) c.args.edit.now (versions_of c.args.editor.now) _ _ NoPlace
    (refused_so _ c.apply.result _ NoPlace c.in-Err-NoPlace.is c.in-Err-NoPlace.field-0-is c.apply.ensures.answer.refused c.apply.ensures.answer.memory)
    (where_err c.apply.result c.in-Err-NoPlace.is c.apply.ensures.answer.stays)

pub returns-in_ok-put_numbered-in-Err-IntoItself-clause-left : goal.returns-in_ok-put_numbered-in-Err-IntoItself-clause-left
returns-in_ok-put_numbered-in-Err-IntoItself-clause-left g c =
    left_refused (depth_of c.args.editor.now) c.args.edit.now (versions_of c.args.editor.now) _ _ IntoItself
    (refused_so _ c.apply.result _ IntoItself c.in-Err-IntoItself.is c.in-Err-IntoItself.field-0-is c.apply.ensures.answer.refused c.apply.ensures.answer.memory)
    (where_err c.apply.result c.in-Err-IntoItself.is c.apply.ensures.answer.stays)

pub returns-in-Ok-clause-takes : goal.returns-in-Ok-clause-takes
returns-in-Ok-clause-takes g c files commands =
    played_done files (depth_of c.args.editor.now) commands c.apply.result c.args.edit.now (versions_of c.args.editor.now) _ (document_of c.args.editor.now) _ _ _
    c.apply.ensures.answer c.apply.ensures.takes tt c.in-Ok.is

pub returns-in_ok-put_numbered-in-Err-NoPlace-clause-takes : goal.returns-in_ok-put_numbered-in-Err-NoPlace-clause-takes
returns-in_ok-put_numbered-in-Err-NoPlace-clause-takes g c files commands =
    played_refused files (depth_of c.args.editor.now) commands c.apply.result c.args.edit.now (versions_of c.args.editor.now) _ (document_of c.args.editor.now) _ _ _
    c.apply.ensures.answer c.apply.ensures.takes _ NoPlace c.in-Err-NoPlace.is (version_there c.args.editor.now)
    (refused_so _ c.apply.result _ NoPlace c.in-Err-NoPlace.is c.in-Err-NoPlace.field-0-is c.apply.ensures.answer.refused c.apply.ensures.answer.memory) c.apply.ensures.steps

pub returns-in_err-put_numbered-in-Err-NoPlace-clause-takes : goal.returns-in_err-put_numbered-in-Err-NoPlace-clause-takes
returns-in_err-put_numbered-in-Err-NoPlace-clause-takes g c files commands =
    played_refused files (depth_of c.args.editor.now) commands c.apply.result c.args.edit.now (versions_of c.args.editor.now) _ (document_of c.args.editor.now) _ _ _
    c.apply.ensures.answer c.apply.ensures.takes c.from_residual.result NoPlace c.in-Err-NoPlace.is (version_there c.args.editor.now)
    (refused_so _ c.apply.result _ NoPlace c.in-Err-NoPlace.is c.in-Err-NoPlace.field-0-is c.apply.ensures.answer.refused c.apply.ensures.answer.memory) c.apply.ensures.steps

pub returns-in_ok-put_numbered-in-Err-IntoItself-clause-takes : goal.returns-in_ok-put_numbered-in-Err-IntoItself-clause-takes
returns-in_ok-put_numbered-in-Err-IntoItself-clause-takes g c files commands =
    played_refused files (depth_of c.args.editor.now) commands c.apply.result c.args.edit.now (versions_of c.args.editor.now) _ (document_of c.args.editor.now) _ _ _
    c.apply.ensures.answer c.apply.ensures.takes _ IntoItself c.in-Err-IntoItself.is (version_there c.args.editor.now)
    (refused_so _ c.apply.result _ IntoItself c.in-Err-IntoItself.is c.in-Err-IntoItself.field-0-is c.apply.ensures.answer.refused c.apply.ensures.answer.memory) c.apply.ensures.steps

pub returns-in_err-put_numbered-in-Err-IntoItself-clause-takes : goal.returns-in_err-put_numbered-in-Err-IntoItself-clause-takes
returns-in_err-put_numbered-in-Err-IntoItself-clause-takes g c files commands =
    played_refused files (depth_of c.args.editor.now) commands c.apply.result c.args.edit.now (versions_of c.args.editor.now) _ (document_of c.args.editor.now) _ _ _
    c.apply.ensures.answer c.apply.ensures.takes c.from_residual-in_err-put_numbered-in-Err-IntoItself.result IntoItself c.in-Err-IntoItself.is (version_there c.args.editor.now)
    (refused_so _ c.apply.result _ IntoItself c.in-Err-IntoItself.is c.in-Err-IntoItself.field-0-is c.apply.ensures.answer.refused c.apply.ensures.answer.memory) c.apply.ensures.steps

pub returns-in-Err-Memory-clause-takes : goal.returns-in-Err-Memory-clause-takes
returns-in-Err-Memory-clause-takes g c files commands =
    played_stopped files (depth_of c.args.editor.now) commands c.apply.result c.args.edit.now (versions_of c.args.editor.now) _ (document_of c.args.editor.now) _ _ _
    c.apply.ensures.answer c.apply.ensures.takes (Err Memory) refl c.in-Err-Memory.is
