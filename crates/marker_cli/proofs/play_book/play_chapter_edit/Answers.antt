use Rattle.std.proofs.Common.{◌≡◌, ap, refl}
use Rattle.std.specs.Prelude.{Err, Some}
use Rattle.marker_cli.specs.declared.status.Status.TheVariants.{Memory}
use Rattle.node_arena.specs.Edits.{place_fault}
use Rattle.node_arena.specs.declared.place_fault.PlaceFault.TheVariants.{NoPlace, IntoItself}
use Rattle.marker_cli.proofs.PlayBookLemmas.{edit_done, edit_refused, edit_untold, left_done, left_refused}
use Rattle.marker_cli.proofs.PlayLemmas.{goes_on_so, goes_stopped, refused_so, where_err, where_ok}
use Rattle.marker_cli.specs.OpenVolumes.{book_of}
use Rattle.marker_cli.proofs.PlayedBookLemmas.{chapter_done, chapter_refused, chapter_stopped}
use Rattle.marker_cli.proofs.play_book.play_chapter_edit.Goals as goal

pub returns-in-Ok-clause-told : goal.returns-in-Ok-clause-told
returns-in-Ok-clause-told g c next =
    goes_on_so _ refl
    (edit_done _ c.args.edit.now (book_of c.args.book.now) _ next _ (where_ok c.apply.result c.in-Ok.is c.apply.ensures.place) (where_ok c.apply.result c.in-Ok.is c.apply.ensures.done))

pub returns-in_err-put_numbered-in-Err-NoPlace-clause-told : goal.returns-in_err-put_numbered-in-Err-NoPlace-clause-told
returns-in_err-put_numbered-in-Err-NoPlace-clause-told g c next =
    let is : place_fault c.args.edit.now (book_of c.args.book.now).present.tree ≡ Some NoPlace =
    refused_so _ c.apply.result _ NoPlace c.in-Err-NoPlace.is c.in-Err-NoPlace.field-0-is c.apply.ensures.refused c.apply.ensures.memory in
    goes_stopped c.from_residual.result c.from_residual.ensures
    (edit_untold _ c.args.edit.now (book_of c.args.book.now) _ next _ is refl c.in_err-put_numbered-in-Err-NoPlace.ensures.cause.failed c.in_err-put_numbered-in-Err-NoPlace.ensures.failed)

pub returns-in_err-put_numbered-in-Err-IntoItself-clause-told : goal.returns-in_err-put_numbered-in-Err-IntoItself-clause-told
returns-in_err-put_numbered-in-Err-IntoItself-clause-told g c next =
    let is : place_fault c.args.edit.now (book_of c.args.book.now).present.tree ≡ Some IntoItself =
    refused_so _ c.apply.result _ IntoItself c.in-Err-IntoItself.is c.in-Err-IntoItself.field-0-is c.apply.ensures.refused c.apply.ensures.memory in
    goes_stopped c.from_residual-in_err-put_numbered-in-Err-IntoItself.result c.from_residual-in_err-put_numbered-in-Err-IntoItself.ensures
    (edit_untold _ c.args.edit.now (book_of c.args.book.now) _ next _ is refl c.in_err-put_numbered-in-Err-IntoItself.ensures.cause.failed c.in_err-put_numbered-in-Err-IntoItself.ensures.failed)

pub returns-in-Ok-clause-left : goal.returns-in-Ok-clause-left
returns-in-Ok-clause-left g c =
    left_done c.args.number c.args.edit.now (book_of c.args.book.now) _ (where_ok c.apply.result c.in-Ok.is c.apply.ensures.place) (where_ok c.apply.result c.in-Ok.is c.apply.ensures.done)

pub returns-in_ok-put_numbered-in-Err-NoPlace-clause-left : goal.returns-in_ok-put_numbered-in-Err-NoPlace-clause-left
returns-in_ok-put_numbered-in-Err-NoPlace-clause-left g c =
    left_refused c.args.number c.args.edit.now (book_of c.args.book.now) _
    (refused_so _ c.apply.result _ NoPlace c.in-Err-NoPlace.is c.in-Err-NoPlace.field-0-is c.apply.ensures.refused c.apply.ensures.memory)
    (ap book_of (where_err c.apply.result c.in-Err-NoPlace.is c.apply.ensures.stays))

pub returns-in_ok-put_numbered-in-Err-IntoItself-clause-left : goal.returns-in_ok-put_numbered-in-Err-IntoItself-clause-left
returns-in_ok-put_numbered-in-Err-IntoItself-clause-left g c =
    left_refused c.args.number c.args.edit.now (book_of c.args.book.now) _
    (refused_so _ c.apply.result _ IntoItself c.in-Err-IntoItself.is c.in-Err-IntoItself.field-0-is c.apply.ensures.refused c.apply.ensures.memory)
    (ap book_of (where_err c.apply.result c.in-Err-IntoItself.is c.apply.ensures.stays))

pub returns-in-Ok-clause-takes : goal.returns-in-Ok-clause-takes
returns-in-Ok-clause-takes g c files commands =
    chapter_done files commands c.apply.result c.args.edit.now c.args.book.now _ _ _ c.apply.ensures.takes tt c.in-Ok.is c.apply.ensures.left

pub returns-in_ok-put_numbered-in-Err-NoPlace-clause-takes : goal.returns-in_ok-put_numbered-in-Err-NoPlace-clause-takes
returns-in_ok-put_numbered-in-Err-NoPlace-clause-takes g c files commands =
    chapter_refused files commands c.apply.result c.args.edit.now c.args.book.now _ _ _ c.apply.ensures.takes _ NoPlace (where_err c.apply.result c.in-Err-NoPlace.is c.apply.ensures.stays)
    (refused_so _ c.apply.result _ NoPlace c.in-Err-NoPlace.is c.in-Err-NoPlace.field-0-is c.apply.ensures.refused c.apply.ensures.memory) c.apply.ensures.steps

pub returns-in_err-put_numbered-in-Err-NoPlace-clause-takes : goal.returns-in_err-put_numbered-in-Err-NoPlace-clause-takes
returns-in_err-put_numbered-in-Err-NoPlace-clause-takes g c files commands =
    chapter_refused files commands c.apply.result c.args.edit.now c.args.book.now _ _ _ c.apply.ensures.takes c.from_residual.result NoPlace (where_err c.apply.result c.in-Err-NoPlace.is c.apply.ensures.stays)
    (refused_so _ c.apply.result _ NoPlace c.in-Err-NoPlace.is c.in-Err-NoPlace.field-0-is c.apply.ensures.refused c.apply.ensures.memory) c.apply.ensures.steps

pub returns-in_ok-put_numbered-in-Err-IntoItself-clause-takes : goal.returns-in_ok-put_numbered-in-Err-IntoItself-clause-takes
returns-in_ok-put_numbered-in-Err-IntoItself-clause-takes g c files commands =
    chapter_refused files commands c.apply.result c.args.edit.now c.args.book.now _ _ _ c.apply.ensures.takes _ IntoItself (where_err c.apply.result c.in-Err-IntoItself.is c.apply.ensures.stays)
    (refused_so _ c.apply.result _ IntoItself c.in-Err-IntoItself.is c.in-Err-IntoItself.field-0-is c.apply.ensures.refused c.apply.ensures.memory) c.apply.ensures.steps

pub returns-in_err-put_numbered-in-Err-IntoItself-clause-takes : goal.returns-in_err-put_numbered-in-Err-IntoItself-clause-takes
returns-in_err-put_numbered-in-Err-IntoItself-clause-takes g c files commands =
    chapter_refused files commands c.apply.result c.args.edit.now c.args.book.now _ _ _ c.apply.ensures.takes c.from_residual-in_err-put_numbered-in-Err-IntoItself.result IntoItself (where_err c.apply.result c.in-Err-IntoItself.is c.apply.ensures.stays)
    (refused_so _ c.apply.result _ IntoItself c.in-Err-IntoItself.is c.in-Err-IntoItself.field-0-is c.apply.ensures.refused c.apply.ensures.memory) c.apply.ensures.steps

pub returns-in-Err-Memory-clause-takes : goal.returns-in-Err-Memory-clause-takes
returns-in-Err-Memory-clause-takes g c files commands =
    chapter_stopped files commands c.apply.result c.args.edit.now c.args.book.now _ _ _ c.apply.ensures.takes (Err Memory) refl c.in-Err-Memory.is
