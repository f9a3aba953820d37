use Rattle.std.proofs.Common.{refl}
use Rattle.std.specs.Prelude.{Err}
use Rattle.marker_cli.specs.declared.status.Status.TheVariants.{Memory}
use Rattle.marker_cli.proofs.PlayLemmas.{where_ok}
use Rattle.plain_types.specs.declared.edit.Edit.TheVariants.{ReplaceSheet}
use Rattle.marker_cli.proofs.PlayedBookLemmas.{chapter_done, chapter_stopped}
use Rattle.marker_cli.proofs.play_book.replace_chapter_sheet.Goals as goal

pub returns-in-Ok-clause-ok : goal.returns-in-Ok-clause-ok
returns-in-Ok-clause-ok g c = where_ok c.apply.result c.in-Ok.is c.apply.ensures.done

pub returns-in-Ok-clause-takes : goal.returns-in-Ok-clause-takes
returns-in-Ok-clause-takes g c files commands =
    chapter_done files commands c.apply.result (ReplaceSheet c.args.text) c.args.book.now _ _ _ c.apply.ensures.takes tt c.in-Ok.is c.apply.ensures.left

pub returns-clause-takes : goal.returns-clause-takes
returns-clause-takes g c files commands =
    chapter_stopped files commands c.apply.result (ReplaceSheet c.args.text) c.args.book.now _ _ _ c.apply.ensures.takes (Err Memory) refl c.in-Err.is
