use Rattle.marker_cli.proofs.PlayBookLemmas.{at_missed}
use Rattle.marker_cli.proofs.PlayLemmas.{goes_put}
use Rattle.marker_cli.specs.OpenVolumes.{book_of}
use Rattle.marker_cli.proofs.play_book.enter_chapter.Goals as goal

pub returns-else-enter-clause-told : goal.returns-else-enter-clause-told
returns-else-enter-clause-told g c next =
    goes_put c.put_no_document.result (at_missed c.args.number (book_of c.args.book.now) (book_of c.enter.new.self) _ next _ c.if-enter.ensures.answer.0 c.if-enter.ensures.answer.1)
    c.put_no_document.ensures.ok c.put_no_document.ensures.failed c.put_no_document.ensures.cause
