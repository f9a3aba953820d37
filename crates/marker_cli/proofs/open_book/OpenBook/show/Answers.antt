use Rattle.std.proofs.Common.{◌≡◌, ◌≤◌, ◌+◌, List, ℕ, ap, subst}
use Rattle.book_definitions.specs.Fresh.{fresh_chapter_dump}
use Rattle.ports.specs.Grown.{grown, GrowsByFront}
use Rattle.ports.proofs.GrownLemmas.{on_err}
use Rattle.marker_cli.specs.BookSteps.{show_chapter_steps}
use Rattle.marker_cli.specs.OpenBooks.{OpenBook, volume_of}
use Rattle.marker_cli.specs.OpenVolumes.{book_of}
use Rattle.marker_cli.proofs.FaultLemmas.{not_put}
use Rattle.marker_cli.proofs.OpenBookLemmas.{shown_so, shown_within}
use Rattle.marker_cli.proofs.open_book.OpenBook.show.Goals as goal

pub returns-in_err-show-clause-cause : goal.returns-in_err-show-clause-cause
returns-in_err-show-clause-cause g c = not_put _ _ c.from_residual.result c.from_residual.ensures c.in_err-show.ensures.cause.cause

pub returns-clause-ok : goal.returns-clause-ok
returns-clause-ok g c =
    subst (λ (book : OpenBook). g.O.Sink.out c.show.new.out ≡ grown (g.O.Sink.out c.args.out.now) (fresh_chapter_dump (volume_of book) book.present)) (ap book_of c.self.view_is)
    (shown_so c.self.inside.volume c.self.inside.present c.self.invariant (λ (dump : List ℕ). g.O.Sink.out c.show.new.out ≡ grown (g.O.Sink.out c.args.out.now) dump) c.in_ok-show.ensures.ok)

pub returns-in_err-show-clause-failed : goal.returns-in_err-show-clause-failed
returns-in_err-show-clause-failed g c =
    on_err _
    (subst (λ (book : OpenBook). GrowsByFront (g.O.Sink.out c.args.out.now) (g.O.Sink.out c.show.new.out) (fresh_chapter_dump (volume_of book) book.present)) (ap book_of c.self.view_is)
    (shown_so c.self.inside.volume c.self.inside.present c.self.invariant (λ (dump : List ℕ). GrowsByFront (g.O.Sink.out c.args.out.now) (g.O.Sink.out c.show.new.out) dump) c.in_err-show.ensures.failed))

pub returns-clause-steps : goal.returns-clause-steps
returns-clause-steps g c =
    subst (λ (book : OpenBook). c.show.new.steps ≤ c.args.steps.now + show_chapter_steps book) (ap book_of c.self.view_is)
    (shown_within c.self.inside.volume c.self.inside.present c.self.invariant c.work_is_that_of_the_trees.ensures.work c.volume_holds_chapters.ensures.volume
    c.show.new.steps c.args.steps.now c.show.ensures.steps)

pub returns-in_err-show-clause-steps : goal.returns-in_err-show-clause-steps
returns-in_err-show-clause-steps g c =
    subst (λ (book : OpenBook). c.show.new.steps ≤ c.args.steps.now + show_chapter_steps book) (ap book_of c.self.view_is)
    (shown_within c.self.inside.volume c.self.inside.present c.self.invariant c.work_is_that_of_the_trees.ensures.work c.volume_holds_chapters.ensures.volume
    c.show.new.steps c.args.steps.now c.show.ensures.steps)
