use Rattle.std.proofs.Common.{◌∙◌, ap}
use Rattle.dirty_walk.specs.Books.{StyledDocument}
use Rattle.dirty_walk.proofs.PlanLemmas.{its_keys}
use Rattle.dirty_walk.proofs.book.Book.arena.Goals as goal

pub returns-clause-keys : goal.returns-clause-keys
returns-clause-keys c =
    its_keys c.self.inside.arena c.self.inside.planned (ap (λ (styled : StyledDocument). styled.settled) c.self.view_is ∙ c.requires.settled) c.self.invariant.keys
