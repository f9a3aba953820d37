use Rattle.std.proofs.Common.{◌∙◌, ap}
use Rattle.generated_texts.specs.StyleElements.{author_sheet}
use Rattle.dirty_walk.specs.Books.{StyledDocument}
use Rattle.dirty_walk.proofs.PlanLemmas.{its_author}
use Rattle.dirty_walk.proofs.book.Book.author.Goals as goal

pub returns : goal.returns
returns c = record {
  sheet = c.sheet.ensures.sheet ∙ its_author c.self.inside.styles c.self.inside.styles.sheet c.self.inside.arena.tree c.self.invariant.styles_are ∙ ap (λ (styled : StyledDocument). author_sheet styled.sheet styled.tree) c.self.view_is;
}
