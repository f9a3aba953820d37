use Rattle.std.proofs.Common.{◌∙◌, ap}
use Rattle.generated_texts.specs.Documents.{counter_styles}
use Rattle.generated_texts.specs.StyleElements.{author_sheet}
use Rattle.dirty_walk.specs.Books.{StyledDocument}
use Rattle.dirty_walk.proofs.PlanLemmas.{its_table}
use Rattle.dirty_walk.proofs.book.Book.table.Goals as goal

pub returns : goal.returns
returns c = record {
  table = its_table c.self.inside.styles c.self.inside.styles.sheet c.self.inside.arena.tree c.self.invariant.styles_are ∙ ap (λ (styled : StyledDocument). counter_styles (author_sheet styled.sheet styled.tree)) c.self.view_is;
}
