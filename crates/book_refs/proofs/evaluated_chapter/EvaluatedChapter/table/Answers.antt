use Rattle.std.proofs.Common.{◌∙◌, ap}
use Rattle.book_definitions.specs.Chapters.{chapter_styles}
use Rattle.dirty_walk.specs.Books.{StyledDocument}
use Rattle.generated_texts.specs.Documents.{counter_styles}
use Rattle.generated_texts.specs.StyleElements.{author_sheet}
use Rattle.book_refs.proofs.evaluated_chapter.EvaluatedChapter.table.Goals as goal

pub returns : goal.returns
returns c = record {
  table = c.table.ensures.table ∙ ap (λ (styled : StyledDocument). counter_styles (author_sheet styled.sheet styled.tree)) c.book.ensures.book ∙ ap chapter_styles c.self.view_is;
}
