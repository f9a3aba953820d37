use Rattle.std.proofs.Common.{◌≡◌, ◌∙◌, ap, subst}
use Rattle.book_definitions.specs.Chapters.{Chapter}
use Rattle.dirty_walk.specs.Books.{StyledDocument}
use Rattle.node_arena.specs.Document.{IsKeyedDocument}
use Rattle.book_refs.proofs.evaluated_chapter.EvaluatedChapter.arena.Goals as goal

pub returns : goal.returns
returns c =
    let same : c.arena-arena.result.now.tree ≡ c.args.self.now.document =
    c.arena-arena.ensures.tree ∙ ap (λ (styled : StyledDocument). styled.tree) c.book.ensures.book ∙ ap (λ (chapter : Chapter). chapter.document) c.self.view_is in
    record { tree = same; document = subst IsKeyedDocument same c.arena_holds_document.ensures.document }
