use Rattle.std.proofs.Common.{◌≡◌, ◌∙◌, ap, subst}
use Rattle.std.specs.Prelude.{IfSome, IsSome}
use Rattle.std.specs.Str.{chars}
use Rattle.book_definitions.specs.Chapters.{Chapter}
use Rattle.dirty_walk.specs.Books.{StyledDocument}
use Rattle.forest.specs.Forest.{Forest}
use Rattle.forest.specs.Keys.{Keyed}
use Rattle.generated_texts.specs.References.{first_holder}
use Rattle.node_arena.specs.Nodes.{name_of}
use Rattle.plain_types.specs.declared.node.Node.{Node}
use Rattle.book_refs.proofs.evaluated_chapter.EvaluatedChapter.first.Goals as goal

pub returns : goal.returns
returns c =
    let same : c.book.result.now.tree ≡ c.args.self.now.document = ap (λ (styled : StyledDocument). styled.tree) c.book.ensures.book ∙ ap (λ (chapter : Chapter). chapter.document) c.self.view_is in
    record {
      first = c.first.ensures.first ∙ ap (λ (t : Forest (Keyed Node)). first_holder t (chars c.args.id.now)) same;
      element = subst (λ (t : Forest (Keyed Node)). IfSome c.first.result (λ key. IsSome (name_of t key))) same c.first.ensures.element;
    }
